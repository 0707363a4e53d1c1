-- A command is answered right, and the session goes on.
use Rattle.std.proofs.Common.{◌≡◌, ◌⊎◌, inl, inr, ℕ, refl, sym, ◌∙◌, ap, subst, List, [], ◌∷◌, ◌++◌, Option, Some, None, Result, Ok, Err}
use Rattle.std.specs.Prelude.{IfOk}
use Rattle.lp_model.specs.Program.{Program}
use Rattle.lp_model.specs.declared.edits.Edit.{Edit as OneEdit}
use Rattle.report_text.specs.History.{HistoryValue, after_edits, standing}
use Rattle.report_text.specs.declared.report.Command.{Command}
use Rattle.report_text.specs.declared.report.Command.TheVariants.{Pivots, Nodes}
use Rattle.report_text.specs.declared.report.Answer.{Answer}
use Rattle.report_text.specs.declared.report.Answer.TheVariants.{Done, Refused}
use Rattle.report_text.specs.declared.phrases.Phrase.{Phrase}
use Rattle.report_text.specs.Turns.{after, answer_after, edits_after}
use Rattle.report_text.specs.Grammar.{answer_phrases, entry_phrases, phrases_text}
use Rattle.report_text.specs.Session.{session_at, IsReply, Takes}
use Rattle.report_text.proofs.Replies.{nothing_done, reply_after, reply_line}
use Rattle.report_text.proofs.Standing.{edits_after-push}
use Rattle.report_text.proofs.Taken.{session_stays}
use Rattle.report_text.proofs.Unchanged.{same_names, phrases_text_same}
use Rattle.report_printer.specs.Printing.{IsKnownAnswer}
use Rattle.analysis.specs.Right.{Right, RightAfter, RightBy, Settings, settings_in_force}
use Rattle.analysis.specs.Answers.{IsNext}
use Rattle.analysis.specs.Pieces.{entry_text}

module _ (old : HistoryValue) (settings : Settings) where
  -- what is asked of the program as it stands, and what sets a budget
  asked_next : (c : Command) (answer : Answer) → ((first : Program) (before : List Command) → answer_after first before c ≡ None) → Right old.model settings c answer → IsNext old old settings c answer
  asked_next c answer none h = record {
    goes_on = λ first before e. e ∙ session_stays first before c (ap (standing first (edits_after first before)) (nothing_done first before c (none first before)));
    right = λ first before e s.
        subst (λ (reply : Option Answer). RightBy reply (after first before) (settings_in_force before) c answer) (sym (none first before))
        (subst (λ p. Right p (settings_in_force before) c answer) (ap (λ (v : HistoryValue). v.model) e) (subst (λ t. Right old.model t c answer) s h));
  }

  pub budget_next : (c : Command) → ((n : ℕ) × (c ≡ Pivots n)) ⊎ ((n : ℕ) × (c ≡ Nodes n)) → IsNext old old settings c Done
  budget_next c (inl h) = subst (λ x. IsNext old old settings x Done) (sym h.1) (asked_next (Pivots h.0) Done (λ first before. refl) refl)
  budget_next c (inr h) = subst (λ x. IsNext old old settings x Done) (sym h.1) (asked_next (Nodes h.0) Done (λ first before. refl) refl)

  -- where a call may fail
  pub asked_nexts : {E : Type 0} (c : Command) (model : Program) (result : Result Answer E) → ((first : Program) (before : List Command) → answer_after first before c ≡ None)
      → model ≡ old.model → IfOk result (Right model settings c) → IfOk result (IsNext old old settings c)
  asked_nexts c model (Ok answer) none e h = asked_next c answer none (subst (λ p. Right p settings c answer) e h)
  asked_nexts c model (Err error) none e h = tt

  -- an edit or an undo
  pub replied_next : (c : Command) (answer : Answer) (new : HistoryValue) → Takes old c (Some answer) new → IsNext old new settings c answer
  replied_next c answer new t = record {
    goes_on = t.goes_on;
    right = λ first before e s. subst (λ (reply : Option Answer). RightBy reply (after first before) (settings_in_force before) c answer) (t.answers first before e) refl;
  }

  pub replied_nexts : {E : Type 0} (c : Command) (new : HistoryValue) (result : Result Answer E) → IfOk result (λ answer. Takes old c (Some answer) new) → IfOk result (IsNext old new settings c)
  replied_nexts c new (Ok answer) h = replied_next c answer new h
  replied_nexts c new (Err error) h = tt

-- a reply can be printed
pub known_reply : (model : Program) (answer : Answer) → IsReply answer → IsKnownAnswer model answer
known_reply model Done h = tt
known_reply model (Refused r) h = tt
known_reply model _ h = absurd h

pub known_replies : {E : Type 0} (model : Program) (result : Result Answer E) → IfOk result IsReply → IfOk result (IsKnownAnswer model)
known_replies model (Ok answer) h = known_reply model answer h
known_replies model (Err error) h = tt

-- the session in which nothing was edited yet
pub fresh_session : (session : HistoryValue) → session.formers ≡ [] → session ≡ session_at session.model []
fresh_session session e = ap (λ f. record { model = session.model; formers = f }) e

-- ---- the entry that is printed by the program after its command is the one by the program before it
module _ (first : Program) (before : List Command) where
  same_phrases : (c : Command) (a : Answer) → RightAfter first before c a → answer_phrases (after first (before ++ c ∷ [])) a ≡ answer_phrases (after first before) a
  same_phrases c a h = by (answer_after first before c) refl h
    where
      by : (reply : Option Answer) → answer_after first before c ≡ reply → RightBy reply (after first before) (settings_in_force before) c a → answer_phrases (after first (before ++ c ∷ [])) a ≡ answer_phrases (after first before) a
      by (Some right) e is = reply_line (after first (before ++ c ∷ [])) (after first before) a (subst IsReply (sym is) (reply_after first before c right e).0)
      by None e is = ap (λ (edits : List OneEdit). answer_phrases (after_edits first edits) a) (edits_after-push first before c ∙ ap (standing first (edits_after first before)) (nothing_done first before c e))

  -- and so the same text
  same_entry : (c : Command) (a : Answer) → RightAfter first before c a
      → phrases_text (after first (before ++ c ∷ [])) (entry_phrases (after first (before ++ c ∷ [])) (record { command = c; answer = a; line = 0 })) ≡ entry_text first before c a
  same_entry c a h =
      phrases_text_same first (after first (before ++ c ∷ [])) (same_names first (before ++ c ∷ [])) (entry_phrases (after first (before ++ c ∷ [])) (record { command = c; answer = a; line = 0 }))
      ∙ ap (λ phrases. phrases_text first (Phrase.Command c ∷ phrases)) (same_phrases c a h)

  -- as it is printed by the session's program
  pub printed_entry : (model : Program) (c : Command) (a : Answer) → model ≡ after first (before ++ c ∷ []) → RightAfter first before c a
      → phrases_text model (entry_phrases model (record { command = c; answer = a; line = 0 })) ≡ entry_text first before c a
  printed_entry model c a e h = ap (λ p. phrases_text p (entry_phrases p (record { command = c; answer = a; line = 0 }))) e ∙ same_entry c a h
