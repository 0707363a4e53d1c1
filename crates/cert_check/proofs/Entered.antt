-- Entries one after another: where the trials of those that are left stop the check.
use Rattle.std.proofs.Common.{◌≡◌, ◌<◌, ◌+◌, refl, sym, ◌∙◌, ap, List, [], ◌∷◌, ◌++◌, length, take, drop, get_or, ℕ, Option, None, Some, false, Result, Ok, Err}
use Rattle.std.proofs.lemmas.List.{take_more}
use Rattle.std.specs.Option.{is_some}
use Rattle.std.specs.Prelude.{OnOk}
use Rattle.lp_model.specs.Program.{Program}
use Rattle.report_text.specs.History.{HistoryValue, standing}
use Rattle.report_text.specs.Session.{session_at, Takes}
use Rattle.report_text.specs.declared.report.Answer.{Answer}
use Rattle.report_text.specs.declared.report.Command.{Command}
use Rattle.report_text.specs.declared.report.Entry.{Entry}
use Rattle.report_text.specs.Turns.{after, answer_after, edits_after, entry_commands}
use Rattle.report_text.proofs.InTurn.{gathered-at, commands_push}
use Rattle.report_text.proofs.Replies.{nothing_done}
use Rattle.report_text.proofs.Taken.{session_stays}
use Rattle.report_text.proofs.Unchanged.{columns_same, same_names}
use Rattle.cert_check.specs.declared.outcome.Stop.{Stop}
use Rattle.cert_check.specs.declared.outcome.Stop.TheVariants.{Memory}
use Rattle.cert_check.specs.Trials.{Trial, claim_trials, reply_trials, entry_trials, entries_trials}
use Rattle.cert_check.specs.Stops.{first_stop, IsStop, Says}
use Rattle.cert_check.specs.Replay.{Replays}
use Rattle.cert_check.proofs.Firsts.{passed_over, stop_first, stop_of, says_second, says_of}

-- what holds does so where nothing stops the check
pub on_ok : {P : Type 0} (r : Result (Unit {0}) Stop) → P → OnOk r P
on_ok (Ok done) p = p
on_ok (Err s) p = tt

-- ---- one entry, by the session before it
module _ (old : HistoryValue) (e : Entry) where
  -- the program of the session is the one after the commands
  claim_same : (first : Program) (before : List Command) → old ≡ session_at first before → first_stop (claim_trials old.model e) ≡ first_stop (claim_trials (after first before) e)
  claim_same first before is = ap (λ (v : HistoryValue). first_stop (claim_trials v.model e)) is

  -- what it claims stops the check
  pub claim_stops : (s : Stop) (new : HistoryValue) → IsStop (first_stop (claim_trials old.model e)) s → Replays old e (Err s) new
  claim_stops s new h = record {
    says = λ first before is.
        stop_first (claim_trials (after first before) e) (reply_trials (answer_after first before e.command) e.line e.answer) s (stop_of _ _ s (claim_same first before is) h);
    goes_on = tt;
  }

  -- memory was refused
  pub memory_stops : (new : HistoryValue) → Replays old e (Err Memory) new
  memory_stops new = record { says = λ first before is. tt; goes_on = tt }

  -- it passes, and what is said of the answer to an edit or an undo decides
  pub reply_says : (right : Option Answer) (new : HistoryValue) (r : Result (Unit {0}) Stop) → first_stop (claim_trials old.model e) ≡ None → Takes old e.command right new → Says (first_stop (reply_trials right e.line e.answer)) r → Replays old e r new
  reply_says right new r passes takes h = record {
    says = λ first before is.
        says_second (claim_trials (after first before) e) (reply_trials (answer_after first before e.command) e.line e.answer) r (sym (claim_same first before is) ∙ passes)
        (says_of _ _ r (ap (λ o. first_stop (reply_trials o e.line e.answer)) (takes.answers first before is)) h);
    goes_on = on_ok r takes.goes_on;
  }

-- ---- what no edit and no undo changes
-- a command that is answered nothing here leaves the program as it is
pub model_stays : (old new : HistoryValue) (command : Command) (first : Program) (before : List Command) → Takes old command None new → old ≡ session_at first before → new.model ≡ old.model
model_stays old new command first before takes is =
    let stays = session_stays first before command (ap (standing first (edits_after first before)) (nothing_done first before command (sym (takes.answers first before is)))) in
    ap (λ (v : HistoryValue). v.model) (takes.goes_on first before is ∙ sym stays ∙ sym is)

-- and no command changes how many columns there are
pub columns_stay : (old new : HistoryValue) (command : Command) (first : Program) (before : List Command) → old ≡ session_at first before → new ≡ session_at first (before ++ command ∷ []) → length old.model.columns ≡ length new.model.columns
columns_stay old new command first before is next =
    let count : HistoryValue → ℕ = λ v. length v.model.columns in
    ap count is ∙ columns_same first (after first before) (same_names first before) ∙ sym (ap count next ∙ columns_same first (after first (before ++ command ∷ [])) (same_names first (before ++ command ∷ [])))

-- what is not there is none
pub none_of : {A : Type 0} (o : Option A) → is_some o ≡ false → o ≡ None
none_of None e = refl
none_of (Some a) e = absurd (cc)

-- ---- entries

module _ (model : Program) (entries : List Entry) where
  -- those from number i on
  abbrev pub left : ℕ → List Trial
  left i = entries_trials model (entry_commands (take i entries)) (drop i entries)

  module _ (i : ℕ) (e : Entry) (within : i < length entries) (is : e ≡ get_or entries i e) where
    own : List Trial
    own = entry_trials model (entry_commands (take i entries)) e

    entry_at : first_stop (left i) ≡ first_stop (own ++ left (i + 1))
    unfolding own
    entry_at = ap first_stop (gathered-at (entry_trials model) entries i e within is)

    pub entry_stops : (s : Stop) → IsStop (first_stop (entry_trials model (entry_commands (take i entries)) e)) s → IsStop (first_stop (left i)) s
    unfolding own
    entry_stops s h = stop_of _ _ s (sym entry_at) (stop_first own (left (i + 1)) s h)

    pub entry_passes : first_stop (entry_trials model (entry_commands (take i entries)) e) ≡ None → first_stop (left (i + 1)) ≡ first_stop (left i)
    unfolding own
    entry_passes h = sym (entry_at ∙ passed_over own (left (i + 1)) h)

    -- the commands of one entry more
    pub commands_more : entry_commands (take i entries) ++ e.command ∷ [] ≡ entry_commands (take (i + 1) entries)
    commands_more = sym (ap entry_commands (take_more entries i e within ∙ ap (λ (x : Entry). take i entries ++ x ∷ []) (sym is)) ∙ commands_push (take i entries) e)
