-- The whole report from its pieces.
use Rattle.std.proofs.Common.{◌≡◌, refl, sym, ◌∙◌, ap, subst, ℕ, ◌==◌, Bool, cond, List, [], ◌∷◌, ◌++◌, append_assoc, length, Option, Ok, Err, inl, inr, eq-eqb}
use Rattle.std.proofs.lemmas.Bool.{cond-true}
use Rattle.lp_model.specs.Program.{Program}
use Rattle.report_text.specs.declared.report.Command.{Command}
use Rattle.report_text.specs.declared.report.Answer.{Answer}
use Rattle.report_text.specs.declared.report.Entry.{Entry}
use Rattle.analysis.specs.declared.pieces.Want.{Want}
use Rattle.analysis.specs.declared.pieces.Want.TheVariants.{Memory, Fault}
use Rattle.report_text.specs.declared.phrases.Phrase.{Phrase}
use Rattle.report_text.specs.Grammar.{entries_phrases}
use Rattle.report_printer.specs.Printing.{head_phrases}
use Rattle.analysis.specs.Puts.{PutWhole, PutFailed}
use Rattle.analysis.specs.Right.{IsGiven}
use Rattle.analysis.specs.Written.{head_text, entries_text, foot_text, whole_text, IsAnalysis}
use Rattle.analysis.specs.Pieces.{Answers, EntryPut, EntriesPut, ReportPut, TextPut, entry_text}
use Rattle.report_printer.proofs.Printed.{text_both}
use Rattle.analysis.proofs.InGrammar.{AllInGrammar}
use Rattle.analysis.proofs.Putting.{put_two, put_then_none, failed_after, failed_longer}

-- a right answer whose entry was not put whole
pub entry_err : {K : Type 0} (faults : K → ℕ) (taken : K → Option (List ℕ)) (old new : K) (first : Program) (before : List Command) (c : Command) (a : Answer) (text : List ℕ) (w : Want)
    → IsGiven first before c a → text ≡ entry_text first before c a → TextPut faults taken old new text (Err w) → EntryPut faults taken old new first before c (Err w)
entry_err faults taken old new first before c a text Fault r e p = (a, (r, subst (PutFailed faults taken old new) e p))
entry_err faults taken old new first before c a text Memory r e p = p

-- the text of a report is that of its parts
whole_parts : (model : Program) (entries : List Entry) → whole_text model entries ≡ head_text model ++ (entries_text model entries ++ foot_text)
whole_parts model entries =
    text_both model (head_phrases model.notes ++ entries_phrases model [] entries) (Phrase.Foot ∷ [])
    ∙ ap (λ (t : List ℕ). t ++ foot_text) (text_both model (head_phrases model.notes) (entries_phrases model [] entries))
    ∙ append_assoc (head_text model) (entries_text model entries) foot_text

module _ {K : Type 0} (faults : K → ℕ) (taken : K → Option (List ℕ)) (old : K) (model : Program) (commands : List Command) where
  -- the foot where all commands are answered
  abbrev tail : List Entry → List ℕ
  tail entries = cond (length entries == length commands) foot_text []

  -- no answer yet
  none : Answers model commands
  none = record { entries = []; right = record { rest = commands; first = refl; each = tt }; numbered = tt }

  -- the head was not put whole
  pub head_err : (new : K) (w : Want) → TextPut faults taken old new (head_text model) (Err w) → ReportPut faults taken old new model commands (Err w)
  unfolding none
  head_err new Fault p = (none, failed_longer faults taken old new (head_text model) (entries_text model [] ++ tail []) p)
  head_err new Memory p = (none, inr p)

  -- the entries were not
  pub entries_err : (middle new : K) (w : Want) → PutWhole faults taken old middle (head_text model) → EntriesPut faults taken middle new model commands (Err w) → ReportPut faults taken old new model commands (Err w)
  entries_err middle new Fault h (a, p) =
      (a, failed_after faults taken old middle new (head_text model) (entries_text model a.entries ++ tail a.entries) h (failed_longer faults taken middle new (entries_text model a.entries) (tail a.entries) p))
  entries_err middle new Memory h (a, p) = (a, inl (put_two faults taken old middle new (head_text model) (entries_text model a.entries) h p))

  -- where all commands are answered the foot is due
  tail_is : (entries : List Entry) → length entries ≡ length commands → tail entries ≡ foot_text
  tail_is entries e = cond-true (length entries == length commands) foot_text [] (eq-eqb (length entries) (length commands) e)

  -- the foot was not put whole
  pub foot_err : (middle late new : K) (stopped : Bool) (w : Want) → PutWhole faults taken old middle (head_text model) → EntriesPut faults taken middle late model commands (Ok stopped)
      → TextPut faults taken late new foot_text (Err w) → ReportPut faults taken old new model commands (Err w)
  foot_err middle late new stopped Fault h (a, p) q =
      let entries = a.answers.entries in (
        a.answers,
        subst (λ (t : List ℕ). PutFailed faults taken old new (head_text model ++ (entries_text model entries ++ t))) (sym (tail_is entries a.all))
            (failed_after faults taken old middle new (head_text model) (entries_text model entries ++ foot_text) h
            (failed_after faults taken middle late new (entries_text model entries) foot_text p q)),
      )
  foot_err middle late new stopped Memory h (a, p) q =
      (a.answers, inl (put_then_none faults taken old late new (head_text model ++ entries_text model a.answers.entries) (put_two faults taken old middle late (head_text model) (entries_text model a.answers.entries) h p) q))

  -- all was put
  pub all_put : (middle late new : K) (stopped : Bool) → PutWhole faults taken old middle (head_text model) → EntriesPut faults taken middle late model commands (Ok stopped)
      → PutWhole faults taken late new foot_text → ReportPut faults taken old new model commands (Ok stopped)
  all_put middle late new stopped h (a, p) q =
      let entries = a.answers.entries in (
        a,
        subst (PutWhole faults taken old new) (sym (whole_parts model entries))
            (put_two faults taken old middle new (head_text model) (entries_text model entries ++ foot_text) h (put_two faults taken middle late new (entries_text model entries) foot_text p q)),
      )

  -- ---- what it comes to
  pub whole_is : (new : K) (stopped : Bool) (status : ℕ) → AllInGrammar model commands → status ≡ cond stopped 1 0 → ReportPut faults taken old new model commands (Ok stopped) → IsAnalysis faults taken old new model commands status
  whole_is new stopped status form e (a, p) = record {
    entries = a.answers.entries;
    right = a.answers.right;
    numbered = a.answers.numbered;
    form = form a.answers;
    written = inl (record { all = a.all; status_is = e ∙ ap (λ (b : Bool). cond b 1 0) a.stopped_is; put = p });
  }

  pub fault_is : (new : K) → AllInGrammar model commands → ReportPut faults taken old new model commands (Err Fault) → IsAnalysis faults taken old new model commands 4
  fault_is new form (a, p) = record { entries = a.entries; right = a.right; numbered = a.numbered; form = form a; written = inr (inl (record { status_is = refl; put = p })) }

  pub want_is : (new : K) → AllInGrammar model commands → ReportPut faults taken old new model commands (Err Memory) → IsAnalysis faults taken old new model commands 7
  want_is new form (a, p) = record { entries = a.entries; right = a.right; numbered = a.numbered; form = form a; written = inr (inr (record { status_is = refl; put = p })) }
