-- What single puts of an analysis come to.
use Rattle.std.specs.Prelude.{◌≡◌, ◌⊎◌, ⊤, ℕ, ◌+◌, ◌==◌, Bool, cond, List, [], ◌++◌, length, Option, Result, Ok, Err}
use Rattle.std.specs.List.{list_any}
use Rattle.lp_model.specs.Program.{Program}
use Rattle.report_text.specs.declared.report.Command.{Command}
use Rattle.report_text.specs.declared.report.Answer.{Answer}
use Rattle.report_text.specs.Grammar.{entry_phrases, phrases_text}
use Rattle.analysis.specs.declared.pieces.Want.{Want}
use Rattle.analysis.specs.declared.pieces.Want.TheVariants.{Memory, Fault}
use Rattle.analysis.specs.Puts.{PutWhole, PutFailed, PutsNothing}
use Rattle.report_text.specs.declared.report.Entry.{Entry}
use Rattle.report_text.specs.Turns.{after}
use Rattle.report_text.specs.Form.{AreNumbered}
use Rattle.analysis.specs.Right.{IsGiven, AreRight}
use Rattle.analysis.specs.Written.{is_unmet, head_text, entries_text, foot_text, whole_text}

-- the text of an entry after commands; the number of its line is not part of it
abbrev pub entry_text : Program → List Command → Command → Answer → List ℕ
entry_text first before command answer = phrases_text first (entry_phrases (after first before) (record { command = command; answer = answer; line = 0 }))

-- A right answer to a command after others was put whole, or a front of it; or nothing was for want of memory. With the whole it is told whether the command was not done.
abbrev pub EntryPut : {K : Type 0} → (K → ℕ) → (K → Option (List ℕ)) → K → K → Program → List Command → Command → Result Bool Want → Type 0
EntryPut faults taken old new first before command (Ok unmet) =
    (answer : Answer) × (IsGiven first before command answer × ((unmet ≡ is_unmet answer) × PutWhole faults taken old new (entry_text first before command answer)))
EntryPut faults taken old new first before command (Err Fault) = (answer : Answer) × (IsGiven first before command answer × PutFailed faults taken old new (entry_text first before command answer))
EntryPut faults taken old new first before command (Err Memory) = PutsNothing faults taken old new

-- a text was put whole or a front of it, or nothing for want of memory
abbrev pub TextPut : {K : Type 0} → (K → ℕ) → (K → Option (List ℕ)) → K → K → List ℕ → Result ⊤ Want → Type 0
TextPut faults taken old new text (Ok done) = PutWhole faults taken old new text
TextPut faults taken old new text (Err Fault) = PutFailed faults taken old new text
TextPut faults taken old new text (Err Memory) = PutsNothing faults taken old new

-- right answers to the first commands, each with the number of its line
pub record Answers (model : Program) (commands : List Command) : Type 0 where
  pub entries : List Entry
  pub right : AreRight model commands entries
  pub numbered : AreNumbered model [] (2 + length model.notes) entries

-- right answers to all, and whether some command was not done
pub record AllAnswers (model : Program) (commands : List Command) (stopped : Bool) : Type 0 where
  pub answers : Answers model commands
  pub all : length answers.entries ≡ length commands
  pub stopped_is : stopped ≡ list_any (λ e. is_unmet e.answer) answers.entries

-- the entries of all commands were put whole; or a front of those of the first ones; or those of the first ones whole, and no more for want of memory
abbrev pub EntriesPut : {K : Type 0} → (K → ℕ) → (K → Option (List ℕ)) → K → K → Program → List Command → Result Bool Want → Type 0
EntriesPut faults taken old new model commands (Ok stopped) = (a : AllAnswers model commands stopped) × PutWhole faults taken old new (entries_text model a.answers.entries)
EntriesPut faults taken old new model commands (Err Fault) = (a : Answers model commands) × PutFailed faults taken old new (entries_text model a.entries)
EntriesPut faults taken old new model commands (Err Memory) = (a : Answers model commands) × PutWhole faults taken old new (entries_text model a.entries)

-- the same of the whole report
abbrev pub ReportPut : {K : Type 0} → (K → ℕ) → (K → Option (List ℕ)) → K → K → Program → List Command → Result Bool Want → Type 0
ReportPut faults taken old new model commands (Ok stopped) = (a : AllAnswers model commands stopped) × PutWhole faults taken old new (whole_text model a.answers.entries)
ReportPut faults taken old new model commands (Err Fault) =
    (a : Answers model commands) × PutFailed faults taken old new (head_text model ++ (entries_text model a.entries ++ cond (length a.entries == length commands) foot_text []))
ReportPut faults taken old new model commands (Err Memory) =
    (a : Answers model commands) × (PutWhole faults taken old new (head_text model ++ entries_text model a.entries) ⊎ PutsNothing faults taken old new)
