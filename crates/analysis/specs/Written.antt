-- What an analysis writes: the head with the notes, an entry for each command, and the foot.
use Rattle.std.specs.Prelude.{◌≡◌, ◌⊎◌, ℕ, ◌+◌, ◌==◌, Bool, true, false, cond, List, [], ◌∷◌, ◌++◌, length, Option}
use Rattle.std.specs.List.{list_any}
use Rattle.lp_model.specs.Program.{Program}
use Rattle.lp_model.specs.Shown.{empty_program}
use Rattle.analysis.specs.Puts.{PutWhole, PutFailed, PutsNothing}
use Rattle.report_text.specs.declared.report.Command.{Command}
use Rattle.report_text.specs.declared.report.Answer.{Answer}
use Rattle.report_text.specs.declared.report.Answer.TheVariants.{Refused, NotLinear, Stopped}
use Rattle.report_text.specs.declared.report.Entry.{Entry}
use Rattle.report_text.specs.declared.report.Report.{Report}
use Rattle.report_text.specs.Grammar.{entries_phrases, report_lines, phrases_text, text_of}
use Rattle.report_text.specs.declared.phrases.Phrase.{Phrase}
use Rattle.report_printer.specs.Printing.{head_phrases}
use Rattle.report_text.specs.Form.{AreNumbered, IsReportFor}
use Rattle.analysis.specs.NamesAreWords.{HasWords}
use Rattle.analysis.specs.Right.{AreRight}

-- ---- the text
-- the head and the notes
abbrev pub head_text : Program → List ℕ
head_text model = phrases_text model (head_phrases model.notes)

-- the entries
abbrev pub entries_text : Program → List Entry → List ℕ
entries_text model entries = phrases_text model (entries_phrases model [] entries)

-- the last line, in which no name stands
abbrev pub foot_text : List ℕ
foot_text = phrases_text (empty_program false) (Phrase.Foot ∷ [])

-- the report of these entries, with the program's notes
abbrev pub report_of : Program → List Entry → Report
report_of model entries = record { notes = model.notes; entries = entries }

-- its whole text
abbrev pub whole_text : Program → List Entry → List ℕ
whole_text model entries = text_of (report_lines model (report_of model entries))

-- ---- the status
-- whether a command was not done: its answer is a stop or a refusal, or that the program is not linear
abbrev pub is_unmet : Answer → Bool
is_unmet (Stopped stop) = true
is_unmet (Refused r) = true
is_unmet (NotLinear j) = true
is_unmet _ = false

-- 1 where some command was not done
abbrev pub status_of : List Entry → ℕ
status_of entries = cond (list_any (λ e. is_unmet e.answer) entries) 1 0

-- ---- what is written
-- All commands are answered, and the whole text is put.
pub record IsWhole {K : Type 0} (faults : K → ℕ) (taken : K → Option (List ℕ)) (old new : K) (model : Program) (commands : List Command) (entries : List Entry) (status : ℕ) : Type 0 where
  pub all : length entries ≡ length commands
  pub status_is : status ≡ status_of entries
  pub put : PutWhole faults taken old new (whole_text model entries)

-- A put failed: a front of the head and the entries, and of the foot where all commands are answered, is put.
pub record IsCut {K : Type 0} (faults : K → ℕ) (taken : K → Option (List ℕ)) (old new : K) (model : Program) (commands : List Command) (entries : List Entry) (status : ℕ) : Type 0 where
  pub status_is : status ≡ 4
  pub put : PutFailed faults taken old new (head_text model ++ (entries_text model entries ++ cond (length entries == length commands) foot_text []))

-- There is want of memory: the head and the whole entries of the first commands are put, or nothing.
pub record IsWant {K : Type 0} (faults : K → ℕ) (taken : K → Option (List ℕ)) (old new : K) (model : Program) (entries : List Entry) (status : ℕ) : Type 0 where
  pub status_is : status ≡ 7
  pub put : PutWhole faults taken old new (head_text model ++ entries_text model entries) ⊎ PutsNothing faults taken old new

-- The entries are right, each with the number of its line, and where all names are words they are a report in the grammar; what is written is their text as far as the status tells.
pub record IsAnalysis {K : Type 0} (faults : K → ℕ) (taken : K → Option (List ℕ)) (old new : K) (model : Program) (commands : List Command) (status : ℕ) : Type 0 where
  pub entries : List Entry
  pub right : AreRight model commands entries
  pub numbered : AreNumbered model [] (2 + length model.notes) entries
  pub form : HasWords model → IsReportFor model (report_of model entries)
  pub written : IsWhole faults taken old new model commands entries status ⊎ (IsCut faults taken old new model commands entries status ⊎ IsWant faults taken old new model entries status)
