-- What the told files call for.
use Rattle.std.specs.Prelude.{◌≡◌, ⊤, ℕ, ◌<◌, ◌≤◌, List, [], length, Option, Some, IfSome, IsSome}
use Rattle.lp_model.specs.Program.{Program}
use Rattle.text_fields.specs.declared.faults.ReadStop.{ReadStop}
use Rattle.model_files.specs.Formats.{Declares, format_of, model_fault}
use Rattle.report_text.specs.declared.report.Report.{Report as Entries}
use Rattle.report_reader.specs.Reading.{Reads, IsBadLine, IsTruncated}
use Rattle.cert_check.specs.declared.outcome.Outcome.{Outcome}
use Rattle.cert_check.specs.declared.outcome.Outcome.TheVariants.{Accepted, Rejected, Wide, Memory as Want}
use Rattle.cert_check.specs.Trials.{trials, outcome_of}
use Rattle.cert_check.specs.Truth.{AreTrue}
use Rattle.report_reader.specs.declared.reader.ReportStop.{ReportStop}
use Rattle.report_reader.specs.declared.reader.ReportStop.TheVariants.{BadLine, Truncated, Memory as NoMemory}
use Rattle.iis_run.specs.Limits.{limit_of}
use Rattle.iis_run.specs.declared.endings.Which.TheVariants.{Model, Report}
use Rattle.iis_run.specs.declared.endings.Ending.{Ending}
use Rattle.iis_run.specs.declared.endings.Ending.TheVariants.{TooLong, Memory, ModelRefused, BadReport, CutReport, Checked}

-- the bytes of a model's file of this name are within the limit and declare this program
pub record IsModelOf (name bytes : List ℕ) (program : Program) : Type 0 where
  pub short : length bytes ≤ limit_of Model
  pub declares : Declares name bytes program

-- they are within the limit and declare a program
pub record IsModel (name bytes : List ℕ) : Type 0 where
  pub short : length bytes ≤ limit_of Model
  pub program : Program
  pub declares : Declares name bytes program

-- within the limit, and they declare none: this is the fault
pub record IsNoModel (name bytes : List ℕ) (stop : ReadStop) : Type 0 where
  pub short : length bytes ≤ limit_of Model
  pub fault : model_fault (format_of name) bytes ≡ Some stop

-- what a check that was not stopped by want of memory may come to
abbrev pub IsDecided : Outcome → Type 0
IsDecided (Accepted settled unsettled) = ⊤
IsDecided (Rejected n) = ⊤
IsDecided (Wide n o) = ⊤
IsDecided Want = ⊥

-- the notes are the program's, and what each entry claims is so
pub record IsTrueReport (program : Program) (report : Entries) : Type 0 where
  pub notes : report.notes ≡ program.notes
  pub entries : AreTrue program [] report.entries

-- the bytes are a report, and its check against the program comes out so
pub record IsChecked (program : Program) (bytes : List ℕ) (outcome : Outcome) : Type 0 where
  pub report : Entries
  pub reads : Reads program bytes report
  pub found : outcome ≡ outcome_of report.entries (trials program report)

-- what the bytes of a report come to, for a program: a line with which no report goes on, an end that comes too soon, or a check
abbrev pub IsReportEnding : Program → List ℕ → Ending → Type 0
IsReportEnding program bytes (BadReport n) = IsBadLine program bytes n
IsReportEnding program bytes CutReport = IsTruncated program bytes
IsReportEnding program bytes (Checked outcome) = IsDecided outcome × IsChecked program bytes outcome
IsReportEnding program bytes _ = ⊥

-- the bytes of a report are within the limit, and come to this ending for the program that the model declares
pub record IsReported (name model report : List ℕ) (ending : Ending) : Type 0 where
  pub short : length report ≤ limit_of Report
  pub program : Program
  pub declares : Declares name model program
  pub comes : IsReportEnding program report ending

-- both files are told to be a model, whose name decides its format, and a report that comes to this ending, where they are told
abbrev pub AreReported : List ℕ → Option (List ℕ) → Option (List ℕ) → Ending → Type 0
AreReported name model report ending = IfSome model (IsModel name) × IfSome model (λ m. IfSome report (λ r. IsReported name m r ending))

-- the model of this name and the report, as far as they are told, call for this ending
abbrev pub CallsFor : List ℕ → Option (List ℕ) → Option (List ℕ) → Ending → Type 0
CallsFor name model report (TooLong Model) = IfSome model (λ m. limit_of Model < length m)
CallsFor name model report (TooLong Report) = IfSome model (IsModel name) × IfSome report (λ r. limit_of Report < length r)
CallsFor name model report (ModelRefused stop) = IfSome model (λ m. IsNoModel name m stop)
CallsFor name model report (BadReport n) = AreReported name model report (BadReport n)
CallsFor name model report CutReport = AreReported name model report CutReport
CallsFor name model report (Checked outcome) = IsDecided outcome × AreReported name model report (Checked outcome)
CallsFor name model report _ = ⊥

-- the files that the ending speaks of are told
abbrev pub IsToldFor : Option (List ℕ) → Option (List ℕ) → Ending → Type 0
IsToldFor model report (TooLong Model) = IsSome model
IsToldFor model report (ModelRefused stop) = IsSome model
IsToldFor model report _ = IsSome model × IsSome report

-- the outcome of a check as an ending, and a refused report as one
abbrev pub checked_ending : Outcome → Ending
checked_ending Want = Memory
checked_ending outcome = Checked outcome

-- a report that was not read
abbrev pub refused_ending : ReportStop → Ending
refused_ending (BadLine n) = BadReport n
refused_ending Truncated = CutReport
refused_ending NoMemory = Memory

-- what a report comes to, or want of memory
abbrev pub ComesTo : Program → List ℕ → Ending → Type 0
ComesTo program bytes Memory = ⊤
ComesTo program bytes ending = IsReportEnding program bytes ending
