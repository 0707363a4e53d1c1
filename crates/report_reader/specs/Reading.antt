-- What bytes say: a report, or where they cease to be one.
use Rattle.std.specs.Prelude.{◌≡◌, ◌≢◌, ◌⊎◌, ⊤, ℕ, suc, List, [], ◌∷◌, ◌++◌, length}
use Rattle.phrase_reader.specs.Parts.{parts}
use Rattle.lp_model.specs.Program.{Program, IsWellFormed}
use Rattle.report_text.specs.declared.report.Report.{Report}
use Rattle.report_reader.specs.declared.reader.ReportStop.{ReportStop}
use Rattle.report_reader.specs.declared.reader.ReportStop.TheVariants.{BadLine, Truncated, Memory}
use Rattle.report_text.specs.Grammar.{Line, report_lines, text_of}
use Rattle.report_text.specs.Form.{IsReportFor}

-- the bytes are the lines of a report that stands in the grammar
pub record Reads (model : Program) (bytes : List ℕ) (report : Report) : Type 0 where
  pub form : IsReportFor model report
  pub text : bytes ≡ text_of (report_lines model report)

-- some report in the grammar begins with these lines, and goes on with the rest
pub record GoesOn (model : Program) (front : List Line) (rest : List Line) : Type 0 where
  pub report : Report
  pub form : IsReportFor model report
  pub lines : report_lines model report ≡ front ++ rest

-- these lines are the front of a report
abbrev pub IsFront : Program → List Line → Type 0
IsFront model front = (rest : List Line) × GoesOn model front rest

-- these lines are a report
abbrev pub IsWhole : Program → List Line → Type 0
IsWhole model lines = GoesOn model lines []

-- A line that is not the last part ends with its mark. After a whole report the last part counts as a line too, where it has a byte.
abbrev pub IsJudged : Program → List Line → Line → List Line → Type 0
IsJudged model front line back = (back ≢ []) ⊎ (IsWhole model front × (line ≢ []))

-- line number n is the first with which no report goes on
pub record IsBadLine (model : Program) (bytes : List ℕ) (n : ℕ) : Type 0 where
  pub front : List Line
  pub line : Line
  pub back : List Line
  pub cut : parts 10 bytes ≡ front ++ line ∷ back
  pub number : n ≡ suc (length front)
  pub judged : IsJudged model front line back
  pub right : IsFront model front
  pub wrong : ¬ (IsFront model (front ++ line ∷ []))

-- every whole line is right, and the bytes end before the report does
pub record IsTruncated (model : Program) (bytes : List ℕ) : Type 0 where
  pub lines : List Line
  pub last : Line
  pub cut : parts 10 bytes ≡ lines ++ last ∷ []
  pub right : IsFront model lines
  pub unfinished : ¬ (IsWhole model lines)

-- why bytes were not read as a report; memory may be refused at any time
abbrev pub IsReportStop : Program → List ℕ → ReportStop → Type 0
IsReportStop model bytes (BadLine n) = IsBadLine model bytes n
IsReportStop model bytes Truncated = IsTruncated model bytes
IsReportStop model bytes Memory = ⊤

-- ---- bytes come to at most one end
-- what is read has no bad line
abbrev pub ReadNotBadLaw : Type 0
ReadNotBadLaw = (model : Program) (bytes : List ℕ) (report : Report) (n : ℕ) → Reads model bytes report → ¬ (IsBadLine model bytes n)

-- nor is it truncated
abbrev pub ReadNotTruncatedLaw : Type 0
ReadNotTruncatedLaw = (model : Program) (bytes : List ℕ) (report : Report) → Reads model bytes report → ¬ (IsTruncated model bytes)

-- what has a bad line is not truncated
abbrev pub BadNotTruncatedLaw : Type 0
BadNotTruncatedLaw = (model : Program) (bytes : List ℕ) (n : ℕ) → IsBadLine model bytes n → ¬ (IsTruncated model bytes)

-- the bad line is one
abbrev pub OneBadLineLaw : Type 0
OneBadLineLaw = (model : Program) (bytes : List ℕ) (n m : ℕ) → IsBadLine model bytes n → IsBadLine model bytes m → n ≡ m

-- bytes are those of one report, where the names of the program differ
abbrev pub OneReportLaw : Type 0
OneReportLaw = (model : Program) (bytes : List ℕ) (r s : Report) → IsWellFormed model → Reads model bytes r → Reads model bytes s → r ≡ s

-- the lines of a report in the grammar are read as that report
abbrev pub PrintedLaw : Type 0
PrintedLaw = (model : Program) (report : Report) → IsReportFor model report → Reads model (text_of (report_lines model report)) report
