-- What a run of the program comes to.
use Rattle.std.specs.Prelude.{◌≡◌, ◌⊎◌, ⊤, ℕ, ◌≤◌, List, length, [], ◌∷◌, codes, map, Option, Some, None, IfSome, String, string_bytes}
use Rattle.std.specs.declared.alloc.Global.{Global}
use Rattle.lp_model.specs.Program.{Program}
use Rattle.report_text.specs.declared.report.Report.{Report}
use Rattle.report_reader.specs.Reading.{Reads}
use Rattle.cert_check.specs.declared.outcome.Outcome.TheVariants.{Accepted}
use Rattle.cert_check.specs.Trials.{trials, outcome_of}
use Rattle.analysis.specs.Puts.{PutWhole, PutFailed}
use Rattle.iis_run.specs.Causes.{IsModelOf, IsTrueReport}
use Rattle.iis_run.specs.Limits.{limit_of}
use Rattle.iis_run.specs.Run.{IsCaused}
use Rattle.iis_run.specs.Said.{Puts, Ends, status_of}
use Rattle.iis_run.specs.Words.{Request, request_of_texts}
use Rattle.iis_run.specs.declared.endings.Ending.{Ending}
use Rattle.iis_run.specs.declared.endings.Ending.TheVariants.{Checked}
use Rattle.iis_run.specs.declared.endings.Which.TheVariants.{Report as ReportFile}
use Rattle.report_page.specs.Pieces.{IsPage}

-- ---- the words
-- what `iisan verify` would be asked for by these words
abbrev pub verify_request : List (String Global) → Option Request
verify_request words = request_of_texts (codes "verify" ∷ map string_bytes words)

abbrev pub usage_line : List ℕ
usage_line = codes "usage: iisan_page MODEL REPORT\n"

-- ---- the page
-- a text, and how many entries of a report are settled, and how many are not
pub record PageValue : Type 0 where
  pub text : List ℕ
  pub settled : ℕ
  pub unsettled : ℕ

-- the check of the report against the program accepts it, with these counts; what the report says is true; and the text is a page, of which no text of the model's opens or closes a tag
pub record IsAcceptedPage (program : Program) (report : Report) (page : PageValue) : Type 0 where
  pub accepted : outcome_of report.entries (trials program report) ≡ Accepted page.settled page.unsettled
  pub holds : IsTrueReport program report
  pub text : IsPage [] page.text

-- the same of the report on the program that bytes are
pub record IsPageOf (program : Program) (bytes : List ℕ) (page : PageValue) : Type 0 where
  pub report : Report
  pub reads : Reads program bytes report
  pub is_page : IsAcceptedPage program report page

-- the bytes of a report's file are within the limit, and are this report on the program
pub record IsReportOn (program : Program) (bytes : List ℕ) (report : Report) : Type 0 where
  pub short : length bytes ≤ limit_of ReportFile
  pub reads : Reads program bytes report

-- the page of an accepted report on a program, where both are what the files of these names are, as far as these are told
pub record IsPaged (file : List ℕ → Option (List ℕ)) (model report : List ℕ) (page : PageValue) : Type 0 where
  pub program : Program
  pub declares : IfSome (file model) (λ m. IsModelOf model m program)
  pub entries : Report
  pub reads : IfSome (file report) (λ r. IsReportOn program r entries)
  pub is_page : IsAcceptedPage program entries page

-- such a page was put whole, and the status is 0 where all entries of its report are settled, and else 1
pub record PutsPage {K : Type 0} (file : List ℕ → Option (List ℕ)) (faults : K → ℕ) (taken : K → Option (List ℕ)) (old new : K) (model report : List ℕ) (status : ℕ) : Type 0 where
  pub page : PageValue
  pub is_page : IsPaged file model report page
  pub same : status ≡ status_of (Checked (Accepted page.settled page.unsettled))
  pub put : PutWhole faults taken old new page.text

-- the same, where the words ask for it
abbrev pub PutsPageOf : {K : Type 0} → (List ℕ → Option (List ℕ)) → (K → ℕ) → (K → Option (List ℕ)) → K → K → Option Request → ℕ → Type 0
PutsPageOf file faults taken old new (Some (Request.Verify model report)) status = PutsPage file faults taken old new model report status
PutsPageOf file faults taken old new _ status = ⊥

-- ---- no page
-- an ending other than that the report is accepted
abbrev pub IsUnaccepted : Ending → Type 0
IsUnaccepted (Checked (Accepted settled unsettled)) = ⊥
IsUnaccepted ending = ⊤

-- an ending that `iisan verify` has for these files, in which the report is not accepted
pub record IsRefusedBy (file : List ℕ → Option (List ℕ)) (before now : List ℕ → ℕ) (model report : List ℕ) (ending : Ending) : Type 0 where
  pub cause : IsCaused file before now (Some (Request.Verify model report)) ending
  pub unaccepted : IsUnaccepted ending

-- what `iisan verify` writes at such an ending is put, with its status
pub record SaysRefusal {K : Type 0} (file : List ℕ → Option (List ℕ)) (before now : List ℕ → ℕ) (faults : K → ℕ) (taken : K → Option (List ℕ)) (old new : K) (model report : List ℕ) (status : ℕ) : Type 0 where
  pub ending : Ending
  pub refused : IsRefusedBy file before now model report ending
  pub said : Ends faults taken old new ending status

-- the put of a page failed
pub record FailsToPut {K : Type 0} (file : List ℕ → Option (List ℕ)) (faults : K → ℕ) (taken : K → Option (List ℕ)) (old new : K) (model report : List ℕ) : Type 0 where
  pub page : PageValue
  pub is_page : IsPaged file model report page
  pub failed : PutFailed faults taken old new page.text

-- Where the words name no two files, the usage line and status 2. Else the put of the page failed, with status 4; or what `iisan verify` says of the files, which is not that the report is accepted.
abbrev pub PutsNoPage : {K : Type 0} → (List ℕ → Option (List ℕ)) → (List ℕ → ℕ) → (List ℕ → ℕ) → (K → ℕ) → (K → Option (List ℕ)) → K → K → Option Request → ℕ → Type 0
PutsNoPage file before now faults taken old new None status = (status ≡ 2) × Puts faults taken old new usage_line
PutsNoPage file before now faults taken old new (Some (Request.Verify model report)) status =
    ((status ≡ 4) × FailsToPut file faults taken old new model report) ⊎ SaysRefusal file before now faults taken old new model report status
PutsNoPage file before now faults taken old new (Some (Request.Analyse model script)) status = ⊥
PutsNoPage file before now faults taken old new (Some (Request.Make n)) status = ⊥
