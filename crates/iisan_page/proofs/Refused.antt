-- The causes of endings in which a report is not accepted.
use Rattle.std.proofs.Common.{◌≡◌, ◌≤◌, ℕ, List, length, Option, Some, None, Result, Ok, Err, subst}
use Rattle.std.specs.Prelude.{IfSome, IfOk, IfErr}
use Rattle.lp_model.specs.Program.{Program}
use Rattle.report_reader.specs.declared.reader.ReportStop.{ReportStop}
use Rattle.report_reader.specs.declared.reader.ReportStop.TheVariants.{BadLine, Truncated, Memory as NoMemory}
use Rattle.report_reader.specs.Reading.{Reads}
use Rattle.iis_run.specs.Causes.{IsModelOf, ComesTo, refused_ending}
use Rattle.iis_run.specs.Fetches.{IsFetchStop}
use Rattle.iis_run.specs.Limits.{limit_of}
use Rattle.iis_run.specs.Steps.{IsModelStop, IsQuietEnd}
use Rattle.iis_run.specs.declared.endings.Ending.{Ending}
use Rattle.iis_run.specs.declared.endings.Ending.TheVariants.{Checked}
use Rattle.iis_run.specs.declared.endings.Which.TheVariants.{Report as ReportFile}
use Rattle.iis_run.specs.declared.plans.Plan.TheVariants.{Say}
use Rattle.iis_run.specs.declared.words.Verb.TheVariants.{Verify}
use Rattle.iis_run.proofs.Decided.{model_planned, report_stopped, report_ended, second_planned}
use Rattle.iisan_page.specs.Paged.{PageValue, IsUnaccepted, IsRefusedBy, IsReportOn, IsPageOf, IsPaged}

-- ---- no report is accepted
no_model : (name : List ℕ) (file : Option (List ℕ)) (before now : ℕ) (e : Ending) → IsModelStop name file before now e → IsUnaccepted e
no_model name file before now (Checked outcome) h = absurd h
no_model name file before now _ h = tt

no_file : (file : Option (List ℕ)) (before now : ℕ) (e : Ending) → IsFetchStop file before now ReportFile e → IsUnaccepted e
no_file file before now (Checked outcome) h = absurd h
no_file file before now _ h = tt

pub no_report : (stop : ReportStop) → IsUnaccepted (refused_ending stop)
no_report (BadLine n) = tt
no_report Truncated = tt
no_report NoMemory = tt

-- ---- what the files come to
-- there is no model
pub model_stops : (file : List ℕ → Option (List ℕ)) (before now : List ℕ → ℕ) (model report : List ℕ) (e : Ending) → IsModelStop model (file model) (before model) (now model) e → IsQuietEnd before now e → IsRefusedBy file before now model report e
model_stops file before now model report e h quiet =
    record { cause = model_planned file before now Verify model report e h quiet; unaccepted = no_model model (file model) (before model) (now model) e h }

module _ (file : List ℕ → Option (List ℕ)) (before mid now : List ℕ → ℕ) (model report : List ℕ) (program : Program) (declares : IfSome (file model) (λ m. IsModelOf model m program)) where
  -- there is no report
  pub report_stops : (e : Ending) → before report ≤ mid report → IsFetchStop (file report) (mid report) (now report) ReportFile e → IsRefusedBy file before now model report e
  report_stops e later h =
      record {
        cause = second_planned file before mid now model report program Verify (Say e) declares later (report_stopped program (file report) (mid report) (now report) e h);
        unaccepted = no_file (file report) (mid report) (now report) e h;
      }

  module _ (bytes : List ℕ) (fetched : IfSome (file report) (λ b. (bytes ≡ b) × (length b ≤ limit_of ReportFile))) where
    -- the report is not accepted
    pub report_refused : (e : Ending) → before report ≤ mid report → ComesTo program bytes e → IsUnaccepted e → IsRefusedBy file before now model report e
    report_refused e later h unaccepted =
        record {
          cause = second_planned file before mid now model report program Verify (Say e) declares later (report_ended program (file report) (mid report) (now report) bytes e fetched h);
          unaccepted = unaccepted;
        }

    -- it is accepted
    pub report_paged : (page : PageValue) → IsPageOf program bytes page → IsPaged file model report page
    report_paged page p = record { program = program; declares = declares; entries = p.report; reads = by (file report) fetched; is_page = p.is_page }
      where
        by : (f : Option (List ℕ)) → IfSome f (λ b. (bytes ≡ b) × (length b ≤ limit_of ReportFile)) → IfSome f (λ r. IsReportOn program r p.report)
        by None h = tt
        by (Some b) h = record { short = h.1; reads = subst (λ (x : List ℕ). Reads program x p.report) h.0 p.reads }

    -- the one or the other
    pub page_or_refusal : (result : Result PageValue Ending) → before report ≤ mid report → IfOk result (IsPageOf program bytes) → IfErr result (ComesTo program bytes) → IfErr result IsUnaccepted
        → IfOk result (IsPaged file model report) × IfErr result (IsRefusedBy file before now model report)
    page_or_refusal (Ok page) later p h u = (report_paged page p, tt)
    page_or_refusal (Err e) later p h u = (tt, report_refused e later h u)
