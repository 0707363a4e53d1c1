-- The page of a report that its check accepts.
use Rattle.std.proofs.Common.{◌≡◌, ◌⊎◌, inl, inr, sym, ◌∙◌, subst, ℕ, List, []}
use Rattle.lp_model.specs.Program.{Program}
use Rattle.report_text.specs.declared.report.Report.{Report}
use Rattle.report_reader.specs.Reading.{Reads}
use Rattle.cert_check.specs.declared.outcome.Outcome.{Outcome}
use Rattle.cert_check.specs.declared.outcome.Outcome.TheVariants.{Accepted, Memory as Want}
use Rattle.cert_check.specs.Trials.{trials, outcome_of, IsAccepted}
use Rattle.cert_check.specs.Truth.{AreTrue}
use Rattle.report_page.specs.Pieces.{IsPage}
use Rattle.iisan_page.specs.Paged.{PageValue, IsPageOf}

-- an accepted outcome is that of the trials
of_trials : (o x : Outcome) (settled unsettled : ℕ) → o ≡ Accepted settled unsettled → (o ≡ Want) ⊎ (o ≡ x) → x ≡ Accepted settled unsettled
of_trials o x settled unsettled h (inl want) = absurd (cc)
of_trials o x settled unsettled h (inr same) = sym same ∙ h

-- what a check says of its report
pub record Says (model : Program) (report : Report) (o : Outcome) : Type 0 where
  pub said : (o ≡ Want) ⊎ (o ≡ outcome_of report.entries (trials model report))
  pub notes : IsAccepted o → report.notes ≡ model.notes
  pub true_answers : IsAccepted o → AreTrue model [] report.entries

pub accepted_page : (program : Program) (bytes : List ℕ) (report : Report) (page : PageValue) (o : Outcome) → Reads program bytes report → Says program report o → o ≡ Accepted page.settled page.unsettled → IsPage [] page.text → IsPageOf program bytes page
accepted_page program bytes report page o reads says h text =
    let passed : IsAccepted o = subst IsAccepted (sym h) tt in
    record {
      report = report;
      reads = reads;
      is_page = record {
        accepted = of_trials o (outcome_of report.entries (trials program report)) page.settled page.unsettled h says.said;
        holds = record { notes = says.notes passed; entries = says.true_answers passed };
        text = text;
      };
    }
