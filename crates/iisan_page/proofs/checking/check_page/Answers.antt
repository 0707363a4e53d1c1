use Rattle.std.proofs.Common.{◌≡◌, ◌⊎◌, ◌<◌, sym, ◌∙◌, ap, subst, ℕ, List, length, arith}
use Rattle.lp_model.specs.Program.{Program}
use Rattle.report_text.specs.History.{HistoryValue}
use Rattle.report_text.specs.Form.{IsReportFor}
use Rattle.report_text.specs.Grammar.{report_lines}
use Rattle.report_reader.specs.Reading.{Reads, IsReportStop}
use Rattle.report_page.specs.Pieces.{IsPage}
use Rattle.report_page.proofs.Turned.{commands_asked}
use Rattle.cert_check.specs.Trials.{outcome_of, trials}
use Rattle.cert_check.specs.declared.outcome.Outcome.{Outcome}
use Rattle.cert_check.proofs.Numbers.{lines_fit}
use Rattle.iis_run.specs.Causes.{ComesTo}
use Rattle.iis_run.specs.declared.endings.Ending.{Ending}
use Rattle.iis_run.proofs.Decided.{check_comes, stop_comes}
use Rattle.iisan_page.specs.Paged.{IsUnaccepted}
use Rattle.iisan_page.proofs.Accepted.{Says, accepted_page}
use Rattle.iisan_page.proofs.Refused.{no_report}
use Rattle.iisan_page.proofs.checking.check_page.Goals as goal

pub page-requires-clause-commands : goal.page-requires-clause-commands
page-requires-clause-commands c = commands_asked c.new-session.result.model c.in-Ok.report c.in-Ok.ensures.read.form

pub verify-requires-clause-form : goal.verify-requires-clause-form
verify-requires-clause-form c =
    subst (λ (m : Program). IsReportFor m c.in-Ok.report) (sym (c.into_model.ensures ∙ ap (λ (v : HistoryValue). v.model) (c.page.ensures.back ∙ c.read_report.ensures.back))) c.in-Ok.ensures.read.form

pub verify-requires-clause-short : goal.verify-requires-clause-short
verify-requires-clause-short c =
    let reads = c.in-Ok.ensures.read in
    let bytes = ap length reads.text in
    let lines = lines_fit (report_lines c.new-session.result.model c.in-Ok.report) in
    let short = c.requires in
    let fits : length (report_lines c.new-session.result.model c.in-Ok.report) < 2147483648 = omega arith in
    subst (λ (m : Program). length (report_lines m c.in-Ok.report) < 2147483648) (sym (c.into_model.ensures ∙ ap (λ (v : HistoryValue). v.model) (c.page.ensures.back ∙ c.read_report.ensures.back))) fits

pub returns-in-Ok-accepted_counts : goal.returns-in-Ok-accepted_counts
returns-in-Ok-accepted_counts c =
    let report = c.in-Ok.report in
    let first = ap (λ (v : HistoryValue). v.model) c.new-session.ensures in
    let same = c.into_model.ensures ∙ ap (λ (v : HistoryValue). v.model) (c.page.ensures.back ∙ c.read_report.ensures.back) ∙ first in
    let says = subst (λ (m : Program). Says m report c.verify.result) same (record { said = c.verify.ensures.said; notes = c.verify.ensures.notes; true_answers = c.verify.ensures.true_answers }) in
    let text = subst (λ (t : List ℕ). IsPage t c.page.new.into.items) c.new-text.ensures.items c.in-Ok-page.ensures.written in
    record {
      page = accepted_page c.args.model c.args.bytes.now report (record { text = c.page.new.into.items; settled = c.in-Ok-accepted_counts.counts.0; unsettled = c.in-Ok-accepted_counts.counts.1 }) c.verify.result
          (subst (λ (m : Program). Reads m c.args.bytes.now report) first c.in-Ok.ensures.read) says c.in-Ok-accepted_counts.ensures text;
      comes = tt;
      unaccepted = tt;
    }

pub returns-in-Err : goal.returns-in-Err
returns-in-Err c =
    let first = ap (λ (v : HistoryValue). v.model) c.new-session.ensures in
    record {
      page = tt;
      comes = subst (λ (e : Ending). ComesTo c.args.model c.args.bytes.now e) (sym c.stop_ending.ensures)
          (stop_comes c.args.model c.args.bytes.now c.in-Err.stop (subst (λ (m : Program). IsReportStop m c.args.bytes.now c.in-Err.stop) first c.in-Err.ensures.stop));
      unaccepted = subst IsUnaccepted (sym c.stop_ending.ensures) (no_report c.in-Err.stop);
    }

pub returns-in-Err-accepted_counts : goal.returns-in-Err-accepted_counts
returns-in-Err-accepted_counts c =
    let report = c.in-Ok.report in
    let first = ap (λ (v : HistoryValue). v.model) c.new-session.ensures in
    let same = c.into_model.ensures ∙ ap (λ (v : HistoryValue). v.model) (c.page.ensures.back ∙ c.read_report.ensures.back) ∙ first in
    let said = subst (λ (m : Program). (c.verify.result ≡ Outcome.Memory) ⊎ (c.verify.result ≡ outcome_of report.entries (trials m report))) same c.verify.ensures.said in
    record {
      page = tt;
      comes = subst (λ (e : Ending). ComesTo c.args.model c.args.bytes.now e) (sym c.in-Err-accepted_counts.ensures.0)
          (check_comes c.args.model c.args.bytes.now report c.verify.result (subst (λ (m : Program). Reads m c.args.bytes.now report) first c.in-Ok.ensures.read) said);
      unaccepted = c.in-Err-accepted_counts.ensures.1;
    }
