use Rattle.std.proofs.Common.{◌≡◌, ◌⊎◌, ◌<◌, sym, ◌∙◌, ap, subst, length, arith}
use Rattle.lp_model.specs.Program.{Program}
use Rattle.report_text.specs.History.{HistoryValue}
use Rattle.report_text.specs.Form.{IsReportFor}
use Rattle.report_text.specs.Grammar.{report_lines}
use Rattle.report_reader.specs.Reading.{Reads, IsReportStop}
use Rattle.cert_check.specs.Trials.{outcome_of, trials}
use Rattle.cert_check.specs.declared.outcome.Outcome.{Outcome}
use Rattle.cert_check.proofs.Numbers.{lines_fit}
use Rattle.iis_run.specs.Causes.{ComesTo}
use Rattle.iis_run.specs.declared.endings.Ending.{Ending}
use Rattle.iis_run.proofs.Decided.{check_comes, stop_comes}
use Rattle.iis_run.proofs.reading.check_report.Goals as goal

pub verify-requires-clause-form : goal.verify-requires-clause-form
verify-requires-clause-form c =
    subst (λ (m : Program). IsReportFor m c.in-Ok.report) (sym (c.into_model.ensures ∙ ap (λ (v : HistoryValue). v.model) c.read_report.ensures.back)) c.in-Ok.ensures.read.form

pub verify-requires-clause-short : goal.verify-requires-clause-short
verify-requires-clause-short c =
    let reads = c.in-Ok.ensures.read in
    let bytes = ap length reads.text in
    let lines = lines_fit (report_lines c.new-session.result.model c.in-Ok.report) in
    let short = c.requires in
    let fits : length (report_lines c.new-session.result.model c.in-Ok.report) < 2147483648 = omega arith in
    subst (λ (m : Program). length (report_lines m c.in-Ok.report) < 2147483648) (sym (c.into_model.ensures ∙ ap (λ (v : HistoryValue). v.model) c.read_report.ensures.back)) fits

pub returns-in-Ok : goal.returns-in-Ok
returns-in-Ok c =
    let first = ap (λ (v : HistoryValue). v.model) c.new-session.ensures in
    let same = c.into_model.ensures ∙ ap (λ (v : HistoryValue). v.model) c.read_report.ensures.back ∙ first in
    subst (λ (e : Ending). ComesTo c.args.model c.args.bytes.now e) (sym c.outcome_ending.ensures)
    (check_comes c.args.model c.args.bytes.now c.in-Ok.report c.verify.result (subst (λ (m : Program). Reads m c.args.bytes.now c.in-Ok.report) first c.in-Ok.ensures.read)
    (subst (λ (m : Program). (c.verify.result ≡ Outcome.Memory) ⊎ (c.verify.result ≡ outcome_of c.in-Ok.report.entries (trials m c.in-Ok.report))) same c.verify.ensures.said))

pub returns-in-Err : goal.returns-in-Err
returns-in-Err c =
    let first = ap (λ (v : HistoryValue). v.model) c.new-session.ensures in
    subst (λ (e : Ending). ComesTo c.args.model c.args.bytes.now e) (sym c.stop_ending.ensures)
    (stop_comes c.args.model c.args.bytes.now c.in-Err.stop (subst (λ (m : Program). IsReportStop m c.args.bytes.now c.in-Err.stop) first c.in-Err.ensures.stop))
