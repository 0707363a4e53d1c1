use Rattle.std.proofs.Common.{List, Ok, Err, ◌∙◌, ap, subst}
use Rattle.lp_model.specs.Program.{Program}
use Rattle.report_text.specs.History.{HistoryValue}
use Rattle.report_text.specs.declared.report.Command.{Command}
use Rattle.analysis.specs.declared.pieces.Want.{Want}
use Rattle.analysis.specs.declared.pieces.Want.TheVariants.{Memory, Fault}
use Rattle.analysis.specs.Pieces.{ReportPut}
use Rattle.analysis.proofs.InGrammar.{all_in_grammar}
use Rattle.analysis.proofs.Report.{whole_is, fault_is, want_is}
use Rattle.analysis.proofs.pieces.analyse.Goals as goal

pub returns-in-Ok : goal.returns-in-Ok
returns-in-Ok g c =
    whole_is g.W.Sink.faults g.W.Sink.taken c.args.out.now c.args.model c.args.script.now c.put_report.new.out c.in-Ok.unmet c.status.result
    (all_in_grammar c.args.model c.args.script.now c.row_count-rows.ensures.well_formed c.requires.built) c.status.ensures
    (subst (λ (cs : List Command). ReportPut g.W.Sink.faults g.W.Sink.taken c.args.out.now c.put_report.new.out c.args.model cs (Ok c.in-Ok.unmet)) (c.as_slice.ensures.value ∙ c.script.view_is) (subst (λ (m : Program). ReportPut g.W.Sink.faults g.W.Sink.taken c.args.out.now c.put_report.new.out m c.as_slice.result.now (Ok c.in-Ok.unmet)) (ap (λ (v : HistoryValue). v.model) c.new-session.ensures) c.in-Ok.ensures))

pub returns-in-Err-Fault : goal.returns-in-Err-Fault
returns-in-Err-Fault g c =
    fault_is g.W.Sink.faults g.W.Sink.taken c.args.out.now c.args.model c.args.script.now c.put_report.new.out
    (all_in_grammar c.args.model c.args.script.now c.row_count-rows.ensures.well_formed c.requires.built)
    (subst (λ (cs : List Command). ReportPut g.W.Sink.faults g.W.Sink.taken c.args.out.now c.put_report.new.out c.args.model cs (Err Fault)) (c.as_slice.ensures.value ∙ c.script.view_is)
    (subst (λ (w : Want). ReportPut g.W.Sink.faults g.W.Sink.taken c.args.out.now c.put_report.new.out c.args.model c.as_slice.result.now (Err w)) c.in-Err-Fault.field-0-is (subst (λ (m : Program). ReportPut g.W.Sink.faults g.W.Sink.taken c.args.out.now c.put_report.new.out m c.as_slice.result.now (Err c.in-Err-Fault.field-0)) (ap (λ (v : HistoryValue). v.model) c.new-session.ensures) c.in-Err-Fault.ensures)))

pub returns : goal.returns
returns g c =
    want_is g.W.Sink.faults g.W.Sink.taken c.args.out.now c.args.model c.args.script.now c.put_report.new.out
    (all_in_grammar c.args.model c.args.script.now c.row_count-rows.ensures.well_formed c.requires.built)
    (subst (λ (cs : List Command). ReportPut g.W.Sink.faults g.W.Sink.taken c.args.out.now c.put_report.new.out c.args.model cs (Err Memory)) (c.as_slice.ensures.value ∙ c.script.view_is)
    (subst (λ (w : Want). ReportPut g.W.Sink.faults g.W.Sink.taken c.args.out.now c.put_report.new.out c.args.model c.as_slice.result.now (Err w)) c.in-Err-Memory.field-0-is
    (subst (λ (m : Program). ReportPut g.W.Sink.faults g.W.Sink.taken c.args.out.now c.put_report.new.out m c.as_slice.result.now (Err c.in-Err-Memory.field-0)) (ap (λ (v : HistoryValue). v.model) c.new-session.ensures) c.in-Err-Memory.ensures)))
