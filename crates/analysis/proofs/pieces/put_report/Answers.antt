use Rattle.std.proofs.Common.{subst, Err}
use Rattle.lp_model.specs.Program.{Program}
use Rattle.analysis.specs.Puts.{PutWhole}
use Rattle.analysis.specs.Pieces.{TextPut}
use Rattle.analysis.specs.Written.{head_text}
use Rattle.std.proofs.lemmas.Result.{err_from_is_err_and}
use Rattle.analysis.proofs.Report.{head_err, entries_err, foot_err, all_put}
use Rattle.analysis.proofs.pieces.put_report.Goals as goal

pub returns-in_err-put_head : goal.returns-in_err-put_head
returns-in_err-put_head g c =
    let p = err_from_is_err_and c.from_residual.result c.from_residual.ensures.1 in
    rw (p.1, p.2) (head_err g.W.Sink.faults g.W.Sink.taken c.args.out.now c.args.session.now.model c.args.commands.now c.put_head.new.out _ (subst (λ (m : Program). TextPut g.W.Sink.faults g.W.Sink.taken c.args.out.now c.put_head.new.out (head_text m) (Err c.in_err-put_head.field-0.0)) c.model.ensures c.in_err-put_head.ensures))

pub returns-in_err-unmet : goal.returns-in_err-unmet
returns-in_err-unmet g c =
    let p = err_from_is_err_and c.from_residual-in_err-unmet.result c.from_residual-in_err-unmet.ensures.1 in
    rw (p.1, p.2) (entries_err g.W.Sink.faults g.W.Sink.taken c.args.out.now c.args.session.now.model c.args.commands.now c.put_head.new.out c.put_entries.new.out _ (subst (λ (m : Program). PutWhole g.W.Sink.faults g.W.Sink.taken c.args.out.now c.put_head.new.out (head_text m)) c.model.ensures c.in_ok-put_head.ensures) c.in_err-unmet.ensures)

pub returns-in_err-put_foot : goal.returns-in_err-put_foot
returns-in_err-put_foot g c =
    let p = err_from_is_err_and c.from_residual-in_err-put_foot.result c.from_residual-in_err-put_foot.ensures.1 in
    rw (p.1, p.2)
    (foot_err g.W.Sink.faults g.W.Sink.taken c.args.out.now c.args.session.now.model c.args.commands.now c.put_head.new.out c.put_entries.new.out c.put_foot.new.out c.in_ok-unmet.unmet _ (subst (λ (m : Program). PutWhole g.W.Sink.faults g.W.Sink.taken c.args.out.now c.put_head.new.out (head_text m)) c.model.ensures c.in_ok-put_head.ensures) c.in_ok-unmet.ensures c.in_err-put_foot.ensures)

pub returns : goal.returns
returns g c =
    all_put g.W.Sink.faults g.W.Sink.taken c.args.out.now c.args.session.now.model c.args.commands.now c.put_head.new.out c.put_entries.new.out c.put_foot.new.out c.in_ok-unmet.unmet (subst (λ (m : Program). PutWhole g.W.Sink.faults g.W.Sink.taken c.args.out.now c.put_head.new.out (head_text m)) c.model.ensures c.in_ok-put_head.ensures) c.in_ok-unmet.ensures c.in_ok-put_foot.ensures
