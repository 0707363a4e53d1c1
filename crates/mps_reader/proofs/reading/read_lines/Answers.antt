use Rattle.std.proofs.Common.{sym, ◌∙◌}
use Rattle.std.proofs.lemmas.Result.{err_from_is_err_and}
use Rattle.mps_reader.proofs.Runs.{begins, step_stop, ended, goes_on, cut_off}
use Rattle.mps_reader.proofs.reading.read_lines.Goals as goal

pub loop-line-init : goal.loop-line-init
loop-line-init c = begins c.args.bytes.now c.args.reader.now c.start-context.result c.requires.new c.start-context.ensures

pub returns-in_err-take_line : goal.returns-in_err-take_line
returns-in_err-take_line c =
    let inv = c.loop-line.invariant in
    let p = err_from_is_err_and c.from_residual.result c.from_residual.ensures.1 in
    rw (p.1, p.2) (step_stop c.args.bytes.now c.loop-line.at c.loop-line.number c.loop-line.reader c.loop-line.context inv c.in-Some.line c.in-Some.ensures
    c.in_err-take_line.field-0.0 (c.in_err-take_line.ensures.takes inv.front inv.context_is inv.steps inv.holds))

pub returns-then-is_end : goal.returns-then-is_end
returns-then-is_end c =
    let inv = c.loop-line.invariant in
    let took = c.in_ok-take_line.ensures.takes inv.front inv.context_is inv.steps inv.holds in
    ended c.args.bytes.now c.loop-line.at c.loop-line.number c.loop-line.reader c.loop-line.context inv c.in-Some.line c.in-Some.ensures took.0
    c.take_line.new.reader c.take_line.new.context took.1 (c.in_ok-take_line.ensures.context inv.front inv.context_is) (sym c.is_end.ensures ∙ c.if-is_end.true)

pub loop-line-preserved : goal.loop-line-preserved
loop-line-preserved c =
    let inv = c.loop-line.invariant in
    let took = c.in_ok-take_line.ensures.takes inv.front inv.context_is inv.steps inv.holds in
    goes_on c.args.bytes.now c.loop-line.at c.loop-line.number c.loop-line.reader c.loop-line.context inv c.in-Some.line c.in-Some.ensures took.0
    c.take_line.new.reader c.take_line.new.context took.1 (c.in_ok-take_line.ensures.context inv.front inv.context_is) c.after_line-at.result (sym c.is_end.ensures ∙ c.if-is_end.false) c.after_line-at.ensures

pub returns : goal.returns
returns c = cut_off c.args.bytes.now c.loop-line.at c.loop-line.number c.loop-line.reader c.loop-line.context c.last_line.result c.refusal.result c.loop-line.invariant c.in_default.ensures c.last_line.ensures c.refusal.ensures
