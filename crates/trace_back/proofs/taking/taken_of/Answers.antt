use Rattle.std.proofs.Common.{sym, ◌∙◌, ap}
use Rattle.std.proofs.lemmas.Result.{err_from_is_err_and}
use Rattle.rational.specs.Rational.{zero_ℚ}
use Rattle.frac128.specs.Limit.{limit}
use Rattle.frac128.specs.Calculation.{first_wide}
use Rattle.trace_back.specs.Held.{weights_in}
use Rattle.trace_back.specs.Taking.{take_work, taken_with as more}
use Rattle.trace_back.proofs.Folding.{made-all, made-more, made-wide}
use Rattle.trace_back.proofs.Sums.{from_zero, taken-made, taken-work}
use Rattle.trace_back.proofs.taking.taken_of.Goals as goal

pub returns-in_err-taken : goal.returns-in_err-taken
returns-in_err-taken c =
    let n = c.args.weights.now.columns in
    let w = weights_in c.args.weights.now in
    let xs = c.args.changes.now in
    let p = err_from_is_err_and c.from_residual.result c.from_residual.ensures.1 in
    rw (p.1, p.2)
    (sym (ap (first_wide limit) (taken-work n w zero_ℚ xs))
    ∙ made-wide (take_work n w) (more n w) zero_ℚ xs c.loop-change.change-index c.loop-change.taken c.loop-change.invariant c.change-item.result c.loop-change-test.true c.change-item.is _ c.in_err-taken.ensures)

pub loop-change-preserved : goal.loop-change-preserved
loop-change-preserved c =
    let n = c.args.weights.now.columns in
    let w = weights_in c.args.weights.now in
    made-more (take_work n w) (more n w) zero_ℚ c.args.changes.now c.loop-change.change-index c.loop-change.taken c.loop-change.invariant c.change-item.result c.loop-change-test.true c.change-item.is _ c.in_ok-taken.ensures.0 c.in_ok-taken.ensures.1

pub returns : goal.returns
returns c =
    let n = c.args.weights.now.columns in
    let w = weights_in c.args.weights.now in
    let xs = c.args.changes.now in
    let m = made-all (take_work n w) (more n w) zero_ℚ xs c.loop-change.change-index c.loop-change.taken c.loop-change.invariant c.loop-change-test.false in (
      m.0 ∙ taken-made n w zero_ℚ xs ∙ from_zero _,
      sym (ap (first_wide limit) (taken-work n w zero_ℚ xs)) ∙ m.1,
    )
