use Rattle.std.proofs.Common.{sym, ◌∙◌, ap}
use Rattle.std.proofs.lemmas.Result.{err_from_is_err_and}
use Rattle.rational.specs.Rational.{zero_ℚ}
use Rattle.frac128.specs.Limit.{limit}
use Rattle.frac128.specs.Calculation.{first_wide}
use Rattle.trace_back.specs.Held.{weights_in}
use Rattle.trace_back.specs.Taking.{give_work, given_with as more}
use Rattle.trace_back.proofs.Folding.{made-all, made-more, made-wide}
use Rattle.trace_back.proofs.Sums.{less_from_zero, given-made, given-work}
use Rattle.trace_back.proofs.taking.given_of.Goals as goal

pub returns-in_err-given : goal.returns-in_err-given
returns-in_err-given c =
    let n = c.args.weights.now.columns in
    let w = weights_in c.args.weights.now in
    let xs = c.args.changes.now in
    let p = err_from_is_err_and c.from_residual.result c.from_residual.ensures.1 in
    rw (p.1, p.2)
    (sym (ap (first_wide limit) (given-work n w zero_ℚ xs))
    ∙ made-wide (give_work n w) (more n w) zero_ℚ xs c.loop-change.change-index c.loop-change.given c.loop-change.invariant c.change-item.result c.loop-change-test.true c.change-item.is _ c.in_err-given.ensures)

pub loop-change-preserved : goal.loop-change-preserved
loop-change-preserved c =
    let n = c.args.weights.now.columns in
    let w = weights_in c.args.weights.now in
    made-more (give_work n w) (more n w) zero_ℚ c.args.changes.now c.loop-change.change-index c.loop-change.given c.loop-change.invariant c.change-item.result c.loop-change-test.true c.change-item.is _ c.in_ok-given.ensures.0 c.in_ok-given.ensures.1

pub returns : goal.returns
returns c =
    let n = c.args.weights.now.columns in
    let w = weights_in c.args.weights.now in
    let xs = c.args.changes.now in
    let m = made-all (give_work n w) (more n w) zero_ℚ xs c.loop-change.change-index c.loop-change.given c.loop-change.invariant c.loop-change-test.false in (
      m.0 ∙ given-made n w zero_ℚ xs ∙ less_from_zero _,
      sym (ap (first_wide limit) (given-work n w zero_ℚ xs)) ∙ m.1,
    )
