use Rattle.std.proofs.Common.{◌∙◌, ap, subst, List}
use Rattle.std.proofs.lemmas.Result.{err_from_is_err_and}
use Rattle.rational.specs.Rational.{◌+ℚ◌, neg_ℚ, zero_ℚ}
use Rattle.frac128.specs.declared.Op.TheVariants.{Plus}
use Rattle.certs.specs.Turns.{counted}
use Rattle.reductions.specs.declared.steps.Change.{Change}
use Rattle.reductions.specs.Back.{equation_work, taken_of}
use Rattle.trace_back.specs.Held.{weights_in}
use Rattle.trace_back.proofs.Works.{IsFirst, AreNarrow, first_here}
use Rattle.trace_back.proofs.Operations.{two_last}
use Rattle.trace_back.proofs.dual_steps.asked_of_equation.Goals as goal

pub returns-in_err-given : goal.returns-in_err-given
returns-in_err-given c =
    let n = c.args.weights.now.columns in
    let w = weights_in c.args.weights.now in
    let d = c.args.pair.now in
    let p = err_from_is_err_and c.from_residual.result c.from_residual.ensures.1 in
    rw (p.1, p.2)
    (first_here (equation_work n w zero_ℚ d.changes) _ c.in_err-given.field-0.0
    (subst (λ (l : List Change). IsFirst (equation_work n w zero_ℚ l) c.in_err-given.field-0.0) c.as_slice.ensures c.in_err-given.ensures))

pub returns : goal.returns
returns c =
    let n = c.args.weights.now.columns in
    let w = weights_in c.args.weights.now in
    let d = c.args.pair.now in
    two_last c.sum.result (equation_work n w zero_ℚ d.changes) (λ z. counted Plus z d.objective) (λ z. z +ℚ d.objective) c.in_ok-given.given (neg_ℚ (taken_of n d.changes w))
    (c.in_ok-given.ensures.0 ∙ ap (λ (l : List Change). neg_ℚ (taken_of n l w)) c.as_slice.ensures)
    (subst (λ (l : List Change). AreNarrow (equation_work n w zero_ℚ l)) c.as_slice.ensures c.in_ok-given.ensures.1) c.sum.ensures
