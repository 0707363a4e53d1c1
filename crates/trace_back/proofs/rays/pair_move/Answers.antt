use Rattle.std.proofs.Common.{◌∙◌, ap}
use Rattle.std.proofs.lemmas.Result.{err_from_is_err_and}
use Rattle.rational.specs.Rational.{◌*ℚ◌, ◌/ℚ◌, neg_ℚ}
use Rattle.frac128.specs.declared.Op.TheVariants.{Over, Times}
use Rattle.certs.specs.Turns.{counted}
use Rattle.trace_back.proofs.Works.{first_here}
use Rattle.trace_back.proofs.Operations.{two_last}
use Rattle.trace_back.proofs.rays.pair_move.Goals as goal

pub returns-in_err-ratio : goal.returns-in_err-ratio
returns-in_err-ratio c =
    let d = c.args.pair.now in
    let p = err_from_is_err_and c.from_residual.result c.from_residual.ensures.1 in
    rw (p.1, p.2) (first_here (counted Over d.a d.b) _ _ c.in_err-ratio.ensures)

pub returns : goal.returns
returns c =
    let d = c.args.pair.now in
    let x = c.args.x in
    two_last c.product.result (counted Over d.a d.b) (λ z. counted Times z x) (λ z. z *ℚ x) c.negate.result (neg_ℚ (d.a /ℚ d.b)) (c.negate.ensures ∙ ap neg_ℚ c.in_ok-ratio.ensures.0) c.in_ok-ratio.ensures.1 c.product.ensures
