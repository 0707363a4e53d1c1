use Rattle.std.proofs.lemmas.Result.{err_from_is_err_and}
use Rattle.rational.specs.Rational.{◌+ℚ◌, ◌*ℚ◌}
use Rattle.frac128.specs.declared.Op.TheVariants.{Plus, Times}
use Rattle.certs.specs.Turns.{counted}
use Rattle.trace_back.proofs.Works.{first_here}
use Rattle.trace_back.proofs.Operations.{two_last}
use Rattle.trace_back.proofs.bounds.with_product.Goals as goal

pub returns-in_err-product : goal.returns-in_err-product
returns-in_err-product c =
    let p = err_from_is_err_and c.from_residual.result c.from_residual.ensures.1 in
    rw (p.1, p.2) (first_here (counted Times c.args.factor c.args.value) _ _ c.in_err-product.ensures)

pub returns : goal.returns
returns c =
    let b = c.args.so_far in
    two_last c.sum.result (counted Times c.args.factor c.args.value) (λ z. counted Plus b z) (λ z. b +ℚ z) c.in_ok-product.product (c.args.factor *ℚ c.args.value) c.in_ok-product.ensures.0 c.in_ok-product.ensures.1 c.sum.ensures
