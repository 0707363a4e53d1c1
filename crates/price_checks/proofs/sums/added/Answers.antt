use Rattle.std.proofs.lemmas.Result.{err_from_is_err_and}
use Rattle.lp_model.specs.declared.members.Side.TheVariants.{Up}
use Rattle.certs.proofs.ColumnSums.{product_wide, then_sum}
use Rattle.price_checks.proofs.sums.added.Goals as goal

pub returns-in_err-product : goal.returns-in_err-product
returns-in_err-product c =
    let e = c.in_err-product.ensures in
    let p = err_from_is_err_and c.from_residual.result c.from_residual.ensures.1 in
    rw (p.1, p.2) (product_wide c.args.sum Up c.args.a c.args.b _ e.0 e.1)

pub returns : goal.returns
returns c =
    let e = c.in_ok-product.ensures in
    then_sum c.args.sum Up c.args.a c.args.b c.in_ok-product.product c.plus.result e.0 e.1 c.plus.ensures
