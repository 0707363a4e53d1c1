use Rattle.std.proofs.lemmas.Result.{err_from_is_err_and}
use Rattle.certs.proofs.ColumnSums.{product_wide, then_sum}
use Rattle.certs.proofs.sums.plus_product.Goals as goal

pub returns-in_err-product : goal.returns-in_err-product
returns-in_err-product c =
    let e = c.in_err-product.ensures in
    let p = err_from_is_err_and c.from_residual.result c.from_residual.ensures.1 in
    rw (p.1, p.2) (product_wide c.args.sum c.args.side c.args.number c.args.weight _ e.0 e.1)

pub returns : goal.returns
returns c =
    let e = c.in_ok-product.ensures in
    then_sum c.args.sum c.args.side c.args.number c.args.weight c.in_ok-product.product c.signed_sum.result e.0 e.1 c.signed_sum.ensures
