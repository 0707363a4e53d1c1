use Rattle.std.proofs.lemmas.Result.{err_from_is_err_and}
use Rattle.trace_back.proofs.Works.{value_first, value_second, value_last}
use Rattle.trace_back.proofs.points.pair_value.Goals as goal

pub returns-in_err-part : goal.returns-in_err-part
returns-in_err-part c =
    let d = c.args.pair.now in
    let p = err_from_is_err_and c.from_residual.result c.from_residual.ensures.1 in
    rw (p.1, p.2) (value_first d.a c.args.x d.c d.b _ c.in_err-part.ensures)

pub returns-in_err-rest : goal.returns-in_err-rest
returns-in_err-rest c =
    let d = c.args.pair.now in
    let p = err_from_is_err_and c.from_residual-in_err-rest.result c.from_residual-in_err-rest.ensures.1 in
    rw (p.1, p.2) (value_second d.a c.args.x d.c d.b _ c.in_ok-part.ensures.0 c.in_ok-part.ensures.1 _ c.in_err-rest.ensures)

pub returns : goal.returns
returns c =
    let d = c.args.pair.now in
    value_last d.a c.args.x d.c d.b _ c.in_ok-part.ensures.0 c.in_ok-part.ensures.1 _ c.in_ok-rest.ensures.0 c.in_ok-rest.ensures.1 c.quotient.result c.quotient.ensures
