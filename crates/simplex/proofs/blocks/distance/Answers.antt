use Rattle.std.proofs.Common.{sym, ◌∙◌}
use Rattle.std.proofs.lemmas.Result.{err_from_is_err_and}
use Rattle.frac128.specs.declared.Op.TheVariants.{Minus, Over}
use Rattle.frac128.proofs.Calculations.{first_wide-before}
use Rattle.rational.specs.Rational.{◌-ℚ◌}
use Rattle.certs.specs.Improves.{magnitude}
use Rattle.certs.specs.Turns.{counted}
use Rattle.simplex.proofs.Steps.{magnitude_none, over_done}
use Rattle.simplex.proofs.blocks.distance.Goals as goal

pub returns-in_err-left : goal.returns-in_err-left
returns-in_err-left g c =
    let a = g.N.Exact.value c.args.most in
    let b = g.N.Exact.value c.args.least in
    let p = err_from_is_err_and c.from_residual.result c.from_residual.ensures.1 in
    rw (p.1, p.2) (first_wide-before g.N.Exact.most (counted Minus a b) (counted Over (a -ℚ b) (magnitude (g.N.Exact.value c.args.factor))) _ c.in_err-left.ensures)

pub quotient-requires : goal.quotient-requires
quotient-requires g c = λ z. c.requires (magnitude_none (g.N.Exact.value c.args.factor) (sym c.magnitude.ensures ∙ z))

pub returns : goal.returns
returns g c =
    let a = g.N.Exact.value c.args.most in
    let b = g.N.Exact.value c.args.least in
    over_done g.N.Exact.most g.N.Exact.value (counted Minus a b) (a -ℚ b) (magnitude (g.N.Exact.value c.args.factor)) (g.N.Exact.value c.in_ok-left.left) (g.N.Exact.value c.magnitude.result) c.in_ok-left.ensures.0 c.magnitude.ensures c.in_ok-left.ensures.1 c.quotient.result c.quotient.ensures
