use Rattle.std.proofs.Common.{◌∙◌, ap, sym, Some}
use Rattle.std.specs.Option.{option_map}
use Rattle.std.proofs.lemmas.Result.{err_from_is_err_and}
use Rattle.rational.specs.Rational.{ℚ, ◌/ℚ◌}
use Rattle.presolve.proofs.Single.{side_none, side_wide, side_fits}
use Rattle.presolve.proofs.limits.quotient.Goals as goal

pub returns-in_default : goal.returns-in_default
returns-in_default c = (ap (option_map (λ (s : ℚ). s /ℚ c.args.factor)) (sym c.in_default.is), side_none c.args.side c.args.factor c.in_default.is)

pub returns-in_err-quotient : goal.returns-in_err-quotient
returns-in_err-quotient c =
    let p = err_from_is_err_and c.from_residual.result c.from_residual.ensures.1 in
    let e = c.in_err-quotient.ensures in
    rw (p.1, p.2) (side_wide c.args.side c.args.factor c.in-Some.number _ c.in-Some.is e.0 e.1)

pub returns : goal.returns
returns c =
    let e = c.in_ok-quotient.ensures in (
      ap (λ (q : ℚ). Some q) e.0 ∙ ap (option_map (λ (s : ℚ). s /ℚ c.args.factor)) (sym c.in-Some.is),
      side_fits c.args.side c.args.factor c.in-Some.number c.in-Some.is e.1,
    )
