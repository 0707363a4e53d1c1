use Rattle.std.proofs.Common.{sym, subst}
use Rattle.rational.specs.Rational.{ℚ, ◌<ℚ◌, zero_ℚ}
use Rattle.rational.proofs.Order.{positive_is, positive-one}
use Rattle.quick_run.proofs.combinations.once.Goals as goal

pub returns-clause-positive : goal.returns-clause-positive
returns-clause-positive c = subst (λ (z : ℚ). zero_ℚ <ℚ z) (sym c.whole.ensures) (positive_is.1 positive-one)
