use Rattle.std.proofs.Common.{◌≡◌, drop}
use Rattle.rational.specs.Rational.{zero_ℚ, eq_ℚ}
use Rattle.certs.specs.Checks.{every}
use Rattle.bound_checks.proofs.sums.are_zero.Given as goal

-- the sums left decide
abbrev pub invariant-loop-sum : goal.invariant-loop-sum
invariant-loop-sum l = every (λ q. eq_ℚ q zero_ℚ) (drop l.sum-index l.sums) ≡ every (λ q. eq_ℚ q zero_ℚ) l.sums
