use Rattle.std.proofs.Common.{◌≡◌, [], drop}
use Rattle.rational.specs.Rational.{◌+ℚ◌, zero_ℚ}
use Rattle.frac128.specs.Limit.{limit}
use Rattle.frac128.specs.Calculation.{first_wide}
use Rattle.certs.specs.Combination.{right_side}
use Rattle.certs.specs.Checks.{right_operations}
use Rattle.bound_checks.proofs.sums.right_side.Given as goal

-- the first wide operation is still to come, and the shares left make the rest of the sum
abbrev pub invariant-loop-share : goal.invariant-loop-share
invariant-loop-share l = record {
  width : first_wide limit (right_operations l.model [] l.sum (drop l.share-index l.shares)) ≡ first_wide limit (right_operations l.model [] zero_ℚ l.shares);
  sum : l.sum +ℚ right_side l.model [] (drop l.share-index l.shares) ≡ right_side l.model [] l.shares;
}
