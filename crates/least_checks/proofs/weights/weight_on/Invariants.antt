use Rattle.std.proofs.Common.{◌≡◌, drop, filter}
use Rattle.rational.specs.Rational.{◌+ℚ◌}
use Rattle.frac128.specs.Limit.{limit}
use Rattle.frac128.specs.Calculation.{first_wide, sum_steps}
use Rattle.certs.specs.declared.evidence.Share.{Share}
use Rattle.certs.specs.Checks.{weight_operations}
use Rattle.certs.specs.Violation.{is_of, weight_on}
use Rattle.least_checks.proofs.weights.weight_on.Given as goal

-- the first wide operation is still to come, and the shares left make the rest of the sum
abbrev pub invariant-loop-share : goal.invariant-loop-share
invariant-loop-share l = record {
  width : first_wide limit (sum_steps (λ (t : Share). t.weight) l.sum (filter (λ t. is_of l.member t.source) (drop l.share-index l.shares))) ≡ first_wide limit (weight_operations l.shares l.member);
  sum : l.sum +ℚ weight_on (drop l.share-index l.shares) l.member ≡ weight_on l.shares l.member;
}
