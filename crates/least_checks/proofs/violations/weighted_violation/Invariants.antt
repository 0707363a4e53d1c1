use Rattle.std.proofs.Common.{◌≡◌, length}
use Rattle.std.specs.Prelude.{All}
use Rattle.rational.specs.Rational.{◌+ℚ◌, zero_ℚ}
use Rattle.frac128.specs.Limit.{limit}
use Rattle.frac128.specs.Calculation.{first_wide}
use Rattle.lp_model.specs.MemberSets.{IsMemberFor}
use Rattle.lp_model.specs.Satisfaction.{values_at}
use Rattle.certs.specs.Checks.{weighted_operations}
use Rattle.certs.specs.Violation.{weighted_violation}
use Rattle.least_checks.proofs.violations.weighted_violation.Given as goal

-- the first wide operation is still to come, and the members left make the rest of the sum
abbrev pub invariant-loop-member : goal.invariant-loop-member
invariant-loop-member l = record {
  known : All (IsMemberFor (length l.model.rows) (length l.model.columns)) l.member-iterator;
  width : first_wide limit (weighted_operations l.model l.sum l.member-iterator (values_at l.values)) ≡ first_wide limit (weighted_operations l.model zero_ℚ l.set.members (values_at l.values));
  sum : l.sum +ℚ weighted_violation l.model l.member-iterator (values_at l.values) ≡ weighted_violation l.model l.set.members (values_at l.values);
}
