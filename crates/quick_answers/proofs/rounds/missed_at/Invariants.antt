use Rattle.std.proofs.Common.{◌≡◌, length}
use Rattle.std.specs.Prelude.{All, Contains}
use Rattle.rational.specs.Rational.{◌+ℚ◌}
use Rattle.lp_model.specs.MemberSets.{IsMemberFor}
use Rattle.lp_model.specs.Satisfaction.{values_at}
use Rattle.certs.specs.Named.{IsOfSize}
use Rattle.certs.specs.Violation.{total_violation}
use Rattle.least_checks.proofs.Passing.{HasPassing}
use Rattle.quick_answers.specs.Stretching.{is_further}
use Rattle.quick_answers.proofs.rounds.missed_at.Given as goal

-- the members that are still to come make the rest of the total, and of those that were passed the ones to be enforced are there
abbrev pub invariant-loop-member : goal.invariant-loop-member
invariant-loop-member l = record {
  known : All (IsMemberFor (length l.model.rows) (length l.model.columns)) l.member-iterator;
  inside : All (Contains l.set.members) l.member-iterator;
  size : IsOfSize l.set l.further;
  total : l.total +ℚ total_violation l.model l.member-iterator (values_at l.values) ≡ total_violation l.model l.set.members (values_at l.values);
  there : HasPassing (is_further l.model l.enforced.members (values_at l.values)) l.set l.member-iterator l.further;
}
