use Rattle.std.proofs.Common.{length}
use Rattle.std.specs.Prelude.{All, Contains}
use Rattle.lp_model.specs.Members.{weight}
use Rattle.lp_model.specs.MemberSets.{IsMemberFor}
use Rattle.certs.specs.Named.{IsOfSize}
use Rattle.certs.specs.Violation.{is_rigid}
use Rattle.least_checks.proofs.Passing.{HasPassing}
use Rattle.least_checks.proofs.violations.rigid_set.Given as goal

-- of the members that were passed the rigid ones are there
abbrev pub invariant-loop-member : goal.invariant-loop-member
invariant-loop-member l = record {
  known : All (IsMemberFor (length l.model.rows) (length l.model.columns)) l.member-iterator;
  inside : All (Contains l.set.members) l.member-iterator;
  size : IsOfSize l.set l.rigid;
  there : HasPassing (λ m. is_rigid (weight l.model m)) l.set l.member-iterator l.rigid;
}
