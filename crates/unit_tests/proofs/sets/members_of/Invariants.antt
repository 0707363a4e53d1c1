use Rattle.std.proofs.Common.{length}
use Rattle.std.specs.Prelude.{All}
use Rattle.lp_model.specs.MemberSets.{IsMemberFor}
use Rattle.certs.specs.Checks.{IsSetOf}
use Rattle.unit_tests.proofs.sets.members_of.Given as goal

-- the set is one of the program, and so are the members that are still to come
abbrev pub invariant-loop-member : goal.invariant-loop-member
invariant-loop-member l = record {
  same : IsSetOf l.model l.set;
  known : All (IsMemberFor (length l.model.rows) (length l.model.columns)) l.member-iterator;
}
