use Rattle.std.proofs.Common.{◌≡◌, ◌+◌, length}
use Rattle.std.specs.Prelude.{All}
use Rattle.lp_model.specs.MemberSets.{IsPossibleIn}
use Rattle.certs.specs.Elastic.{soft_members}
use Rattle.analysis.proofs.linear.soft_count.Given as goal

-- the members that are counted, and those that are still to come
abbrev pub invariant-loop-member : goal.invariant-loop-member
invariant-loop-member l = record {
  counted : l.count + length (soft_members l.member-iterator l.enforced.members) ≡ length (soft_members l.set.members l.enforced.members);
  known : All (IsPossibleIn l.enforced) l.member-iterator;
}
