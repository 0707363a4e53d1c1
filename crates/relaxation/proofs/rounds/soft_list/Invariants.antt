use Rattle.std.proofs.Common.{◌≡◌, ◌++◌}
use Rattle.std.specs.Prelude.{All}
use Rattle.lp_model.specs.MemberSets.{IsPossibleIn}
use Rattle.certs.specs.Elastic.{soft_members}
use Rattle.relaxation.proofs.rounds.soft_list.Given as goal

-- the members that are listed, and those that are still to come
abbrev pub invariant-loop-member : goal.invariant-loop-member
invariant-loop-member l = record {
  listed : l.list.items ++ soft_members l.member-iterator l.enforced.members ≡ soft_members l.set.members l.enforced.members;
  known : All (IsPossibleIn l.enforced) l.member-iterator;
}
