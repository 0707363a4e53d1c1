use Rattle.std.proofs.Common.{◌≡◌, ◌++◌}
use Rattle.std.specs.Prelude.{All}
use Rattle.certs.specs.System.{bounding}
use Rattle.relaxation.specs.Origins.{IsMemberIn}
use Rattle.alt_polyhedron.proofs.listing.bounding_members.Given as goal

-- the members that are listed, and those that are still to come
abbrev pub invariant-loop-member : goal.invariant-loop-member
invariant-loop-member l = record {
  listed : l.list.items ++ bounding l.model l.member-iterator ≡ bounding l.model l.set.members;
  known : All (IsMemberIn l.model) l.member-iterator;
}
