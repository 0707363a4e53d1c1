use Rattle.std.proofs.Common.{List}
use Rattle.std.specs.Prelude.{All, Contains}
use Rattle.lp_model.specs.declared.members.Member.{Member}
use Rattle.lp_model.specs.MemberSets.{IsPossibleIn}
use Rattle.certs.specs.Named.{IsOfSize}
use Rattle.elastic_filter.specs.Included.{IsPartWithin}
use Rattle.elastic_filter.proofs.Included.{HasGrown}
use Rattle.elastic_filter.proofs.enforcing.include.Given as goal

-- what is there, and what is still to come, are all that is to be there
abbrev pub invariant-loop-member : goal.invariant-loop-member
invariant-loop-member l = record {
  same : IsOfSize l.initial.enforced l.enforced;
  known : All (IsPossibleIn l.initial.enforced) l.member-iterator;
  grown : (set : List Member) → IsPartWithin l.initial.enforced set l.further.members
      → All (Contains set) l.member-iterator × HasGrown l.initial.enforced set l.further.members l.member-iterator l.enforced;
}
