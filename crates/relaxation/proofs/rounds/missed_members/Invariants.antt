use Rattle.std.proofs.Common.{Bool, filter, take}
use Rattle.lp_model.specs.declared.members.Member.{Member}
use Rattle.lp_model.specs.Members.{has}
use Rattle.certs.specs.Named.{IsOfSize, IsPartBy}
use Rattle.relaxation.specs.Stretching.{IsTestOf}
use Rattle.relaxation.proofs.rounds.missed_members.Given as goal

-- of the first members those are found that pass
abbrev pub invariant-loop-index : goal.invariant-loop-index
invariant-loop-index l = record {
  sized : IsOfSize l.set l.found;
  part : (test : Member → Bool) → IsTestOf l.soft.items l.values test → IsPartBy l.set (has (filter test (take l.index l.soft.items))) l.found;
}
