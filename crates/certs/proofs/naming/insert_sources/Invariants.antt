use Rattle.std.proofs.Common.{Bool, ◌||◌, take}
use Rattle.std.specs.List.{list_any}
use Rattle.lp_model.specs.declared.members.Member.{Member}
use Rattle.certs.specs.Violation.{is_of}
use Rattle.certs.specs.Named.{IsOfSize, IsPartBy}
use Rattle.certs.proofs.naming.insert_sources.Given as goal

-- the members that the shares passed name are there
abbrev pub invariant-loop-share : goal.invariant-loop-share
invariant-loop-share l = record {
  sized : IsOfSize l.set l.used;
  part : (test : Member → Bool) → IsPartBy l.set test l.initial.used → IsPartBy l.set (λ m. test m || list_any (λ s. is_of m s.source) (take l.share-index l.shares)) l.used;
}
