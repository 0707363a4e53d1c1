use Rattle.std.proofs.Common.{take}
use Rattle.std.specs.List.{list_any}
use Rattle.certs.specs.Named.{IsOfSize, IsPartBy}
use Rattle.certs.specs.Violation.{is_of}
use Rattle.alt_polyhedron.proofs.supports.used_members.Given as goal

-- the members that the shares passed come from are there
abbrev pub invariant-loop-share : goal.invariant-loop-share
invariant-loop-share l = record {
  sized : IsOfSize l.set l.used;
  part : IsPartBy l.set (λ m. list_any (λ s. is_of m s.source) (take l.share-index l.combo.shares)) l.used;
}
