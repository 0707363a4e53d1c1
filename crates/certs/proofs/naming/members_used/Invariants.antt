use Rattle.std.proofs.Common.{take}
use Rattle.std.specs.List.{list_any}
use Rattle.certs.specs.Named.{IsOfSize, IsPartBy, node_uses}
use Rattle.certs.proofs.naming.members_used.Given as goal

-- the members that the nodes passed use are there
abbrev pub invariant-loop-node : goal.invariant-loop-node
invariant-loop-node l = record {
  sized : IsOfSize l.set l.used;
  part : IsPartBy l.set (λ m. list_any (node_uses m) (take l.node-index l.proof.nodes)) l.used;
}
