use Rattle.std.proofs.Common.{◌≡◌, drop, length}
use Rattle.std.specs.List.{list_any}
use Rattle.lp_model.specs.MemberSets.{empty_set}
use Rattle.certs.specs.Named.{node_uses}
use Rattle.cert_check.specs.Uses.{with_tested}
use Rattle.cert_check.proofs.members.used_members.Given as goal

-- what the set has and the nodes that are left use is all that the proof uses
abbrev pub invariant-loop-node : goal.invariant-loop-node
invariant-loop-node l = record {
  rows : l.used.rows ≡ length l.model.rows;
  columns : l.used.columns ≡ length l.model.columns;
  left : with_tested l.used (λ m. list_any (node_uses m) (drop l.node-index l.proof.nodes)) ≡ with_tested (empty_set l.model) (λ m. list_any (node_uses m) l.proof.nodes);
}
