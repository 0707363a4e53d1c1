use Rattle.std.proofs.Common.{◌≡◌, ◌≤◌, ◌-◌, ◌∷◌, length}
use Rattle.std.specs.Prelude.{All}
use Rattle.certs.specs.Proof.{IsFittingNode}
use Rattle.branch_proof.specs.Pending.{AreKnown, IsTurnable, pending}
use Rattle.branch_oracle.proofs.TakenNodes.{AreTaken}
use Rattle.branch_oracle.proofs.trees.solve_tree.Given as goal

-- what goes on from this path and those that it leaves to come, with the nodes that are left, goes on behind the nodes that were taken
abbrev pub invariant-loop-node : goal.invariant-loop-node
invariant-loop-node g l = record {
  untold : g.B.Oracle.state l.inner ≡ g.B.Oracle.state l.initial.inner;
  turnable : All IsTurnable l.path;
  known : AreKnown (length l.model.columns) l.path;
  counted : l.initial.taken ≤ l.taken;
  fits : All IsFittingNode l.list.items;
  left : AreTaken l.model l.set.members (record { pivots = (g.B.Oracle.state l.initial.inner).budgets.pivots; nodes = l.nodes }) l.list.items (l.nodes - l._node) (l.path ∷ pending l.path);
}
