use Rattle.std.proofs.Common.{◌≡◌, ◌+◌}
use Rattle.std.specs.Prelude.{All}
use Rattle.certs.specs.Proof.{IsFittingNode}
use Rattle.quick_answers.specs.Value.{AllowsEach}
use Rattle.quick_answers.specs.Walks.{IsWalkPath}
use Rattle.quick_answers.proofs.trees.walk.Given as goal

-- the walk can go on; the nodes passed are taken off, and so many pivots were allowed for each
abbrev pub invariant-loop-node : goal.invariant-loop-node
invariant-loop-node g l = record {
  path : IsWalkPath l.model l.path;
  fitting : All IsFittingNode l.list.items;
  taken : l.left + l._node ≡ l.initial.left;
  allowed : AllowsEach (g.S.Suggest.allowed l.initial.run) (g.S.Suggest.allowed l.run) l.pivots l.initial.left l.left;
}
