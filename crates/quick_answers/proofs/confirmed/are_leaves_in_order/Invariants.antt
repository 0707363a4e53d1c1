use Rattle.std.proofs.Common.{take}
use Rattle.certs.specs.Order.{AreLeavesInOrder}
use Rattle.quick_answers.proofs.confirmed.are_leaves_in_order.Given as goal

-- those of the nodes passed do
abbrev pub invariant-loop-node : goal.invariant-loop-node
invariant-loop-node l = AreLeavesInOrder (take l.node-index l.nodes)
