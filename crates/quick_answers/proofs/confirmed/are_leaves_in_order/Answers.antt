use Rattle.std.proofs.Common.{subst}
use Rattle.std.proofs.lemmas.List.{take_all}
use Rattle.certs.specs.Order.{AreLeavesInOrder}
use Rattle.quick_answers.proofs.Confirming.{leaves_more}
use Rattle.quick_answers.proofs.confirmed.are_leaves_in_order.Goals as goal

pub loop-node-preserved : goal.loop-node-preserved
loop-node-preserved c =
    leaves_more c.args.nodes.now c.loop-node.node-index c.node-item.result c.loop-node-test.true c.node-item.is (c.is_node_in_order.ensures c.if-not-is_node_in_order.false) c.loop-node.invariant

pub returns : goal.returns
returns c = λ yes. subst AreLeavesInOrder (take_all c.loop-node.node-index c.args.nodes.now c.loop-node-test.false) c.loop-node.invariant
