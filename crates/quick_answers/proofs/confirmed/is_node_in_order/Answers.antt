use Rattle.std.proofs.Common.{sym, ◌∙◌}
use Rattle.quick_answers.proofs.Confirming.{node_ordered}
use Rattle.quick_answers.proofs.confirmed.is_node_in_order.Goals as goal

pub returns-in-Leaf : goal.returns-in-Leaf
returns-in-Leaf c = λ yes. node_ordered c.as_slice.result.now c.args.node.now c.in-Leaf.combo c.in-Leaf.is c.as_slice.ensures (sym c.are_in_order.ensures ∙ yes)
