use Rattle.std.proofs.Common.{◌≡◌, length}
use Rattle.certs.specs.Order.{are_in_order}
use Rattle.certs.proofs.ordering.are_in_order.Given as goal

-- it is for those that are left to say
abbrev pub invariant-loop-left : goal.invariant-loop-left
invariant-loop-left l = are_in_order l.shares ≡ are_in_order l.left

abbrev pub decreases-loop-left : goal.decreases-loop-left
decreases-loop-left l = length l.left
