use Rattle.trace_back.proofs.Whole.{order_law}
use Rattle.trace_back.proofs.laws.shares_come_in_order.Goals as goal

pub returns : goal.returns
returns c = order_law
