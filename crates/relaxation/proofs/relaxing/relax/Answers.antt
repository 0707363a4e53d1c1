use Rattle.relaxation.proofs.Parts.{rigid_elastic}
use Rattle.relaxation.proofs.relaxing.relax.Goals as goal

pub ease-requires-clause-elastic : goal.ease-requires-clause-elastic
ease-requires-clause-elastic c =
    rigid_elastic c.args.model.now c.args.set.now c.in-Ok.rigid c.requires.same c.requires.linear c.in-Ok.ensures.members c.stands_in_order.ensures.possible c.stands_in_order.ensures.in_order c.stands_in_order-2.ensures.in_order

pub least_at-requires-clause-elastic : goal.least_at-requires-clause-elastic
least_at-requires-clause-elastic c =
    rigid_elastic c.args.model.now c.args.set.now c.in-Ok.rigid c.requires.same c.requires.linear c.in-Ok.ensures.members c.stands_in_order.ensures.possible c.stands_in_order.ensures.in_order c.stands_in_order-2.ensures.in_order
