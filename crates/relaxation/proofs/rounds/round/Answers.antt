use Rattle.std.proofs.Common.{subst}
use Rattle.relaxation.specs.declared.systems.Costs.TheVariants.{Ones}
use Rattle.relaxation.specs.Runs.{IsEased}
use Rattle.relaxation.proofs.Parts.{part_elastic}
use Rattle.relaxation.proofs.Reaching.{best_count}
use Rattle.relaxation.proofs.rounds.round.Goals as goal

pub ease-requires-clause-elastic : goal.ease-requires-clause-elastic
ease-requires-clause-elastic c =
    part_elastic c.args.model.now c.args.set.now c.args.enforced.now c.requires.same c.requires.linear c.requires.part c.stands_in_order.ensures.possible c.stands_in_order.ensures.in_order c.stands_in_order-2.ensures.in_order

pub met_or_further-requires-clause-elastic : goal.met_or_further-requires-clause-elastic
met_or_further-requires-clause-elastic c =
    part_elastic c.args.model.now c.args.set.now c.args.enforced.now c.requires.same c.requires.linear c.requires.part c.stands_in_order.ensures.possible c.stands_in_order.ensures.in_order c.stands_in_order-2.ensures.in_order

pub met_or_further-requires-clause-each : goal.met_or_further-requires-clause-each
met_or_further-requires-clause-each c =
    let model = c.args.model.now in
    let set = c.args.set.now.members in
    let enforced = c.args.enforced.now.members in
    best_count model set enforced Ones c.in-Optimal.values.values c.in-Optimal.field-1 (subst (IsEased model set enforced Ones) c.in-Optimal.is c.in_ok-solved.ensures.eased)
