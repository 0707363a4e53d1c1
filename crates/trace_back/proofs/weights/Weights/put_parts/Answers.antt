use Rattle.reductions.specs.Back.{part_on}
use Rattle.trace_back.specs.Held.{weights_in}
use Rattle.trace_back.proofs.Writes.{now_sides}
use Rattle.trace_back.proofs.weights.Weights.put_parts.Goals as goal

pub returns : goal.returns
returns c = now_sides _ _ c.args.variable _ _ (λ side. part_on side c.args.times) (weights_in c.args.self.now) c.put_sides.ensures c.part_on.ensures c.part_on-2.ensures
