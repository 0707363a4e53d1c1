use Rattle.reductions.specs.Back.{by_maker as made_by}
use Rattle.trace_back.specs.Held.{weights_in}
use Rattle.trace_back.proofs.Writes.{now_sides}
use Rattle.trace_back.proofs.weights.Weights.put_made.Goals as goal

pub returns : goal.returns
returns c =
    now_sides _ _ c.args.variable _ _ (λ side. made_by c.args.lower c.args.upper side c.args.for_lower c.args.for_upper) (weights_in c.args.self.now) c.put_sides.ensures c.by_maker.ensures c.by_maker-2.ensures
