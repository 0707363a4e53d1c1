use Rattle.std.proofs.Common.{◌∙◌, ap}
use Rattle.reductions.specs.Back.{unless_made as without}
use Rattle.trace_back.specs.Held.{weights_in}
use Rattle.trace_back.proofs.Writes.{now_unmade}
use Rattle.trace_back.proofs.weights.Weights.unmake.Goals as goal

pub returns : goal.returns
returns c =
    now_unmade _ _ c.args.variable c.args.lower c.args.upper _ _ (weights_in c.args.self.now) c.put_sides.ensures
    (c.unless_made-for_lower.ensures ∙ ap (without c.args.lower) c.at.ensures)
    (c.unless_made-for_upper.ensures ∙ ap (without c.args.upper) c.at-2.ensures)
