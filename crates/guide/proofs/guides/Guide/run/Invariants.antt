use Rattle.std.proofs.Common.{◌≤◌}
use Rattle.guide.proofs.guides.Guide.run.Given as goal

abbrev pub invariant-loop-turn : goal.invariant-loop-turn
invariant-loop-turn l = l.pivots ≤ l.fn.pivots
