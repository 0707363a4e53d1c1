use Rattle.std.proofs.Common.{◌≤◌}
use Rattle.quick_run.proofs.descending.descend.Given as goal

abbrev pub invariant-loop-turn : goal.invariant-loop-turn
invariant-loop-turn l = l.pivots ≤ l.fn.pivots
