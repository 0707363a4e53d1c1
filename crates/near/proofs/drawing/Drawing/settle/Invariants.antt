use Rattle.std.proofs.Common.{◌≤◌}
use Rattle.near.proofs.drawing.Drawing.settle.Given as goal

abbrev pub invariant-loop-round : goal.invariant-loop-round
invariant-loop-round l = l.pivots ≤ l.fn.pivots
