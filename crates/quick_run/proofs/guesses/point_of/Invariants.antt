use Rattle.std.proofs.Common.{◌≡◌, length}
use Rattle.quick_run.proofs.guesses.point_of.Given as goal

abbrev pub invariant-loop-column : goal.invariant-loop-column
invariant-loop-column l = length l.list.items ≡ l.column
