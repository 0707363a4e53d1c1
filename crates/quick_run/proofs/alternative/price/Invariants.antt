use Rattle.std.proofs.Common.{◌≡◌, length}
use Rattle.quick_run.proofs.alternative.price.Given as goal

abbrev pub invariant-loop-column : goal.invariant-loop-column
invariant-loop-column l = length l.values.items ≡ l.column
