use Rattle.std.proofs.Common.{◌≡◌, ◌++◌, drop}
use Rattle.lp_reader.specs.State.{kept}
use Rattle.lp_reader.proofs.columns.list_terms.Given as goal

abbrev pub invariant-loop-place : goal.invariant-loop-place
invariant-loop-place l = l.list.items ++ kept (drop l.place l.sums.entries) ≡ kept l.sums.entries
