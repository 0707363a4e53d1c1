use Rattle.std.proofs.Common.{◌≡◌, ℕ, ◌<◌, length, take, [], slice_index_or}
use Rattle.mps_reader.specs.Gathered.{cells_shown, cells_in}
use Rattle.mps_reader.proofs.terms.by_column.Given as goal

abbrev pub invariant-loop-place : goal.invariant-loop-place
invariant-loop-place l = record {
  len : length l.lists.items ≡ l.columns;
  each : (j : ℕ) → j < l.columns → slice_index_or (cells_shown l.lists.items) j [] ≡ cells_in j (take l.place l.entries.entries);
}
