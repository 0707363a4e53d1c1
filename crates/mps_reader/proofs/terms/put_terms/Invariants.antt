use Rattle.std.proofs.Common.{◌≡◌, ℕ, ◌<◌, ◌++◌, length, map, take, [], slice_index_or}
use Rattle.mps_reader.specs.Gathered.{cell_shown, terms_shown, terms_at}
use Rattle.mps_reader.proofs.terms.put_terms.Given as goal

abbrev pub invariant-loop-index : goal.invariant-loop-index
invariant-loop-index l = record {
  len : length l.rows.items ≡ length l.initial.rows.items;
  each : (i : ℕ) → i < length l.initial.rows.items → slice_index_or (terms_shown l.rows.items) i [] ≡ slice_index_or (terms_shown l.initial.rows.items) i [] ++ terms_at l.column i (take l.index (map cell_shown l.cells));
}
