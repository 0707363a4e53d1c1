use Rattle.std.proofs.Common.{◌≡◌, ℕ, ◌<◌, length, [], slice_index_or}
use Rattle.mps_reader.specs.Gathered.{terms_shown, terms_to, factor_kept}
use Rattle.mps_reader.proofs.terms.terms_by_row.Given as goal

abbrev pub invariant-loop-column : goal.invariant-loop-column
invariant-loop-column l = record {
  len : length l.terms.items ≡ l.rows;
  each : (i : ℕ) → i < l.rows → slice_index_or (terms_shown l.terms.items) i [] ≡ terms_to (factor_kept l.entries.entries i) l.column;
}
