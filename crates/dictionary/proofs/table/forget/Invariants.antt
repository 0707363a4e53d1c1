use Rattle.std.proofs.Common.{◌≡◌, ◌<◌, ℕ, [], Some, None}
use Rattle.std.specs.Prelude.{slice_index_or}
use Rattle.rational.specs.Rational.{zero_ℚ}
use Rattle.rational.specs.Linear.{factor_of}
use Rattle.dictionary.specs.Rows.{rows_of}
use Rattle.dictionary.proofs.table.forget.Given as goal

-- the values left are those before, and in the rows passed that have one the variable does not count
abbrev pub invariant-loop-place : goal.invariant-loop-place
invariant-loop-place g l = record {
  kept : (i : ℕ) (v : _) → slice_index_or l.values i None ≡ Some v → slice_index_or l.fn.values i None ≡ Some v;
  absent : (i : ℕ) (v : _) → slice_index_or l.values i None ≡ Some v → i < l.place → factor_of (slice_index_or (rows_of g.N.Exact.value l.rows) i []) l.variable ≡ zero_ℚ;
}
