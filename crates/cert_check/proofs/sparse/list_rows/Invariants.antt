use Rattle.std.proofs.Common.{◌≡◌, ◌<◌, ℕ, [], length, get_or, All}
use Rattle.lp_model.specs.Program.{row_at}
use Rattle.cert_check.specs.Sparse.{IsListed, listed_rows}
use Rattle.cert_check.proofs.sparse.list_rows.Given as goal

-- no row is listed for the columns so far
abbrev pub invariant-loop : goal.invariant-loop
invariant-loop l = record {
  each : length l.rows.items ≡ l.counter;
  none : (j : ℕ) → get_or (listed_rows l.rows.items) j [] ≡ [];
}

-- the rows so far are listed, and no others
abbrev pub invariant-loop-index : goal.invariant-loop-index
invariant-loop-index l = record {
  each : length l.rows.items ≡ length l.model.columns;
  listed : (i : ℕ) → i < l.index → All (λ t. IsListed l.rows.items t.column i) (row_at l.model i).terms;
  known : (j i : ℕ) → IsListed l.rows.items j i → i < l.index;
}
