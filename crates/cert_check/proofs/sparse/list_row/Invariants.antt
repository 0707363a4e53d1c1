use Rattle.std.proofs.Common.{◌≡◌, ◌⊎◌, ℕ, length, take, All}
use Rattle.cert_check.specs.Sparse.{IsListed}
use Rattle.cert_check.proofs.sparse.list_row.Given as goal

-- the row is listed for the columns of the terms so far, and nothing else is new
abbrev pub invariant-loop-term : goal.invariant-loop-term
invariant-loop-term l = record {
  each : length l.rows.items ≡ length l.fn.rows.items;
  keeps : (j i : ℕ) → IsListed l.fn.rows.items j i → IsListed l.rows.items j i;
  listed : All (λ t. IsListed l.rows.items t.column l.index) (take l.term-index l.terms);
  known : (j i : ℕ) → IsListed l.rows.items j i → (i ≡ l.index) ⊎ IsListed l.fn.rows.items j i;
}
