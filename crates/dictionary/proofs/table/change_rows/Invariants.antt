use Rattle.std.proofs.Common.{◌≡◌, ◌<◌, ◌≤◌, ℕ, [], drop, vec_capacity}
use Rattle.std.specs.Prelude.{flat_map, slice_index_or}
use Rattle.frac128.specs.Calculation.{first_wide}
use Rattle.dictionary.specs.Rows.{terms_of, rows_of, row_work, IsRowChanged}
use Rattle.dictionary.proofs.table.change_rows.Given as goal

-- the first wide operation is still to come, the rows passed are changed, and the others are as they were
abbrev pub invariant-loop-place : goal.invariant-loop-place
invariant-loop-place g l =
    let v = g.N.Exact.value in
    let m = g.N.Exact.most in
    let quotients = terms_of v l.quotients in
    record {
      width : first_wide m (flat_map (row_work l.entering (v l.inverse) quotients) (rows_of v (drop l.place l.fn.rows))) ≡ first_wide m (flat_map (row_work l.entering (v l.inverse) quotients) (rows_of v l.fn.rows));
      front : (k : ℕ) → k < l.place → IsRowChanged l.leaving l.entering (v l.inverse) quotients (slice_index_or (rows_of v l.fn.rows) k []) (slice_index_or (rows_of v l.rows) k []);
      back : drop l.place l.rows ≡ drop l.place l.fn.rows;
      capacity : vec_capacity l.fn.spare ≤ vec_capacity l.spare;
    }
