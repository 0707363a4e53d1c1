use Rattle.std.proofs.Common.{◌≡◌, ◌+◌, ◌≤◌, ◌++◌, length, drop, vec_capacity}
use Rattle.frac128.specs.Calculation.{first_wide}
use Rattle.dictionary.specs.Rows.{terms_of, reductions}
use Rattle.dictionary.proofs.Merges.{merged}
use Rattle.dictionary.proofs.rows.reduce_row.Given as goal

-- what is written, and then what is left of both, makes the whole; and the first wide operation is still to come
abbrev pub invariant-loop-quotient : goal.invariant-loop-quotient
invariant-loop-quotient g l =
    let v = g.N.Exact.value in
    let m = g.N.Exact.most in
    let a = v l.factor in
    record {
      within : l.next ≤ length l.row;
      items : terms_of v l.out.items ++ merged a (terms_of v (drop l.next l.row)) (terms_of v (drop l.quotient-index l.quotients)) ≡ merged a (terms_of v l.row) (terms_of v l.quotients);
      width : first_wide m (reductions a (terms_of v (drop l.next l.row)) (terms_of v (drop l.quotient-index l.quotients))) ≡ first_wide m (reductions a (terms_of v l.row) (terms_of v l.quotients));
      passed : l.quotient-index ≤ length l.quotients;
      longer : length l.out.items ≤ l.next + l.quotient-index;
      capacity : vec_capacity l.fn.out ≤ vec_capacity l.out;
    }
