use Rattle.std.proofs.Common.{◌≡◌, take, drop, map}
use Rattle.rational.specs.Rational.{neg_ℚ}
use Rattle.dictionary.specs.Rows.{terms_of}
use Rattle.dictionary.proofs.rows.negate_row.Given as goal

-- those passed are changed, and the others are as they were
abbrev pub invariant-loop-place : goal.invariant-loop-place
invariant-loop-place g l =
    let v = g.N.Exact.value in
    record {
      front : terms_of v (take l.place l.row) ≡ map (λ t. record { column = t.column; factor = neg_ℚ t.factor }) (terms_of v (take l.place l.fn.row));
      back : drop l.place l.row ≡ drop l.place l.fn.row;
    }
