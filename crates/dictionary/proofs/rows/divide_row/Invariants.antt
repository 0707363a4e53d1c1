use Rattle.std.proofs.Common.{◌≡◌, take, drop, map}
use Rattle.std.specs.Prelude.{flat_map}
use Rattle.rational.specs.Rational.{◌/ℚ◌}
use Rattle.frac128.specs.declared.Op.TheVariants.{Over}
use Rattle.frac128.specs.Calculation.{first_wide}
use Rattle.certs.specs.Turns.{counted}
use Rattle.dictionary.specs.Rows.{terms_of}
use Rattle.dictionary.proofs.rows.divide_row.Given as goal

-- the first wide operation is still to come, those passed are divided, and the others are as they were
abbrev pub invariant-loop-place : goal.invariant-loop-place
invariant-loop-place g l =
    let v = g.N.Exact.value in
    record {
      width : first_wide g.N.Exact.most (flat_map (λ t. counted Over t.factor (v l.pivot)) (terms_of v (drop l.place l.fn.row))) ≡ first_wide g.N.Exact.most (flat_map (λ t. counted Over t.factor (v l.pivot)) (terms_of v l.fn.row));
      front : terms_of v (take l.place l.row) ≡ map (λ t. record { column = t.column; factor = t.factor /ℚ v l.pivot }) (terms_of v (take l.place l.fn.row));
      back : drop l.place l.row ≡ drop l.place l.fn.row;
    }
