use Rattle.std.proofs.Common.{◌≡◌, [], drop}
use Rattle.std.specs.Prelude.{slice_index_or}
use Rattle.rational.specs.Rational.{◌+ℚ◌, ◌*ℚ◌}
use Rattle.rational.specs.Sum.{sum_over}
use Rattle.frac128.specs.Calculation.{first_wide}
use Rattle.certs.specs.Tableau.{basic_value, place_value}
use Rattle.certs.specs.Turns.{sum_operations, value_operations}
use Rattle.dictionary.specs.Rows.{terms_of}
use Rattle.dictionary.specs.Value.{tableau_of}
use Rattle.dictionary.proofs.Values.{columns}
use Rattle.dictionary.proofs.dictionaries.Dictionary.basic_value.Given as goal

-- the first wide operation is still to come, and the entries left make the rest of the value
abbrev pub invariant-loop-entry : goal.invariant-loop-entry
invariant-loop-entry g l =
    let v = g.N.Exact.value in
    let t = tableau_of l.self in
    let left = drop l.entry-index (columns (terms_of v l.entry-items)) in
    record {
      items : terms_of v l.entry-items ≡ slice_index_or l.self.rows l.variable [];
      width : first_wide g.N.Exact.most (sum_operations (t.factor l.variable) (place_value t) (v l.total) left) ≡ first_wide g.N.Exact.most (value_operations t l.variable);
      value : v l.total +ℚ sum_over (λ k. t.factor l.variable k *ℚ place_value t k) left ≡ basic_value t l.variable;
    }
