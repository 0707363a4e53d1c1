use Rattle.std.proofs.Common.{◌≡◌, ◌+◌, ◌<◌, ℕ, length}
use Rattle.rational.specs.Rational.{neg_ℚ}
use Rattle.lp_model.specs.Satisfaction.{values_at}
use Rattle.dictionary.specs.Value.{tableau_of}
use Rattle.simplex.specs.Duals.{objective_multiple}
use Rattle.alt_polyhedron.proofs.reading.price_of.Given as goal

-- the prices of the columns passed are there
abbrev pub invariant-loop-column : goal.invariant-loop-column
invariant-loop-column l = record {
  long : length l.values.items ≡ l.column;
  values : (j : ℕ) → j < l.column → values_at l.values.items j ≡ neg_ℚ (objective_multiple (tableau_of l.dictionary) (l.first + j));
}
