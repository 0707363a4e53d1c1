use Rattle.std.proofs.Common.{◌≡◌, ◌<◌, ℕ, length}
use Rattle.lp_model.specs.Satisfaction.{values_at}
use Rattle.certs.specs.Tableau.{value_of}
use Rattle.dictionary.specs.Value.{tableau_of}
use Rattle.simplex.proofs.points.point_of.Given as goal

-- the values of the columns passed are there
abbrev pub invariant-loop-column : goal.invariant-loop-column
invariant-loop-column l = record {
  long : length l.values.items ≡ l.column;
  values : (v : ℕ) → v < l.column → values_at l.values.items v ≡ value_of (tableau_of l.dictionary) v;
}
