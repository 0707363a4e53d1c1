use Rattle.std.proofs.Common.{◌≡◌, ◌<◌, ℕ, length}
use Rattle.lp_model.specs.Satisfaction.{values_at}
use Rattle.dictionary.specs.Value.{tableau_of}
use Rattle.simplex.specs.Rays.{change_along}
use Rattle.simplex.proofs.rays.ray_of.Given as goal

-- the changes of the columns passed are there
abbrev pub invariant-loop-column : goal.invariant-loop-column
invariant-loop-column l = record {
  long : length l.values.items ≡ l.column;
  values : (v : ℕ) → v < l.column → values_at l.values.items v ≡ change_along (tableau_of l.dictionary) l.entering v;
}
