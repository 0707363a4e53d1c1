-- What an improve run that is unbounded shows: a direction along which the objective rises without end.
use Rattle.std.specs.Prelude.{◌≡◌, ℕ, ◌+◌, ◌<◌, ◌==◌, cond, List, length, IsSome}
use Rattle.rational.specs.Rational.{ℚ, ◌+ℚ◌, ◌*ℚ◌, neg_ℚ, zero_ℚ, one_ℚ, ◌≤ℚ◌, ◌<ℚ◌}
use Rattle.rational.specs.Linear.{Assignment}
use Rattle.lp_model.specs.Satisfaction.{values_at}
use Rattle.certs.specs.System.{LinearSystem, KeepsRows, is_basic, variable_limits}
use Rattle.certs.specs.Tableau.{Tableau, IsTableauOf}
use Rattle.certs.specs.Ended.{IsSolution}
use Rattle.certs.specs.Improves.{does_rise, improve_choice, rate}
use Rattle.certs.specs.Improves.Improvement.{Free}

-- how a variable changes where j moves by 1 the way that raises the objective
abbrev pub change_along : Tableau → ℕ → Assignment
change_along t j v =
    cond (v == j) (cond (does_rise t j) one_ℚ (neg_ℚ one_ℚ))
    (cond (is_basic t.basis v) (rate t j v) zero_ℚ)

-- The rows change by their forms; what has a lower limit does not fall, what has an upper one does not rise; the objective rises.
pub record IsVariableRay (system : LinearSystem) (ray : Assignment) : Type 0 where
  pub rows : KeepsRows system ray
  pub lower : (v : ℕ) → v < length system.columns + length system.rows → IsSome (variable_limits system v).lower → zero_ℚ ≤ℚ ray v
  pub upper : (v : ℕ) → v < length system.columns + length system.rows → IsSome (variable_limits system v).upper → ray v ≤ℚ zero_ℚ
  pub raises : zero_ℚ <ℚ ray (length system.columns + length system.rows)

-- the values are those of the columns in such a direction
pub record IsSystemRay (system : LinearSystem) (values : List ℚ) : Type 0 where
  pub ray : Assignment
  pub keeps : IsVariableRay system ray
  pub same : (v : ℕ) → v < length system.columns → values_at values v ≡ ray v

-- ---- laws
-- a solution moved along a ray stays one
abbrev pub RayStaysLaw : Type 0
RayStaysLaw = (system : LinearSystem) (x ray : Assignment) (s : ℚ) → IsSolution system x → IsVariableRay system ray → zero_ℚ ≤ℚ s
    → IsSolution system (λ v. x v +ℚ s *ℚ ray v)

-- where a variable raises the objective without end, all variables change so along it
abbrev pub FreeRayLaw : Type 0
FreeRayLaw = (system : LinearSystem) (t : Tableau) (j : ℕ) → IsSome system.objective → IsTableauOf system t → improve_choice t ≡ Free j
    → IsVariableRay system (change_along t j)
