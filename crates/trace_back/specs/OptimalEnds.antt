-- What contracts say of the ways back of duals and rays.
use Rattle.std.specs.Prelude.{◌≡◌, ℕ, ◌<◌, List, map, length, None}
use Rattle.rational.specs.Rational.{ℚ}
use Rattle.frac128.specs.Calculation.{first_wide}
use Rattle.frac128.specs.Limit.{limit}
use Rattle.lp_model.specs.Satisfaction.{values_at}
use Rattle.certs.specs.Named.{named}
use Rattle.certs.specs.System.{VariableShare}
use Rattle.certs.specs.declared.evidence.Dual.{Dual}
use Rattle.reductions.specs.declared.steps.Step.{Step}
use Rattle.reductions.specs.Back.{weights_of, shares_of}
use Rattle.trace_back.specs.Back.{ray_back, ray_work, duals_back, bound_back, duals_work}

-- the values that come back, and no operation is too wide
pub record IsRayBack (steps : List Step) (values back : List ℚ) : Type 0 where
  pub count : length back ≡ length values
  pub values_are : (j : ℕ) → j < length values → values_at back j ≡ ray_back steps (values_at values) j
  pub narrow : first_wide limit (ray_work steps (values_at values)) ≡ None

-- the shares and the bound that come back from those of a system of so many columns and rows, and no operation is too wide
pub record IsDualBack (columns rows : ℕ) (steps : List Step) (of : List VariableShare) (b : ℚ) (back : Dual) : Type 0 where
  pub shares_are : back.combo.shares ≡ map (named columns) (shares_of columns rows (duals_back columns steps (weights_of of)))
  pub bound_is : back.bound ≡ bound_back steps b
  pub narrow : first_wide limit (duals_work columns steps (weights_of of) b) ≡ None
