-- Points of a system.
use Rattle.std.specs.Prelude.{◌≡◌, ℕ, ◌<◌, List, length}
use Rattle.rational.specs.Rational.{ℚ}
use Rattle.rational.specs.Linear.{Assignment}
use Rattle.lp_model.specs.Satisfaction.{values_at}
use Rattle.certs.specs.System.{LinearSystem}
use Rattle.certs.specs.Ended.{IsSolution}

-- the values are those of the columns in a solution of the system
pub record IsFeasiblePoint (system : LinearSystem) (values : List ℚ) : Type 0 where
  pub solution : Assignment
  pub solves : IsSolution system solution
  pub same : (v : ℕ) → v < length system.columns → values_at values v ≡ solution v
