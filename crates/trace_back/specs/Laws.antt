-- What holds of the duals, rays and values of the objective that come back over all steps of a reduction.
use Rattle.std.specs.Prelude.{◌≡◌, ℕ, ◌<◌, List, map, length, Some, IsSome}
use Rattle.rational.specs.Rational.{ℚ}
use Rattle.rational.specs.Linear.{Term, Assignment, form_value}
use Rattle.lp_model.specs.Satisfaction.{values_at}
use Rattle.certs.specs.Named.{named}
use Rattle.certs.specs.Order.{AreSharesInOrder}
use Rattle.certs.specs.System.{LinearSystem, VariableShare}
use Rattle.certs.specs.Tableau.{Tableau}
use Rattle.reductions.specs.declared.steps.Step.{Step}
use Rattle.reductions.specs.Back.{point_back, weights_of, shares_of}
use Rattle.reductions.specs.Laws.{IsFormed}
use Rattle.reductions.specs.Reduction.{Reduces}
use Rattle.reductions.specs.Stage.{Stage}
use Rattle.trace_back.specs.Ends.{AreOnce}
use Rattle.simplex.specs.Duals.{IsVariableDual, optimal_shares}
use Rattle.simplex.specs.Rays.{IsSystemRay}
use Rattle.trace_back.specs.Back.{ray_back, duals_back, bound_back}

-- the shares that come back from those of the system at the end
abbrev pub dual_shares : LinearSystem → List Step → List VariableShare → List VariableShare
dual_shares system steps shares = shares_of (length system.columns) (length system.rows) (duals_back (length system.columns) steps (weights_of shares))

-- steps of the reduction of a formed system that has this objective
pub record IsTraceFor (stage : Stage) (steps : List Step) (last : Stage) (terms : List Term) : Type 0 where
  pub formed : IsFormed stage.system
  pub lives : length stage.live ≡ length stage.system.rows
  pub reduces : Reduces stage steps last
  pub objective : stage.system.objective ≡ Some terms

-- the objective stays, with other terms
abbrev pub ObjectiveStaysLaw : Type 0
ObjectiveStaysLaw = (stage last : Stage) (steps : List Step) (terms : List Term) → IsTraceFor stage steps last terms → IsSome last.system.objective

-- its value at the point that comes back is that which comes back of its value at the point
abbrev pub PointValueLaw : Type 0
PointValueLaw = (stage last : Stage) (steps : List Step) (terms after : List Term) → IsTraceFor stage steps last terms → last.system.objective ≡ Some after
    → (x : Assignment) → form_value terms (point_back steps x) ≡ bound_back steps (form_value after x)

-- a dual of the last system comes back as one of the first
abbrev pub DualBackLaw : Type 0
DualBackLaw = (stage last : Stage) (steps : List Step) (terms after : List Term) → IsTraceFor stage steps last terms → last.system.objective ≡ Some after
    → (shares : List VariableShare) (b : ℚ) → IsVariableDual last.system shares after b → IsVariableDual stage.system (dual_shares stage.system steps shares) terms (bound_back steps b)

-- its shares stand in order
abbrev pub OrderLaw : Type 0
OrderLaw = (system : LinearSystem) (steps : List Step) (shares : List VariableShare) → AreSharesInOrder (map (named (length system.columns)) (dual_shares system steps shares))

-- and take no limit twice
abbrev pub OnceLaw : Type 0
OnceLaw = (system : LinearSystem) (steps : List Step) (shares : List VariableShare) → AreOnce (dual_shares system steps shares)

-- nor do those of the dual at the optimal end of an improve run, which may so come back
abbrev pub OptimalOnceLaw : Type 0
OptimalOnceLaw = (system : LinearSystem) (t : Tableau) → AreOnce (optimal_shares system t)

-- values that come back from those of a ray of the last system are those of a ray of the first
abbrev pub RayBackLaw : Type 0
RayBackLaw = (stage last : Stage) (steps : List Step) (terms : List Term) → IsTraceFor stage steps last terms
    → (values back : List ℚ) → IsSystemRay last.system values → ((k : ℕ) → k < length stage.system.columns → values_at back k ≡ ray_back steps (values_at values) k)
    → IsSystemRay stage.system back
