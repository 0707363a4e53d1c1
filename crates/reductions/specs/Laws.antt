-- What holds of a step, and of all steps: the same points, and evidence that comes back.
use Rattle.std.specs.Prelude.{◌≡◌, ◌≢◌, ℕ, ◌+◌, ◌<◌, false, List, map, length, Some, IsSome, IfSome, All}
use Rattle.rational.specs.Rational.{ℚ, zero_ℚ, ◌-ℚ◌, ◌*ℚ◌, ◌≤ℚ◌}
use Rattle.rational.specs.Sum.{sum_below}
use Rattle.rational.specs.Linear.{Assignment, factor_of, form_value}
use Rattle.lp_model.specs.Program.{IsForm}
use Rattle.lp_model.specs.declared.members.Side.{Side}
use Rattle.lp_model.specs.declared.members.Side.TheVariants.{Lo, Up}
use Rattle.certs.specs.Combination.{number_or_zero}
use Rattle.certs.specs.Ended.{IsWithin}
use Rattle.certs.specs.Named.{named}
use Rattle.certs.specs.Order.{AreSharesInOrder}
use Rattle.certs.specs.Plain.{crosses}
use Rattle.certs.specs.System.{LinearSystem, VariableShare, IsVariableCombination, variable_form, variable_limits, limit_on}
use Rattle.reductions.specs.declared.steps.Step.{Step}
use Rattle.reductions.specs.Stage.{Stage, row_in, limits_in}
use Rattle.reductions.specs.Known.{IsKnownStep}
use Rattle.reductions.specs.Rules.Found.{Goes}
use Rattle.reductions.specs.Reduction.{Rule, found_at, reduced_by, after_step, Reduces, next_found, IsDecidedBy}
use Rattle.reductions.specs.Back.{Weights, point_before, point_back, weights_before, weights_back, weights_of, shares_of}

-- ---- systems
-- the terms of the rows and of the objective ascend over the columns, with factors that are not 0; limits may cross
pub record IsFormed (system : LinearSystem) : Type 0 where
  pub rows : All (λ r. IsForm (length system.columns) r.terms) system.rows
  pub objective : IfSome system.objective (IsForm (length system.columns))

-- each column and each row is within its limits
pub record Meets (system : LinearSystem) (x : Assignment) : Type 0 where
  pub columns : (j : ℕ) → IsWithin (limits_in system j) (x j)
  pub rows : (i : ℕ) → IsWithin (row_in system i).limits (form_value (row_in system i).terms x)

-- some rule finds the step somewhere, and no limits cross
pub record IsFound (stage : Stage) (step : Step) : Type 0 where
  pub rule : Rule
  pub place : ℕ
  pub found : found_at rule stage place ≡ Some (Goes step)
  pub uncrossed : (v : ℕ) → crosses stage.system v ≡ false

-- the same columns and rows, by their numbers
pub record IsAsLarge (system other : LinearSystem) : Type 0 where
  pub columns : length other.columns ≡ length system.columns
  pub rows : length other.rows ≡ length system.rows

-- ---- evidence as weights
-- what the weights add up to for a column
abbrev pub balance : LinearSystem → Weights → ℕ → ℚ
balance system w k = sum_below (length system.columns + length system.rows) (λ v. (w Up v -ℚ w Lo v) *ℚ factor_of (variable_form system v) k)

-- and for the limits
abbrev pub right : LinearSystem → Weights → ℚ
right system w = sum_below (length system.columns + length system.rows) (λ v.
    w Up v *ℚ number_or_zero (variable_limits system v).upper -ℚ w Lo v *ℚ number_or_zero (variable_limits system v).lower)

-- no weight is below 0, and only limits that are there are taken
pub record AreWeightsOf (system : LinearSystem) (w : Weights) : Type 0 where
  pub nonnegative : (side : Side) (v : ℕ) → zero_ℚ ≤ℚ w side v
  pub known : (side : Side) (v : ℕ) → w side v ≢ zero_ℚ → v < length system.columns + length system.rows
  pub there : (side : Side) (v : ℕ) → w side v ≢ zero_ℚ → IsSome (limit_on (variable_limits system v) side)

-- ---- the laws of a step
-- A step leaves a system that is formed and as large; what meets the one meets the other; and weights come back with the same
-- sums for every column and for the limits.
pub record StepLaws (stage : Stage) (step : Step) : Type 0 where
  pub formed : IsFormed (reduced_by step stage.system)
  pub large : IsAsLarge stage.system (reduced_by step stage.system)
  pub lives : length (after_step step stage).live ≡ length stage.live
  pub keeps : (x : Assignment) → Meets stage.system x → Meets (reduced_by step stage.system) x
  pub same : (x : Assignment) → Meets stage.system x → (k : ℕ) → point_before step x k ≡ x k
  pub point : (x : Assignment) → Meets (reduced_by step stage.system) x → Meets stage.system (point_before step x)
  pub weights : (w : Weights) → AreWeightsOf (reduced_by step stage.system) w → AreWeightsOf stage.system (weights_before (length stage.system.columns) step w)
  pub balance_is : (w : Weights) → AreWeightsOf (reduced_by step stage.system) w
      → (k : ℕ) → balance stage.system (weights_before (length stage.system.columns) step w) k ≡ balance (reduced_by step stage.system) w k
  pub right_is : (w : Weights) → AreWeightsOf (reduced_by step stage.system) w
      → right stage.system (weights_before (length stage.system.columns) step w) ≡ right (reduced_by step stage.system) w

-- for each step that is found
abbrev pub StepLaw : Type 0
StepLaw = (stage : Stage) (step : Step) → IsFormed stage.system → length stage.live ≡ length stage.system.rows → IsFound stage step → StepLaws stage step

-- ---- the laws of all steps
-- The system at the end is formed and as large; points that meet it come back to points that meet the first, and the others meet
-- both; a combination of it comes back as one of the first, with its shares in order; and the steps are steps of a system of that
-- size.
pub record TraceLaws (system : LinearSystem) (steps : List Step) (last : Stage) : Type 0 where
  pub formed : IsFormed last.system
  pub large : IsAsLarge system last.system
  pub keeps : (x : Assignment) → Meets system x → Meets last.system x
  pub same : (x : Assignment) → Meets system x → (k : ℕ) → point_back steps x k ≡ x k
  pub point : (x : Assignment) → Meets last.system x → Meets system (point_back steps x)
  pub combination : (shares : List VariableShare) → IsVariableCombination last.system shares
      → IsVariableCombination system (shares_of (length system.columns) (length system.rows) (weights_back (length system.columns) steps (weights_of shares)))
  pub ordered : (shares : List VariableShare)
      → AreSharesInOrder (map (named (length system.columns)) (shares_of (length system.columns) (length system.rows) (weights_back (length system.columns) steps (weights_of shares))))
  pub known : All (IsKnownStep (length system.columns) (length system.rows)) steps

-- of a stage and the steps of its reduction
abbrev pub TraceLaw : Type 0
TraceLaw = (stage last : Stage) (steps : List Step) → IsFormed stage.system → length stage.live ≡ length stage.system.rows → Reduces stage steps last → TraceLaws stage.system steps last

-- what decides is a combination
abbrev pub DecidingLaw : Type 0
DecidingLaw = (stage : Stage) (shares : List VariableShare) → IsFormed stage.system → IsDecidedBy stage shares → IsVariableCombination stage.system shares

-- what comes next is found
abbrev pub NextLaw : Type 0
NextLaw = (stage : Stage) (step : Step) → next_found stage ≡ Some (Goes step) → IsFound stage step

-- a stage comes to one end only, by one list of steps
abbrev pub OneReductionLaw : Type 0
OneReductionLaw = (stage last other : Stage) (steps others : List Step) → Reduces stage steps last → Reduces stage others other
    → ((step : Step) → next_found last ≡ Some (Goes step) → ⊥) → ((step : Step) → next_found other ≡ Some (Goes step) → ⊥)
    → (steps ≡ others) × (last ≡ other)
