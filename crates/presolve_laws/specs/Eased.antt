-- Systems that their reduction makes easy: evidence of the reduced system comes back, and no operation on the way is too wide.
use Rattle.std.specs.Prelude.{◌≡◌, ◌⊎◌, ℕ, ◌<◌, List, length, None}
use Rattle.rational.specs.Rational.{ℚ}
use Rattle.frac128.specs.Calculation.{first_wide}
use Rattle.frac128.specs.Limit.{limit}
use Rattle.lp_model.specs.Satisfaction.{values_at}
use Rattle.certs.specs.Solves.{SettlesAt, BlocksWith}
use Rattle.certs.specs.System.{LinearSystem, VariableShare}
use Rattle.reductions.specs.declared.steps.Step.{Step}
use Rattle.reductions.specs.Back.{point_back, point_work, weights_back, weights_work, weights_of, shares_of}
use Rattle.reductions.specs.Reduction.{Reduces, IsReduced, IsDecidedBy}
use Rattle.reductions.specs.Stage.{Stage, start_stage}

-- ---- ways back
-- the values of a reduced system come back as these, and no operation is too wide
pub record ValuesComeBack (system : LinearSystem) (steps : List Step) (values back : List ℚ) : Type 0 where
  pub count : length back ≡ length system.columns
  pub values_are : (j : ℕ) → j < length system.columns → values_at back j ≡ point_back steps (values_at values) j
  pub narrow : first_wide limit (point_work steps (values_at values)) ≡ None

-- the shares of a reduced system come back as these, and no operation is too wide
pub record SharesComeBack (system : LinearSystem) (steps : List Step) (of back : List VariableShare) : Type 0 where
  pub back_is : back ≡ shares_of (length system.columns) (length system.rows) (weights_back (length system.columns) steps (weights_of of))
  pub narrow : first_wide limit (weights_work (length system.columns) steps (weights_of of)) ≡ None

-- ---- ends
-- no rule finds anything at the end of the reduction, the run of the system there settles, and its values come back as these
pub record EasesAt (system : LinearSystem) (pivots : ℕ) (back : List ℚ) : Type 0 where
  pub steps : List Step
  pub last : Stage
  pub reduces : Reduces (start_stage system) steps last
  pub reduced : IsReduced last
  pub values : List ℚ
  pub settles : SettlesAt last.system pivots values
  pub comes : ValuesComeBack system steps values back

-- no rule finds anything at the end of the reduction, the run of the system there is blocked, and its shares come back as these
pub record EasesBy (system : LinearSystem) (pivots : ℕ) (back : List VariableShare) : Type 0 where
  pub steps : List Step
  pub last : Stage
  pub reduces : Reduces (start_stage system) steps last
  pub reduced : IsReduced last
  pub of : List VariableShare
  pub blocks : BlocksWith last.system pivots of
  pub comes : SharesComeBack system steps of back

-- a rule decides at the end of the reduction, and the shares that it decides by come back as these
pub record DecidesBy (system : LinearSystem) (back : List VariableShare) : Type 0 where
  pub steps : List Step
  pub last : Stage
  pub reduces : Reduces (start_stage system) steps last
  pub of : List VariableShare
  pub decided : IsDecidedBy last of
  pub comes : SharesComeBack system steps of back

-- a combination comes back: of what decides, or of the run
abbrev pub CutsBy : LinearSystem → ℕ → List VariableShare → Type 0
CutsBy system pivots back = DecidesBy system back ⊎ EasesBy system pivots back

-- The system is eased within so many pivots: a point or a combination comes back.
abbrev pub IsEased : LinearSystem → ℕ → Type 0
IsEased system pivots = ((back : List ℚ) × EasesAt system pivots back) ⊎ ((back : List VariableShare) × CutsBy system pivots back)
