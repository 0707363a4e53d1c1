-- What contracts say of the ways back.
use Rattle.std.specs.Prelude.{◌≡◌, ℕ, ◌+◌, ◌<◌, ◌&&◌, ◌==◌, false, List, map, length, None, Some, Result, MatchResult, All, AllPairs}
use Rattle.rational.specs.Rational.{ℚ}
use Rattle.frac128.specs.Calculation.{Calculation, first_wide}
use Rattle.frac128.specs.Limit.{limit}
use Rattle.frac128.specs.declared.Wide.{Wide as Operation}
use Rattle.lp_model.specs.declared.members.Side.{Side}
use Rattle.lp_model.specs.Satisfaction.{values_at}
use Rattle.certs.specs.declared.evidence.Share.{Share}
use Rattle.certs.specs.Ended.{blocked_shares}
use Rattle.certs.specs.Named.{named}
use Rattle.certs.specs.System.{LinearSystem, VariableShare}
use Rattle.certs.specs.Tableau.{Tableau}
use Rattle.reductions.specs.declared.steps.Step.{Step}
use Rattle.reductions.specs.Limited.{is_side}
use Rattle.reductions.specs.Laws.{IsFormed}
use Rattle.reductions.specs.Reduction.{IsDecidedBy}
use Rattle.reductions.specs.Stage.{Stage}
use Rattle.reductions.specs.Back.{point_back, point_work, weights_back, weights_work, weights_of, shares_of}
use Rattle.trace_back.specs.declared.stops.BackStop.{BackStop}
use Rattle.trace_back.specs.declared.stops.BackStop.TheVariants.{Wide, Memory}

-- the first operation that is too wide, or want of memory
abbrev pub IsBackStop : Calculation → BackStop → Type 0
IsBackStop work (Wide w) = first_wide limit work ≡ Some w
IsBackStop work Memory = Unit {0}

-- a call gives the number, and no operation is too wide; or it gives the first that is
abbrev pub Gives : Result ℚ Operation → ℚ → Calculation → Type 0
Gives result number work = MatchResult result (λ q. (q ≡ number) × (first_wide limit work ≡ None)) (λ o. first_wide limit work ≡ Some o)

-- the values that come back, and no operation is too wide
pub record IsPointBack (steps : List Step) (values back : List ℚ) : Type 0 where
  pub count : length back ≡ length values
  pub values_are : (j : ℕ) → j < length values → values_at back j ≡ point_back steps (values_at values) j
  pub narrow : first_wide limit (point_work steps (values_at values)) ≡ None

-- two shares are of two limits
abbrev pub AreApart : VariableShare → VariableShare → Type 0
AreApart s t = (is_side s.side t.side && (s.variable == t.variable)) ≡ false

-- no limit is taken twice
abbrev pub AreOnce : List VariableShare → Type 0
AreOnce of = AllPairs AreApart of

-- the combination at the infeasible end of a run takes none twice
abbrev pub EndLaw : Type 0
EndLaw = (system : LinearSystem) (t : Tableau) (i : ℕ) (side : Side) → AreOnce (blocked_shares system t i side)

-- nor does what decides a reduction
abbrev pub DecidingOnceLaw : Type 0
DecidingOnceLaw = (stage : Stage) (shares : List VariableShare) → IsFormed stage.system → IsDecidedBy stage shares → AreOnce shares

-- the shares name limits of the variables of a system of so many columns and rows, none of them twice
pub record AreLimitShares (columns rows : ℕ) (of : List VariableShare) (shares : List Share) : Type 0 where
  pub known : All (λ s. s.variable < columns + rows) of
  pub once : AreOnce of
  pub shares_are : shares ≡ map (named columns) of

-- the shares that come back from those of a system of so many columns and rows, and no operation is too wide
pub record AreSharesBack (columns rows : ℕ) (steps : List Step) (of : List VariableShare) (back : List Share) : Type 0 where
  pub shares_are : back ≡ map (named columns) (shares_of columns rows (weights_back columns steps (weights_of of)))
  pub narrow : first_wide limit (weights_work columns steps (weights_of of)) ≡ None
