-- Settle runs: the bases that they reach, and how they end or stop.
use Rattle.std.specs.Prelude.{◌≡◌, ℕ, ◌+◌, zero, suc, List, Some, None}
use Rattle.lp_model.specs.declared.members.Side.{Side}
use Rattle.frac128.specs.declared.Wide.{Wide as Operation}
use Rattle.frac128.specs.Calculation.{first_wide}
use Rattle.certs.specs.System.{LinearSystem, Place}
use Rattle.certs.specs.Tableau.{Tableau, IsTableauOf}
use Rattle.certs.specs.Turns.{settle_choice, exchanged, settle_values, settle_work}
use Rattle.certs.specs.Turns.Choice.{Settled, Blocked, Exchange}

-- the system's tableau at a basis
pub record TableauAt (system : LinearSystem) (basis : List Place) : Type 0 where
  pub tableau : Tableau
  pub is_of : IsTableauOf system tableau
  pub at : tableau.basis ≡ basis

-- A turn with a pivot leads from one basis to the next, and none of its operations is too wide for parts up to `most`.
pub record IsPivotTurn (most : ℕ) (system : LinearSystem) (basis next : List Place) : Type 0 where
  pub here : TableauAt system basis
  pub leaving : ℕ
  pub side : Side
  pub entering : ℕ
  pub due : settle_choice here.tableau ≡ Exchange leaving side entering
  pub narrow : first_wide most (settle_work 1 here.tableau) ≡ None
  pub next_is : next ≡ exchanged basis leaving side entering

-- so many turns with pivots lead from one basis to another
abbrev pub Reaches : ℕ → LinearSystem → ℕ → List Place → List Place → Type 0
Reaches most system zero basis last = basis ≡ last
Reaches most system (suc k) basis last = (middle : List Place) × (Reaches most system k basis middle × IsPivotTurn most system middle last)

-- no variable is outside
pub record IsSettledAt (most : ℕ) (system : LinearSystem) (basis : List Place) : Type 0 where
  pub here : TableauAt system basis
  pub chosen : settle_choice here.tableau ≡ Settled
  pub narrow : first_wide most (settle_values here.tableau) ≡ None

-- the variable is outside, and nothing helps it
pub record IsBlockedAt (most : ℕ) (system : LinearSystem) (basis : List Place) (variable : ℕ) : Type 0 where
  pub here : TableauAt system basis
  pub side : Side
  pub chosen : settle_choice here.tableau ≡ Blocked variable side
  pub narrow : first_wide most (settle_values here.tableau) ≡ None

-- the first operation of the turn that is too wide, where so many pivots are left
pub record IsWideAt (most : ℕ) (system : LinearSystem) (basis : List Place) (left : ℕ) (wide : Operation) : Type 0 where
  pub here : TableauAt system basis
  pub first : first_wide most (settle_work left here.tableau) ≡ Some wide

-- a pivot is due, and nothing before it is too wide
pub record IsDueAt (most : ℕ) (system : LinearSystem) (basis : List Place) : Type 0 where
  pub here : TableauAt system basis
  pub leaving : ℕ
  pub side : Side
  pub entering : ℕ
  pub due : settle_choice here.tableau ≡ Exchange leaving side entering
  pub narrow : first_wide most (settle_values here.tableau) ≡ None

-- how a settle run ends: settled, or infeasible by a variable; or how it stops: too wide in a turn by its number, or with no pivot left
pub data End : Type 0 where
  Feasible : End
  Infeasible : ℕ → End
  TooWide : ℕ → Operation → End
  Spent : End

-- at its last basis, with so many pivots left, in the turn with this number
abbrev pub EndsAt : ℕ → LinearSystem → List Place → ℕ → ℕ → End → Type 0
EndsAt most system last left number Feasible = IsSettledAt most system last
EndsAt most system last left number (Infeasible v) = IsBlockedAt most system last v
EndsAt most system last left number (TooWide step wide) = (step ≡ number) × IsWideAt most system last left wide
EndsAt most system last left number Spent = (left ≡ 0) × IsDueAt most system last

-- The settle run of the system from a basis, with a budget of pivots and after so many turns begun, makes `made` pivots and ends so.
pub record SettleRun (most : ℕ) (system : LinearSystem) (basis : List Place) (budget begun : ℕ) (end : End) (last : List Place) (left turns : ℕ) : Type 0 where
  pub made : ℕ
  pub budget_is : made + left ≡ budget
  pub reaches : Reaches most system made basis last
  pub turns_are : turns ≡ suc (begun + made)
  pub ends : EndsAt most system last left turns end

-- ---- laws
-- Two settle runs that start alike, of one system from one basis with one budget after the same turns, end alike: in one way, at one
-- basis, with the same number of pivots left, in the same turn.
abbrev pub OneEndLaw : Type 0
OneEndLaw = (most : ℕ) (system : LinearSystem) (basis : List Place) (budget begun : ℕ) (end other_end : End) (last other_last : List Place) (left other_left turns other_turns : ℕ)
    → SettleRun most system basis budget begun end last left turns → SettleRun most system basis budget begun other_end other_last other_left other_turns
    → (end ≡ other_end) × (last ≡ other_last) × (left ≡ other_left) × (turns ≡ other_turns)
