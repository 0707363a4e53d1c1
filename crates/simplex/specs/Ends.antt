-- How a settle run ends, in code.
use Rattle.std.specs.Prelude.{◌≡◌, ◌+◌, ◌≤◌, ◌^◌, ℕ, suc, true, false, List, None, Result, Ok, Err}
use Rattle.lp_model.specs.declared.members.Side.{Side}
use Rattle.frac128.specs.Calculation.{first_wide}
use Rattle.certs.specs.System.{LinearSystem, Place}
use Rattle.certs.specs.Tableau.{IsTableauOf, IsWellFormedSystem}
use Rattle.certs.specs.Turns.{Choice, settle_values}
use Rattle.certs.specs.Turns.Choice.{Settled as NoneOutside, Blocked}
use Rattle.certs.specs.Runs.{End, Reaches, SettleRun, TableauAt}
use Rattle.certs.specs.Runs.End.{Feasible as IsFeasible, Infeasible as IsInfeasible, TooWide, Spent}
use Rattle.bland_law.specs.Ends.{limited_count}
use Rattle.dictionary.specs.Value.{DictionaryValue, tableau_of}
use Rattle.dictionary.specs.declared.dictionaries.PivotStop.{PivotStop}
use Rattle.dictionary.specs.declared.dictionaries.PivotStop.TheVariants.{Wide as TooWidePivot, Memory as NoMemory}
use Rattle.simplex.specs.declared.settling.Settled.{Settled}
use Rattle.simplex.specs.declared.settling.Settled.TheVariants.{Feasible, Infeasible}
use Rattle.simplex.specs.declared.settling.RunStop.{RunStop}
use Rattle.simplex.specs.declared.settling.RunStop.TheVariants.{Wide, Pivots, Memory}

-- the end that is told
abbrev pub end_of : Settled → End
end_of Feasible = IsFeasible
end_of (Infeasible v) = IsInfeasible v

-- why a run stops where its pivot in this turn does
abbrev pub told_as : ℕ → PivotStop → RunStop
told_as turn (TooWidePivot o) = Wide turn o
told_as turn NoMemory = Memory

-- The settle run from a basis, with a budget and after so many turns, ends so; where the dictionary may still be used it
-- stands at the run's last basis, and its tableau is one of the system. It may no longer be used only where every value of the
-- last turn fits, so that its pivot was too wide.
pub record HasRun (most : ℕ) (system : LinearSystem) (basis : List Place) (budget begun : ℕ) (end : End) (now : DictionaryValue) (left turns : ℕ) : Type 0 where
  pub last : List Place
  pub run : SettleRun most system basis budget begun end last left turns
  pub stands : now.usable ≡ true → (now.basis ≡ last) × IsTableauOf system (tableau_of now)
  pub lost : now.usable ≡ false → (here : TableauAt system last) × (first_wide most (settle_values here.tableau) ≡ None)

-- Memory was refused: the run from the basis has come to the dictionary's, and its next turn is begun.
pub record IsInterrupted (most : ℕ) (system : LinearSystem) (basis : List Place) (budget begun : ℕ) (now : DictionaryValue) (left turns : ℕ) : Type 0 where
  pub made : ℕ
  pub budget_is : made + left ≡ budget
  pub reaches : Reaches most system made basis now.basis
  pub turns_are : turns ≡ suc (begun + made)
  pub usable : now.usable ≡ true
  pub is_of : IsTableauOf system (tableau_of now)

-- the settle run from a basis ends or stops as the result says
abbrev pub RanBy : ℕ → LinearSystem → List Place → ℕ → ℕ → Result Settled RunStop → DictionaryValue → ℕ → ℕ → Type 0
RanBy most system basis budget begun (Ok settled) now left turns = HasRun most system basis budget begun (end_of settled) now left turns
RanBy most system basis budget begun (Err (Wide turn o)) now left turns = HasRun most system basis budget begun (TooWide turn o) now left turns
RanBy most system basis budget begun (Err Pivots) now left turns = HasRun most system basis budget begun Spent now left turns
RanBy most system basis budget begun (Err Memory) now left turns = IsInterrupted most system basis budget begun now left turns

-- at the end the choice is none
abbrev pub IsEnd : Settled → Choice → Type 0
IsEnd Feasible choice = choice ≡ NoneOutside
IsEnd (Infeasible v) choice = (side : Side) × (choice ≡ Blocked v side)

-- no pivot was left
abbrev pub IsSpent : Result Settled RunStop → Type 0
IsSpent (Ok settled) = ⊥
IsSpent (Err (Wide turn o)) = ⊥
IsSpent (Err Pivots) = Unit {0}
IsSpent (Err Memory) = ⊥

-- a system that is well formed, with a budget of 3 to the number of its columns and rows, never misses a pivot
abbrev pub NeverSpent : LinearSystem → ℕ → Result Settled RunStop → Type 0
NeverSpent system budget result = IsWellFormedSystem system → 3 ^ limited_count system ≤ budget → ¬ (IsSpent result)
