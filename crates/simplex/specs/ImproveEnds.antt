-- How an improve run ends, in code.
use Rattle.std.specs.Prelude.{◌≡◌, ◌+◌, ◌<◌, ◌≤◌, ◌^◌, ℕ, suc, true, false, List, None, IsSome, Result, Ok, Err}
use Rattle.frac128.specs.Calculation.{first_wide}
use Rattle.certs.specs.System.{LinearSystem, Place}
use Rattle.certs.specs.Tableau.{Tableau, IsTableauOf, IsWellFormedSystem, limits_at, value_of}
use Rattle.certs.specs.Ended.{IsWithin}
use Rattle.certs.specs.Runs.{IsSettledAt, TableauAt}
use Rattle.certs.specs.Improves.{Improvement, ImproveEnd, ImproveRun, Improves, improve_choice, improve_values}
use Rattle.certs.specs.Improves.Improvement.{Optimal as NothingRaises, Free}
use Rattle.certs.specs.Improves.ImproveEnd.{AtOptimum, Unbounded as WithoutEnd, TooWide, Spent}
use Rattle.bland_law.specs.Ends.{limited_count}
use Rattle.dictionary.specs.Value.{DictionaryValue, tableau_of}
use Rattle.simplex.specs.declared.settling.RunStop.{RunStop}
use Rattle.simplex.specs.declared.settling.RunStop.TheVariants.{Wide, Pivots, Memory}
use Rattle.simplex.specs.declared.improving.Improved.{Improved}
use Rattle.simplex.specs.declared.improving.Improved.TheVariants.{Optimal, Unbounded}

-- the end that is told
abbrev pub end_of : Improved → ImproveEnd
end_of Optimal = AtOptimum
end_of (Unbounded j) = WithoutEnd j

-- The improve run from a basis, with a budget and after so many turns, ends so; where the dictionary may still be used it
-- stands at the run's last basis, and its tableau is one of the system. It may no longer be used only where every operation of
-- the last turn before its pivot fits, so that its pivot was too wide.
pub record HasImproved (most : ℕ) (system : LinearSystem) (basis : List Place) (budget begun : ℕ) (end : ImproveEnd) (now : DictionaryValue) (left turns : ℕ) : Type 0 where
  pub last : List Place
  pub run : ImproveRun most system basis budget begun end last left turns
  pub stands : now.usable ≡ true → (now.basis ≡ last) × IsTableauOf system (tableau_of now)
  pub lost : now.usable ≡ false → (here : TableauAt system last) × (first_wide most (improve_values here.tableau) ≡ None)

-- Memory was refused: the run from the basis has come to the dictionary's, and its next turn is begun.
pub record IsInterrupted (most : ℕ) (system : LinearSystem) (basis : List Place) (budget begun : ℕ) (now : DictionaryValue) (left turns : ℕ) : Type 0 where
  pub made : ℕ
  pub budget_is : made + left ≡ budget
  pub reaches : Improves most system made basis now.basis
  pub turns_are : turns ≡ suc (begun + made)
  pub usable : now.usable ≡ true
  pub is_of : IsTableauOf system (tableau_of now)

-- the improve run from a basis ends or stops as the result says
abbrev pub ImprovedBy : ℕ → LinearSystem → List Place → ℕ → ℕ → Result Improved RunStop → DictionaryValue → ℕ → ℕ → Type 0
ImprovedBy most system basis budget begun (Ok improved) now left turns = HasImproved most system basis budget begun (end_of improved) now left turns
ImprovedBy most system basis budget begun (Err (Wide turn o)) now left turns = HasImproved most system basis budget begun (TooWide turn o) now left turns
ImprovedBy most system basis budget begun (Err Pivots) now left turns = HasImproved most system basis budget begun Spent now left turns
ImprovedBy most system basis budget begun (Err Memory) now left turns = IsInterrupted most system basis budget begun now left turns

-- the dictionary's tableau is one of a system with an objective
pub record HasObjective (now : DictionaryValue) : Type 0 where
  pub system : LinearSystem
  pub of : IsTableauOf system (tableau_of now)
  pub objective : IsSome system.objective

-- at the end the choice is none
abbrev pub IsEnd : Improved → Improvement → Type 0
IsEnd Optimal choice = choice ≡ NothingRaises
IsEnd (Unbounded j) choice = choice ≡ Free j

-- where the run has ended the dictionary may be used, the choice is none, and no operation for it is too wide
abbrev pub EndsAt : ℕ → DictionaryValue → Improved → Type 0
EndsAt most now improved = (now.usable ≡ true) × (IsEnd improved (improve_choice (tableau_of now)) × (first_wide most (improve_values (tableau_of now)) ≡ None))

-- no pivot was left
abbrev pub IsSpent : Result Improved RunStop → Type 0
IsSpent (Ok improved) = ⊥
IsSpent (Err (Wide turn o)) = ⊥
IsSpent (Err Pivots) = Unit {0}
IsSpent (Err Memory) = ⊥

-- a well-formed system with an objective, and a basis of it where no variable is outside its limits
pub record IsSettledStart (most : ℕ) (system : LinearSystem) (basis : List Place) : Type 0 where
  pub formed : IsWellFormedSystem system
  pub objective : IsSome system.objective
  pub settled : IsSettledAt most system basis

-- each variable but the objective is within its limits
abbrev pub KeepsLimits : LinearSystem → Tableau → Type 0
KeepsLimits system t = (v : ℕ) → v < limited_count system → IsWithin (limits_at t v) (value_of t v)

-- with a budget of 3 to the number of the columns and rows a run from there never misses a pivot
abbrev pub NeverSpent : ℕ → LinearSystem → List Place → ℕ → Result Improved RunStop → Type 0
NeverSpent most system basis budget result = IsSettledStart most system basis → 3 ^ limited_count system ≤ budget → ¬ (IsSpent result)

-- ---- of every system of which a dictionary's tableau is one
-- the run from the dictionary's basis ends as the result says
abbrev pub IsRun : ℕ → DictionaryValue → ℕ → ℕ → Result Improved RunStop → DictionaryValue → ℕ → ℕ → Type 0
IsRun most old budget begun result now left turns =
    (system : LinearSystem) → IsTableauOf system (tableau_of old) → ImprovedBy most system old.basis budget begun result now left turns

-- where no variable is outside its limits before, none is after
abbrev pub KeepsSettled : ℕ → DictionaryValue → DictionaryValue → Type 0
KeepsSettled most old now =
    (system : LinearSystem) → IsTableauOf system (tableau_of old) → IsSettledStart most system old.basis → now.usable ≡ true → KeepsLimits system (tableau_of now)

-- a large budget is never spent
abbrev pub IsEnough : ℕ → DictionaryValue → ℕ → Result Improved RunStop → Type 0
IsEnough most old budget result = (system : LinearSystem) → IsTableauOf system (tableau_of old) → NeverSpent most system old.basis budget result
