-- What the optimal end of an improve run shows: a dual of the system, by the objective's row of the table.
use Rattle.std.specs.Prelude.{◌≡◌, ℕ, ◌+◌, ◌<◌, not, cond, List, ◌++◌, map, length, filter, Some, IsSome, All}
use Rattle.rational.specs.Rational.{ℚ, ◌*ℚ◌, zero_ℚ, ◌≤ℚ◌, ◌<ℚ◌}
use Rattle.rational.specs.Sum.{sum_over}
use Rattle.rational.specs.Linear.{Term, Assignment, factor_of, form_value}
use Rattle.certs.specs.declared.evidence.Share.{Share}
use Rattle.certs.specs.Combination.{number_or_zero, signed}
use Rattle.certs.specs.System.{LinearSystem, is_basic, limit_on, variable_form, variable_limits, VariableShare}
use Rattle.certs.specs.Tableau.{Tableau, IsTableauOf, IsWellFormedSystem, value_of}
use Rattle.certs.specs.Ended.{shares_for, is_upper, numbers_from, IsSolution}
use Rattle.certs.specs.Named.{named}
use Rattle.certs.specs.Improves.{objective_variable, improve_choice}
use Rattle.certs.specs.Improves.Improvement.{Optimal}

-- how often each variable counts in the objective: a nonbasic one by its factor
abbrev pub objective_multiple : Tableau → ℕ → ℚ
objective_multiple t v = cond (is_basic t.basis v) zero_ℚ (t.factor (objective_variable t) v)

-- The shares of the rows, then of the columns' lower limits, and then of their upper ones.
abbrev pub optimal_shares : LinearSystem → Tableau → List VariableShare
optimal_shares system t =
    let c = objective_multiple t in
    let columns = shares_for c (numbers_from 0 (length system.columns)) in
    shares_for c (numbers_from (length system.columns) (length system.rows)) ++ (filter (λ s. not (is_upper s)) columns ++ filter is_upper columns)

-- Limits that are there, positively often: the columns add up to the terms, and what they ask for to the bound.
pub record IsVariableDual (system : LinearSystem) (shares : List VariableShare) (terms : List Term) (b : ℚ) : Type 0 where
  pub positive : All (λ s. zero_ℚ <ℚ s.weight) shares
  pub known : All (λ s. s.variable < length system.columns + length system.rows) shares
  pub there : All (λ s. IsSome (limit_on (variable_limits system s.variable) s.side)) shares
  pub matches : (k : ℕ) → k < length system.columns → sum_over (λ s. signed s.side s.weight *ℚ factor_of (variable_form system s.variable) k) shares ≡ factor_of terms k
  pub bound : sum_over (λ s. signed s.side s.weight *ℚ number_or_zero (limit_on (variable_limits system s.variable) s.side)) shares ≡ b

-- the shares name such limits as row sides and bounds of the system
pub record IsNamedDual (system : LinearSystem) (terms : List Term) (shares : List Share) (b : ℚ) : Type 0 where
  pub of : List VariableShare
  pub dual : IsVariableDual system of terms b
  pub same : shares ≡ map (named (length system.columns)) of

-- ---- laws
-- what a dual bounds, no solution of the system passes
abbrev pub DualBoundLaw : Type 0
DualBoundLaw = (system : LinearSystem) (shares : List VariableShare) (terms : List Term) (b : ℚ) → IsWellFormedSystem system → system.objective ≡ Some terms
    → IsVariableDual system shares terms b → (x : Assignment) → IsSolution system x → form_value terms x ≤ℚ b

-- where nothing raises the objective these shares are a dual of it, and their bound is its value at the tableau
abbrev pub OptimalDualLaw : Type 0
OptimalDualLaw = (system : LinearSystem) (t : Tableau) (terms : List Term) → IsWellFormedSystem system → system.objective ≡ Some terms
    → IsTableauOf system t → improve_choice t ≡ Optimal
    → IsVariableDual system (optimal_shares system t) terms (value_of t (objective_variable t))

-- the objective variable's value at a tableau is that of the objective's form at the values there
abbrev pub ObjectiveValueLaw : Type 0
ObjectiveValueLaw = (system : LinearSystem) (t : Tableau) (terms : List Term) → IsWellFormedSystem system → system.objective ≡ Some terms
    → IsTableauOf system t → value_of t (objective_variable t) ≡ form_value terms (value_of t)
