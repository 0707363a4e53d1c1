-- Tableaus: a basis of a linear system with its table and the limits of the variables, and the values there.
use Rattle.std.specs.Prelude.{◌≡◌, ◌↔◌, ℕ, ◌+◌, ◌-◌, ◌<◌, ◌==◌, zero, suc, Bool, true, false, not, cond, List, [], ◌∷◌, ◌++◌, map, length, slice_index_or, Option, Some, None, is_some, IsSome, IfSome, All}
use Rattle.rational.specs.Rational.{ℚ, ◌-ℚ◌, ◌*ℚ◌, ◌/ℚ◌, neg_ℚ, zero_ℚ, one_ℚ, ◌≤ℚ◌}
use Rattle.rational.specs.Sum.{sum_over}
use Rattle.rational.specs.Linear.{Term, Assignment, factor_of}
use Rattle.lp_model.specs.Program.{IsForm}
use Rattle.certs.specs.Combination.{number_or_zero}
use Rattle.certs.specs.System.{Limits, LinearSystem, no_limits, KeepsRows, Place, is_basic}
use Rattle.certs.specs.System.Place.{Basic, AtLower, AtUpper, AtZero}

-- ---- the variables of a system
-- how many there are: the columns, one for each row, and the objective where there is one
abbrev pub variables : LinearSystem → ℕ
variables system = length system.columns + length system.rows + cond (is_some system.objective) 1 0

-- the limits of each variable, in order; the objective has none
abbrev pub all_limits : LinearSystem → List Limits
all_limits system = system.columns ++ (map (λ r. r.limits) system.rows ++ cond (is_some system.objective) (no_limits ∷ []) [])

-- ---- a basis with its table
-- `factor i k` is how often the nonbasic variable k counts in the basic variable i; the objective, where there is one, is the last variable
pub record Tableau : Type 0 where
  pub limits : List Limits
  pub objective : Bool
  pub basis : List Place
  pub factor : ℕ → ℕ → ℚ

-- those of the numbers 0, 1 up to n - 1 that pass, in order
abbrev pub below : ℕ → (ℕ → Bool) → List ℕ
below zero test = []
below (suc n) test = below n test ++ cond (test n) (n ∷ []) []

-- the nonbasic variables of a basis, in order
abbrev pub nonbasics : List Place → List ℕ
nonbasics basis = below (length basis) (λ k. not (is_basic basis k))

-- and the basic ones
abbrev pub basics : List Place → List ℕ
basics basis = below (length basis) (is_basic basis)

-- what the table gives for a basic variable where the nonbasic ones have the values x
abbrev pub row_value : Tableau → ℕ → Assignment → ℚ
row_value t i x = sum_over (λ k. t.factor i k *ℚ x k) (nonbasics t.basis)

-- each basic variable is what the table gives for it
abbrev pub Solves : Tableau → Assignment → Type 0
Solves t x = (i : ℕ) → is_basic t.basis i ≡ true → x i ≡ row_value t i x

-- the limits of a variable
abbrev pub limits_at : Tableau → ℕ → Limits
limits_at t v = slice_index_or t.limits v no_limits

-- where a variable stands; one past the last stands at 0
abbrev pub place_of : Tableau → ℕ → Place
place_of t v = slice_index_or t.basis v AtZero

-- a nonbasic variable stands at a limit that it has, or at 0 where it has none
abbrev pub IsPlaced : Limits → Place → Type 0
IsPlaced limits Basic = Unit {0}
IsPlaced limits AtLower = IsSome limits.lower
IsPlaced limits AtUpper = IsSome limits.upper
IsPlaced limits AtZero = (limits.lower ≡ None) × (limits.upper ≡ None)

-- The tableau is one of the system: its limits are the system's, its objective is basic, each nonbasic variable has its
-- place, and an assignment keeps the rows of the system exactly where it solves the table.
pub record IsTableauOf (system : LinearSystem) (t : Tableau) : Type 0 where
  pub limits : t.limits ≡ all_limits system
  pub objective : t.objective ≡ is_some system.objective
  pub size : length t.basis ≡ variables system
  pub objective_basic : IsSome system.objective → is_basic t.basis (length system.columns + length system.rows) ≡ true
  pub placed : (v : ℕ) → IsPlaced (limits_at t v) (place_of t v)
  pub table : (x : Assignment) → KeepsRows system x ↔ Solves t x

-- ---- values
-- the value at which a place puts a nonbasic variable
abbrev pub value_at_place : Limits → Place → ℚ
value_at_place limits Basic = zero_ℚ
value_at_place limits AtLower = number_or_zero limits.lower
value_at_place limits AtUpper = number_or_zero limits.upper
value_at_place limits AtZero = zero_ℚ

-- of a nonbasic variable
abbrev pub place_value : Tableau → ℕ → ℚ
place_value t k = value_at_place (limits_at t k) (place_of t k)

-- of a basic variable: what the table gives where each nonbasic one stands in its place
abbrev pub basic_value : Tableau → ℕ → ℚ
basic_value t i = row_value t i (place_value t)

-- of either
abbrev pub value_of : Tableau → ℕ → ℚ
value_of t v = cond (is_basic t.basis v) (basic_value t v) (place_value t v)

-- ---- the start
-- a variable starts at its lower limit, else at its upper one, else at 0
abbrev pub start_place : Limits → Place
start_place limits = cond (is_some limits.lower) AtLower (cond (is_some limits.upper) AtUpper AtZero)

-- the rows and the objective are basic
abbrev pub start_basis : LinearSystem → List Place
start_basis system = map (λ limits. start_place limits) system.columns ++ (map (λ r. Basic) system.rows ++ cond (is_some system.objective) (Basic ∷ []) [])

-- the forms of the rows, and then that of the objective
abbrev pub forms_of : Option (List Term) → List (List Term)
forms_of None = []
forms_of (Some terms) = terms ∷ []

-- of all
abbrev pub start_forms : LinearSystem → List (List Term)
start_forms system = map (λ r. r.terms) system.rows ++ forms_of system.objective

-- each of them is its own form of the columns
abbrev pub start_factor : LinearSystem → ℕ → ℕ → ℚ
start_factor system i k = factor_of (slice_index_or (start_forms system) (i - length system.columns) []) k

-- the tableau at the start
abbrev pub start_tableau : LinearSystem → Tableau
start_tableau system = record { limits = all_limits system; objective = is_some system.objective; basis = start_basis system; factor = start_factor system }

-- ---- a pivot
-- the factors after i leaves and j enters: the row of i solved for j, and that put into the other rows
abbrev pub pivoted : (ℕ → ℕ → ℚ) → ℕ → ℕ → ℕ → ℕ → ℚ
pivoted f i j r k =
    cond (r == j) (cond (k == i) (one_ℚ /ℚ f i j) (neg_ℚ (f i k /ℚ f i j)))
    (cond (k == i) (f r j *ℚ (one_ℚ /ℚ f i j)) (f r k -ℚ f r j *ℚ (f i k /ℚ f i j)))

-- ---- laws
-- The terms of the rows and of the objective ascend over the columns, with factors that are not 0; no lower limit passes its upper one.
pub record IsWellFormedSystem (system : LinearSystem) : Type 0 where
  pub rows : All (λ r. IsForm (length system.columns) r.terms) system.rows
  pub objective : IfSome system.objective (IsForm (length system.columns))
  pub ordered : All (λ limits. IfSome limits.lower (λ l. IfSome limits.upper (λ u. l ≤ℚ u))) (all_limits system)

-- the tableau at the start is one of the system
abbrev pub StartLaw : Type 0
StartLaw = (system : LinearSystem) → IsWellFormedSystem system → IsTableauOf system (start_tableau system)

-- a basis has one table
abbrev pub TableLaw : Type 0
TableLaw = (system : LinearSystem) (t u : Tableau) → IsTableauOf system t → IsTableauOf system u → t.basis ≡ u.basis
    → (i k : ℕ) → is_basic t.basis i ≡ true → k < length t.basis → is_basic t.basis k ≡ false → t.factor i k ≡ u.factor i k
