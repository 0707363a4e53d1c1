-- Linear systems with limits on their variables, bases, and tables; and the system of the alternative.
use Rattle.std.specs.Prelude.{◌≡◌, ℕ, ◌+◌, ◌-◌, ◌<◌, ◌==◌, nat_lt, zero, suc, Bool, true, false, cond, List, [], ◌∷◌, ◌++◌, map, length, slice_index_or, filter, Option, Some, None, is_some, IsSome, IfSome, All}
use Rattle.rational.specs.Rational.{ℚ, neg_ℚ, zero_ℚ, one_ℚ, lt_q, ◌*ℚ◌, ◌/ℚ◌, ◌≤ℚ◌, ◌<ℚ◌, eq_ℚ}
use Rattle.rational.specs.Sum.{sum_over}
use Rattle.rational.specs.Linear.{Term, Assignment, factor_of, form_value}
use Rattle.lp_model.specs.declared.members.Member.{Member}
use Rattle.lp_model.specs.declared.members.Side.{Side}
use Rattle.lp_model.specs.declared.members.Side.TheVariants.{Lo, Up}
use Rattle.lp_model.specs.Program.{Program, IsWellFormed}
use Rattle.lp_model.specs.Members.{column_form, form, number, side, weight, is_mark}
use Rattle.lp_model.specs.Satisfaction.{Satisfies, IsSatisfiable, IsIrreducible}
use Rattle.certs.specs.declared.evidence.Source.TheVariants.{Member as Of}
use Rattle.certs.specs.declared.evidence.Share.{Share}
use Rattle.certs.specs.Combination.{number_or_zero, signed}
use Rattle.certs.specs.Alternative.{cost_of, cost, IsWeighting, IsCheapest, IsPrice, members_of}

-- a least and a greatest value, each where it is there
pub record Limits : Type 0 where
  pub lower : Option ℚ
  pub upper : Option ℚ

-- a form with limits
pub record SystemRow : Type 0 where
  pub terms : List Term
  pub limits : Limits

-- the variables are the columns, then one for each row, then the objective where there is one
pub record LinearSystem : Type 0 where
  pub columns : List Limits
  pub rows : List SystemRow
  pub objective : Option (List Term)

-- neither
abbrev pub no_limits : Limits
no_limits = record { lower = None; upper = None }

-- what stands past the last row
abbrev pub empty_system_row : SystemRow
empty_system_row = record { terms = []; limits = no_limits }

-- each row's variable is the row's form, and the objective's variable is the objective
pub record KeepsRows (system : LinearSystem) (x : Assignment) : Type 0 where
  pub rows : (i : ℕ) → i < length system.rows → x (length system.columns + i) ≡ form_value (slice_index_or system.rows i empty_system_row).terms x
  pub objective : IfSome system.objective (λ terms. x (length system.columns + length system.rows) ≡ form_value terms x)

-- where a variable stands
pub data Place : Type 0 where
  Basic : Place
  AtLower : Place
  AtUpper : Place
  AtZero : Place

-- whether the variable is basic
abbrev pub is_basic : List Place → ℕ → Bool
is_basic basis v = elim (slice_index_or basis v AtZero) [ Basic ↦ true | AtLower ↦ false | AtUpper ↦ false | AtZero ↦ false ]

-- At every assignment that keeps the rows, each basic variable is its form of the nonbasic ones.
pub record IsTable (system : LinearSystem) (basis : List Place) (table : ℕ → List Term) : Type 0 where
  pub equals : (x : Assignment) → KeepsRows system x → (i : ℕ) → is_basic basis i ≡ true → x i ≡ form_value (table i) x
  pub nonbasic : (i : ℕ) → is_basic basis i ≡ true → All (λ t. is_basic basis t.column ≡ false) (table i)
  pub known : (i : ℕ) → is_basic basis i ≡ true → All (λ t. t.column < length system.columns + suc (length system.rows)) (table i)

-- ---- the system of the alternative
-- the members of the set that ask for a number, in order
abbrev pub bounding : Program → List Member → List Member
bounding model set = filter (λ m. is_some (number model m)) set

-- a member's factor of a column, its number and its cost; the first two are negated for `lo`
abbrev pub member_factor : Program → ℕ → Member → ℚ
member_factor model j m = signed (side m) (factor_of (form model m) j)

-- its number
abbrev pub member_number : Program → Member → ℚ
member_number model m = signed (side m) (number_or_zero (number model m))

-- its cost
abbrev pub member_cost : Program → Member → ℚ
member_cost model m = cost_of (weight model m)

-- a term for each member whose factor is not 0, numbered from k
abbrev pub terms_from : ℕ → (Member → ℚ) → List Member → List Term
terms_from k f [] = []
terms_from k f (m ∷ members) = cond (eq_ℚ (f m) zero_ℚ) (terms_from (suc k) f members) (record { column = k; factor = f m } ∷ terms_from (suc k) f members)

-- both limits at one value
abbrev pub equal_to : ℚ → Limits
equal_to q = record { lower = Some q; upper = Some q }

-- for each column of the model a row equal to 0
abbrev pub column_rows : Program → List Member → ℕ → List SystemRow
column_rows model members zero = []
column_rows model members (suc c) = column_rows model members c ++ record { terms = terms_from 0 (member_factor model c) members; limits = equal_to zero_ℚ } ∷ []

-- A variable from 0 on for each member; the columns cancel, and the numbers leave -1; the weighted sum is made least.
abbrev pub alternative_system : Program → List Member → LinearSystem
alternative_system model set = record {
  columns = map (λ m. record { lower = Some zero_ℚ; upper = None }) (bounding model set);
  rows = column_rows model (bounding model set) (length model.columns) ++ record { terms = terms_from 0 (member_number model) (bounding model set); limits = equal_to (neg_ℚ one_ℚ) } ∷ [];
  objective = Some (terms_from 0 (λ m. neg_ℚ (member_cost model m)) (bounding model set));
}

-- the shares of the members that have a positive value
abbrev pub support : List Member → (ℕ → ℚ) → List Share
support [] y = []
support (m ∷ members) y = cond (lt_q zero_ℚ (y 0)) (record { source = Of m; weight = y 0 } ∷ support members (λ k. y (suc k))) (support members (λ k. y (suc k)))

-- What the end of a run on that system gives: a table, and values that keep the rows and limits and are 0 on the nonbasic members.
pub record IsLastTable (model : Program) (set : List Member) (basis : List Place) (table : ℕ → List Term) (y : Assignment) : Type 0 where
  pub table_is : IsTable (alternative_system model set) basis table
  pub keeps : KeepsRows (alternative_system model set) y
  pub nonnegative : (k : ℕ) → k < length (bounding model set) → zero_ℚ ≤ℚ y k
  pub at_zero : (k : ℕ) → k < length (bounding model set) → is_basic basis k ≡ false → y k ≡ zero_ℚ
  pub columns_at : (j : ℕ) → j < length model.columns → y (length (bounding model set) + j) ≡ zero_ℚ
  pub last_at : y (length (bounding model set) + length model.columns) ≡ neg_ℚ one_ℚ
  pub objective_basic : is_basic basis (length (bounding model set) + suc (length model.columns)) ≡ true

-- the point that is read off the row of a member: its factors of the columns' rows, over the member's value
abbrev pub row_point : Program → List Member → (ℕ → List Term) → Assignment → ℕ → Assignment
row_point model set table y i j = factor_of (table i) (length (bounding model set) + j) /ℚ y i

-- the same values, but 0 at one place
abbrev pub but : ℕ → (ℕ → ℚ) → ℕ → ℚ
but i y k = cond (k == i) zero_ℚ (y k)

-- The members with positive values are a weighting, and irreducible without further filtering: the point of each one's row satisfies the others.
pub record IsVertex (model : Program) (set : List Member) (table : ℕ → List Term) (y : Assignment) : Type 0 where
  pub weighting : IsWeighting model set (support (bounding model set) y)
  pub irreducible : IsIrreducible model (members_of (support (bounding model set) y))
  pub others : (i : ℕ) → i < length (bounding model set) → zero_ℚ <ℚ y i
      → Satisfies model (members_of (support (bounding model set) (but i y))) (row_point model set table y i)

-- the end of a run gives such members
abbrev pub LastTableLaw : Type 0
LastTableLaw = (model : Program) (set : List Member) (basis : List Place) (table : ℕ → List Term) (y : Assignment) → IsWellFormed model
    → IsLastTable model set basis table y → IsVertex model set table y

-- At the end no nonbasic member makes the objective greater.
pub record IsOptimal (model : Program) (set : List Member) (basis : List Place) (table : ℕ → List Term) : Type 0 where
  pub no_gain : (k : ℕ) → k < length (bounding model set) → is_basic basis k ≡ false → factor_of (table (length (bounding model set) + suc (length model.columns))) k ≤ℚ zero_ℚ

-- the objective's factor of the last row is the total, and its factors of the columns' rows, negated, are the price
abbrev pub price_total : Program → List Member → (ℕ → List Term) → ℚ
price_total model set table = factor_of (table (length (bounding model set) + suc (length model.columns))) (length (bounding model set) + length model.columns)

-- the price of a column
abbrev pub price_at : Program → List Member → (ℕ → List Term) → Assignment
price_at model set table j = neg_ℚ (factor_of (table (length (bounding model set) + suc (length model.columns))) (length (bounding model set) + j))

-- then the support is a cheapest weighting, and its cost has a price
abbrev pub CheapestLaw : Type 0
CheapestLaw = (model : Program) (set : List Member) (basis : List Place) (table : ℕ → List Term) (y : Assignment) → IsWellFormed model
    → IsLastTable model set basis table y → IsOptimal model set basis table
    → IsPrice model set (price_total model set table) (price_at model set table)
    × (cost model (support (bounding model set) y) ≡ price_total model set table)
    × IsCheapest model set (support (bounding model set) y)

-- ---- combinations in variables
-- the form of a variable: a column itself, or a row's terms
abbrev pub variable_form : LinearSystem → ℕ → List Term
variable_form system v = cond (nat_lt v (length system.columns)) (column_form v) (slice_index_or system.rows (v - length system.columns) empty_system_row).terms

-- and its limits
abbrev pub variable_limits : LinearSystem → ℕ → Limits
variable_limits system v = cond (nat_lt v (length system.columns)) (slice_index_or system.columns v no_limits) (slice_index_or system.rows (v - length system.columns) empty_system_row).limits

-- the limit on a side
abbrev pub limit_on : Limits → Side → Option ℚ
limit_on limits Lo = limits.lower
limit_on limits Up = limits.upper

-- a limit of a variable, so many times
pub record VariableShare : Type 0 where
  pub variable : ℕ
  pub side : Side
  pub weight : ℚ

-- The columns cancel, and what is left says that 0 is below 0.
pub record IsVariableCombination (system : LinearSystem) (shares : List VariableShare) : Type 0 where
  pub positive : All (λ s. zero_ℚ <ℚ s.weight) shares
  pub known : All (λ s. s.variable < length system.columns + length system.rows) shares
  pub there : All (λ s. IsSome (limit_on (variable_limits system s.variable) s.side)) shares
  pub cancels : (k : ℕ) → k < length system.columns → sum_over (λ s. signed s.side s.weight *ℚ factor_of (variable_form system s.variable) k) shares ≡ zero_ℚ
  pub contradicts : sum_over (λ s. signed s.side s.weight *ℚ number_or_zero (limit_on (variable_limits system s.variable) s.side)) shares <ℚ zero_ℚ

-- how much weight the shares put on a variable, with the signs of their sides
abbrev pub net : List VariableShare → ℕ → ℚ
net shares v = sum_over (λ s. cond (s.variable == v) (signed s.side s.weight) zero_ℚ) shares

-- the point that is read off them: the weights on the columns' rows, negated, over that on the last row
abbrev pub net_point : Program → List Member → List VariableShare → Assignment
net_point model set shares j =
    neg_ℚ (net shares (length (bounding model set) + j)) /ℚ net shares (length (bounding model set) + length model.columns)

-- what shows that there is no weighting gives that point of the set
abbrev pub NoWeightingLaw : Type 0
NoWeightingLaw = (model : Program) (set : List Member) (shares : List VariableShare) → IsWellFormed model → All (λ m. is_mark m ≡ false) set
    → IsVariableCombination (alternative_system model set) shares → IsSatisfiable model set × Satisfies model set (net_point model set shares)
