-- The reduction of a system: which step comes next, what it makes, and where it ends.
use Rattle.std.specs.Prelude.{◌≡◌, ℕ, ◌+◌, ◌==◌, nat_lt, Bool, false, not, cond, List, [], ◌∷◌, ◌++◌, map, length, filter, slice_set, Option, Some, None}
use Rattle.std.specs.Option.{option_map, option_or}
use Rattle.rational.specs.Rational.{ℚ, zero_ℚ, ◌-ℚ◌, ◌*ℚ◌, ◌/ℚ◌, eq_ℚ}
use Rattle.rational.specs.Linear.{Term, factor_of}
use Rattle.lp_model.specs.declared.members.Side.{Side}
use Rattle.certs.specs.Ended.{numbers_from}
use Rattle.certs.specs.System.{SystemRow, LinearSystem, VariableShare, no_limits}
use Rattle.reductions.specs.declared.steps.Doubleton.{Doubleton as Pair}
use Rattle.reductions.specs.declared.steps.Step.{Step}
use Rattle.reductions.specs.declared.steps.Step.TheVariants.{Empty, Singleton, Fixed, Redundant, Forcing, Doubleton}
use Rattle.reductions.specs.Limited.{opposite, tightened_by, map_limits, taken_value}
use Rattle.reductions.specs.Rules.{Found, crossing_at, empty_at, singleton_at, fixed_at, impossible_at, redundant_at, forcing_at, doubleton_at, single_limit, pair_limit}
use Rattle.reductions.specs.Rules.Found.{Goes, Decides}
use Rattle.reductions.specs.Stage.{Stage, row_in, limits_in, is_live, without_row, with_limits}

-- ---- what a step makes
-- the terms without a column
abbrev pub without_column : ℕ → List Term → List Term
without_column j terms = filter (λ t. not (t.column == j)) terms

-- a term, where its factor is not 0
abbrev pub term_of : ℕ → ℚ → List Term
term_of j q = cond (eq_ℚ q zero_ℚ) [] (record { column = j; factor = q } ∷ [])

-- the terms, with another factor of a column
abbrev pub with_factor : ℕ → ℚ → List Term → List Term
with_factor j q terms = filter (λ t. nat_lt t.column j) terms ++ (term_of j q ++ filter (λ t. nat_lt j t.column) terms)

-- a row without a column that has a value: its sides less the factor times the value
abbrev pub fixed_row : ℕ → ℚ → SystemRow → SystemRow
fixed_row j v r = cond (eq_ℚ (factor_of r.terms j) zero_ℚ) r
    (record { terms = without_column j r.terms; limits = map_limits (λ s. s -ℚ factor_of r.terms j *ℚ v) r.limits })

-- the system without it
abbrev pub fixed_system : ℕ → ℚ → LinearSystem → LinearSystem
fixed_system j v system = record {
  columns = slice_set system.columns j no_limits;
  rows = map (fixed_row j v) system.rows;
  objective = option_map (without_column j) system.objective;
}

-- the limits made equal, of each of the columns in turn, to those that a sum takes
abbrev pub forced_limits : LinearSystem → Side → List Term → LinearSystem
forced_limits system sum [] = system
forced_limits system sum (t ∷ terms) = forced_limits (with_limits t.column (record { lower = Some (taken_value system sum t); upper = Some (taken_value system sum t) }) system) sum terms

-- terms without y, with the equation taken from them as often as makes it vanish
abbrev pub pair_terms : Pair → List Term → List Term
pair_terms d terms = cond (eq_ℚ (factor_of terms d.y) zero_ℚ) terms
    (with_factor d.x (factor_of terms d.x -ℚ (factor_of terms d.y /ℚ d.b) *ℚ d.a) (without_column d.y terms))

-- a row without y
abbrev pub pair_row : Pair → SystemRow → SystemRow
pair_row d r = cond (eq_ℚ (factor_of r.terms d.y) zero_ℚ) r
    (record { terms = pair_terms d r.terms; limits = map_limits (λ s. s -ℚ (factor_of r.terms d.y /ℚ d.b) *ℚ d.c) r.limits })

-- the system without the equation and y
abbrev pub pair_system : Pair → LinearSystem → LinearSystem
pair_system d system = record {
  columns = slice_set (slice_set system.columns d.x (tightened_by (pair_limit (limits_in system d.y) d.a d.b d.c) (limits_in system d.x))) d.y no_limits;
  rows = map (pair_row d) (without_row d.row system).rows;
  objective = option_map (pair_terms d) system.objective;
}

-- the system after a step
abbrev pub reduced_by : Step → LinearSystem → LinearSystem
reduced_by (Empty i) system = without_row i system
reduced_by (Singleton s) system = with_limits s.column (tightened_by (single_limit (row_in system s.row).limits s.factor) (limits_in system s.column)) (without_row s.row system)
reduced_by (Fixed f) system = fixed_system f.column f.value system
reduced_by (Redundant i) system = without_row i system
reduced_by (Forcing f) system = without_row f.row (forced_limits system (opposite f.side) f.terms)
reduced_by (Doubleton d) system = pair_system d system

-- the row that it removes, where it removes one
abbrev pub removed_row : Step → Option ℕ
removed_row (Empty i) = Some i
removed_row (Singleton s) = Some s.row
removed_row (Fixed f) = None
removed_row (Redundant i) = Some i
removed_row (Forcing f) = Some f.row
removed_row (Doubleton d) = Some d.row

-- the rows that are left without it
abbrev pub left_without : Option ℕ → List Bool → List Bool
left_without None live = live
left_without (Some i) live = slice_set live i false

-- the stage after a step
abbrev pub after_step : Step → Stage → Stage
after_step step stage = record { system = reduced_by step stage.system; live = left_without (removed_row step) stage.live }

-- ---- what comes next
-- the rules in their order
pub data Rule : Type 0 where
  CrossingLimits : Rule
  EmptyRow : Rule
  SingletonRow : Rule
  FixedColumn : Rule
  ImpossibleRow : Rule
  RedundantRow : Rule
  ForcingRow : Rule
  DoubletonRow : Rule

-- all of them
abbrev pub rules : List Rule
rules = CrossingLimits ∷ EmptyRow ∷ SingletonRow ∷ FixedColumn ∷ ImpossibleRow ∷ RedundantRow ∷ ForcingRow ∷ DoubletonRow ∷ []

-- what a rule finds at a row that is there
abbrev pub found_in_row : Rule → LinearSystem → ℕ → Option Found
found_in_row CrossingLimits system i = None
found_in_row EmptyRow system i = empty_at system i (row_in system i).terms
found_in_row SingletonRow system i = singleton_at system i (row_in system i).terms
found_in_row FixedColumn system i = None
found_in_row ImpossibleRow system i = impossible_at system i
found_in_row RedundantRow system i = redundant_at system i
found_in_row ForcingRow system i = forcing_at system i
found_in_row DoubletonRow system i = doubleton_at system i (row_in system i).terms

-- what a rule finds at a place: limits cross at a variable, a column is fixed, all others look at rows
abbrev pub found_at : Rule → Stage → ℕ → Option Found
found_at CrossingLimits stage v = crossing_at stage.system v
found_at FixedColumn stage j = fixed_at stage.system j
found_at rule stage i = cond (is_live stage i) (found_in_row rule stage.system i) None

-- the places at which a rule looks
abbrev pub places : Rule → LinearSystem → List ℕ
places CrossingLimits system = numbers_from 0 (length system.columns + length system.rows)
places FixedColumn system = numbers_from 0 (length system.columns)
places rule system = numbers_from 0 (length system.rows)

-- the first that is found at the items of a list
abbrev pub first_found : {A : Type 0} → (A → Option Found) → List A → Option Found
first_found find [] = None
first_found find (a ∷ rest) = option_or (find a) (first_found find rest)

-- what comes next: what the first rule finds that finds something, at the least place
abbrev pub next_found : Stage → Option Found
next_found stage = first_found (λ rule. first_found (found_at rule stage) (places rule stage.system)) rules

-- ---- the reduction
-- the steps lead from one stage to the other, each the next
abbrev pub Reduces : Stage → List Step → Stage → Type 0
Reduces stage [] last = stage ≡ last
Reduces stage (step ∷ steps) last = (next_found stage ≡ Some (Goes step)) × Reduces (after_step step stage) steps last

-- no rule finds anything
abbrev pub IsReduced : Stage → Type 0
IsReduced stage = next_found stage ≡ None

-- the next thing found decides
abbrev pub IsDecidedBy : Stage → List VariableShare → Type 0
IsDecidedBy stage shares = next_found stage ≡ Some (Decides shares)
