-- The rules of a reduction: what each finds at a row or a column, and the operations that it makes there.
use Rattle.std.specs.Prelude.{ℕ, suc, ◌+◌, Bool, false, ◌&&◌, ◌||◌, not, cond, List, [], ◌∷◌, ◌++◌, map, length, flat_map, filter, Option, Some, None, is_none}
use Rattle.std.specs.Option.{option_map, option_and_then}
use Rattle.rational.specs.Rational.{ℚ, zero_ℚ, one_ℚ, ◌-ℚ◌, ◌*ℚ◌, ◌/ℚ◌, lt_q, eq_ℚ}
use Rattle.rational.specs.Linear.{Term, factor_of}
use Rattle.frac128.specs.Calculation.{Calculation}
use Rattle.frac128.specs.declared.Op.TheVariants.{Minus, Times, Over}
use Rattle.frac128.specs.Width.{operation}
use Rattle.lp_model.specs.declared.members.Side.{Side}
use Rattle.lp_model.specs.declared.members.Side.TheVariants.{Lo, Up}
use Rattle.certs.specs.Improves.{magnitude}
use Rattle.certs.specs.Plain.{crosses, crossing_shares}
use Rattle.certs.specs.System.{Limits, SystemRow, LinearSystem, VariableShare, limit_on}
use Rattle.certs.specs.Turns.{missed_side}
use Rattle.reductions.specs.declared.steps.Change.{Change}
use Rattle.reductions.specs.declared.steps.Doubleton.{Doubleton as Pair}
use Rattle.reductions.specs.declared.steps.Step.{Step}
use Rattle.reductions.specs.declared.steps.Step.TheVariants.{Empty, Singleton, Fixed, Redundant, Forcing, Doubleton}
use Rattle.reductions.specs.Limited.{opposite, is_side, turned, is_tighter, is_narrow, extreme}
use Rattle.reductions.specs.Stage.{row_in, limits_in, without_row}

-- what a rule finds: a step, or limits that contradict one another
pub data Found : Type 0 where
  Goes : Step → Found
  Decides : List VariableShare → Found

-- what is found, where a test passes
abbrev pub where_found : Bool → Found → Option Found
where_found test found = cond test (Some found) None

-- the variable of a row
abbrev pub row_variable : LinearSystem → ℕ → ℕ
row_variable system i = length system.columns + i

-- a limit of a variable, so many times
abbrev pub share_on : Side → ℕ → ℚ → VariableShare
share_on side v q = record { variable = v; side = side; weight = q }

-- the operations for those of the limits that are there, the lower first
abbrev pub limit_steps : (ℚ → Calculation) → Limits → Calculation
limit_steps f limits = one f limits.lower ++ one f limits.upper where
  one : (ℚ → Calculation) → Option ℚ → Calculation
  one f None = []
  one f (Some s) = f s

-- ---- limits that cross
-- the limits of the variable do
abbrev pub crossing_at : LinearSystem → ℕ → Option Found
crossing_at system v = where_found (crosses system v) (Decides (crossing_shares v))

-- ---- a row without columns
-- it is removed where 0 keeps its sides
abbrev pub empty_or_missed : LinearSystem → ℕ → Option Side → Found
empty_or_missed system i None = Goes (Empty i)
empty_or_missed system i (Some side) = Decides (share_on side (row_variable system i) one_ℚ ∷ [])

-- a row of no terms
abbrev pub empty_at : LinearSystem → ℕ → List Term → Option Found
empty_at system i [] = Some (empty_or_missed system i (missed_side (row_in system i).limits zero_ℚ))
empty_at system i (t ∷ terms) = None

-- ---- a row of one column
-- the limit that a side of the row makes of the column on a side
abbrev pub single_limit : Limits → ℚ → Side → Option ℚ
single_limit sides a side = option_map (λ s. s /ℚ a) (limit_on sides (turned a side))

-- the side of the row that makes the column's limit on a side, where that is strictly tighter
abbrev pub single_maker : Limits → Limits → ℚ → Side → Option Side
single_maker limits sides a side = cond (is_tighter side (limit_on limits side) (single_limit sides a side)) (Some (turned a side)) None

-- the step
abbrev pub single_step : Limits → Limits → ℕ → Term → Step
single_step limits sides i t = Singleton (record {
  row = i;
  column = t.column;
  factor = t.factor;
  lower = single_maker limits sides t.factor Lo;
  upper = single_maker limits sides t.factor Up;
})

-- its operations: each side over the factor
abbrev pub single_work : Limits → ℚ → Calculation
single_work sides a = limit_steps (λ s. operation Over s a ∷ []) sides

-- a row of one term
abbrev pub singleton_at : LinearSystem → ℕ → List Term → Option Found
singleton_at system i (t ∷ []) =
    let sides = (row_in system i).limits in
    where_found (is_narrow (single_work sides t.factor)) (Goes (single_step (limits_in system t.column) sides i t))
singleton_at system i _ = None

-- ---- what is put in for a column
-- the rows from number k on that have the column, with f of their factor there
abbrev pub changes_from : ℕ → (ℚ → ℚ) → ℕ → List SystemRow → List Change
changes_from j f k [] = []
changes_from j f k (r ∷ rows) =
    cond (eq_ℚ (factor_of r.terms j) zero_ℚ) (changes_from j f (suc k) rows)
    (record { row = k; factor = f (factor_of r.terms j) } ∷ changes_from j f (suc k) rows)

-- the operations of the rows that have it
abbrev pub changes_steps : ℕ → (SystemRow → Calculation) → List SystemRow → Calculation
changes_steps j f rows = flat_map f (filter (λ r. not (eq_ℚ (factor_of r.terms j) zero_ℚ)) rows)

-- the factor of a column in the objective, or 0
abbrev pub objective_factor : Option (List Term) → ℕ → ℚ
objective_factor None j = zero_ℚ
objective_factor (Some terms) j = factor_of terms j

-- ---- a column with equal limits
-- the value of limits that are equal
abbrev pub fixed_value : Limits → Option ℚ
fixed_value limits = option_and_then (λ l. option_and_then (λ u. cond (eq_ℚ l u) (Some l) None) limits.upper) limits.lower

-- the step
abbrev pub fixed_step : LinearSystem → ℕ → ℚ → Step
fixed_step system j v = Fixed (record { column = j; value = v; changes = changes_from j (λ f. f) 0 system.rows; objective = objective_factor system.objective j })

-- its operations: in each row with the column the product of factor and value, and each side less the product
abbrev pub fixed_work : LinearSystem → ℕ → ℚ → Calculation
fixed_work system j v =
    changes_steps j (λ r. let f = factor_of r.terms j in operation Times f v ∷ limit_steps (λ s. operation Minus s (f *ℚ v) ∷ []) r.limits) system.rows

-- with the value, where there is one
abbrev pub fixed_with : LinearSystem → ℕ → Option ℚ → Option Found
fixed_with system j None = None
fixed_with system j (Some v) = where_found (is_narrow (fixed_work system j v)) (Goes (fixed_step system j v))

-- at a column
abbrev pub fixed_at : LinearSystem → ℕ → Option Found
fixed_at system j = fixed_with system j (fixed_value (limits_in system j))

-- ---- sums against sides
-- whether both numbers are there and pass the test
abbrev pub both : (ℚ → ℚ → Bool) → Option ℚ → Option ℚ → Bool
both test None b = false
both test (Some a) None = false
both test (Some a) (Some b) = test a b

-- whether a value is past a number on its side: below on the lower side, above on the upper one
abbrev pub is_past : Side → ℚ → ℚ → Bool
is_past Lo number value = lt_q value number
is_past Up number value = lt_q number value

-- the side of a row, and its least sum for `Lo` or its greatest for `Up`
abbrev pub side_of_row : LinearSystem → ℕ → Side → Option ℚ
side_of_row system i side = limit_on (row_in system i).limits side

-- that sum
abbrev pub sum_of_row : LinearSystem → ℕ → Side → Option ℚ
sum_of_row system i side = extreme system side (row_in system i).terms

-- the limits that a sum takes, each as often as the magnitude of the factor says, those on a side
abbrev pub taken_shares : Side → List Term → Side → List VariableShare
taken_shares sum terms side = map (λ t. share_on side t.column (magnitude t.factor)) (filter (λ t. is_side side (turned t.factor sum)) terms)

-- a row can not meet its upper side where its least sum passes it, nor its lower one where its greatest sum is below it
abbrev pub is_impossible : LinearSystem → ℕ → Side → Bool
is_impossible system i side = both (is_past side) (side_of_row system i side) (sum_of_row system i (opposite side))

-- what shows it: the side, and the limits that the sum takes
abbrev pub impossible_shares : LinearSystem → ℕ → Side → List VariableShare
impossible_shares system i side =
    let terms = (row_in system i).terms in
    share_on side (row_variable system i) one_ℚ ∷ (taken_shares (opposite side) terms Lo ++ taken_shares (opposite side) terms Up)

-- the upper side first
abbrev pub impossible_at : LinearSystem → ℕ → Option Found
impossible_at system i =
    cond (is_impossible system i Up) (Some (Decides (impossible_shares system i Up)))
    (where_found (is_impossible system i Lo) (Decides (impossible_shares system i Lo)))

-- its limits alone keep the row's lower side where its least sum does, and its upper one where its greatest sum does; an absent side is kept
abbrev pub is_kept : LinearSystem → ℕ → Side → Bool
is_kept system i side = is_none (side_of_row system i side) || both (λ number sum. not (is_past side number sum)) (side_of_row system i side) (sum_of_row system i side)

-- the row is redundant
abbrev pub redundant_at : LinearSystem → ℕ → Option Found
redundant_at system i = where_found (is_kept system i Lo && is_kept system i Up) (Goes (Redundant i))

-- the row forces its columns where its least sum meets the upper side, or its greatest the lower one
abbrev pub is_forcing : LinearSystem → ℕ → Side → Bool
is_forcing system i side = both eq_ℚ (side_of_row system i side) (sum_of_row system i (opposite side))

-- the step
abbrev pub forcing_step : LinearSystem → ℕ → Side → Step
forcing_step system i side = Forcing (record { row = i; side = side; terms = (row_in system i).terms })

-- the upper side first
abbrev pub forcing_at : LinearSystem → ℕ → Option Found
forcing_at system i =
    cond (is_forcing system i Up) (Some (Goes (forcing_step system i Up)))
    (where_found (is_forcing system i Lo) (Goes (forcing_step system i Lo)))

-- ---- an equation of two columns
-- the side of y whose limit limits x on a side, in a x + b y = c
abbrev pub pair_side : ℚ → ℚ → Side → Side
pair_side a b side = opposite (turned b (turned a side))

-- the limit of x on a side that a limit of y makes
abbrev pub pair_limit : Limits → ℚ → ℚ → ℚ → Side → Option ℚ
pair_limit of_y a b c side = option_map (λ l. (c -ℚ b *ℚ l) /ℚ a) (limit_on of_y (pair_side a b side))

-- the side of y that makes it, where it is strictly tighter
abbrev pub pair_maker : Limits → Limits → ℚ → ℚ → ℚ → Side → Option Side
pair_maker of_x of_y a b c side = cond (is_tighter side (limit_on of_x side) (pair_limit of_y a b c side)) (Some (pair_side a b side)) None

-- the equation, with what the step makes of it
abbrev pub pair_of : LinearSystem → ℕ → Term → Term → ℚ → Pair
pair_of system i s t c = record {
  row = i;
  x = s.column;
  y = t.column;
  a = s.factor;
  b = t.factor;
  c = c;
  lower = pair_maker (limits_in system s.column) (limits_in system t.column) s.factor t.factor c Lo;
  upper = pair_maker (limits_in system s.column) (limits_in system t.column) s.factor t.factor c Up;
  changes = changes_from t.column (λ g. g /ℚ t.factor) 0 (without_row i system).rows;
  objective = objective_factor system.objective t.column /ℚ t.factor;
}

-- the step
abbrev pub pair_step : LinearSystem → ℕ → Term → Term → ℚ → Step
pair_step system i s t c = Doubleton (pair_of system i s t c)

-- the operations of a form with factor g on y and h on x: how often the equation is taken from it, and its factor of x
abbrev pub form_steps : ℚ → ℚ → ℚ → ℚ → Calculation
form_steps a b g h = operation Over g b ∷ operation Times (g /ℚ b) a ∷ operation Minus h ((g /ℚ b) *ℚ a) ∷ []

-- of a row: those of its form, and each side less so many times c
abbrev pub pair_row_steps : Term → Term → ℚ → SystemRow → Calculation
pair_row_steps s t c r =
    let f = factor_of r.terms t.column /ℚ t.factor in
    form_steps s.factor t.factor (factor_of r.terms t.column) (factor_of r.terms s.column)
    ++ operation Times f c ∷ limit_steps (λ l. operation Minus l (f *ℚ c) ∷ []) r.limits

-- of the objective, where it has y
abbrev pub pair_objective_steps : Term → Term → Option (List Term) → Calculation
pair_objective_steps s t None = []
pair_objective_steps s t (Some terms) = cond (eq_ℚ (factor_of terms t.column) zero_ℚ) [] (form_steps s.factor t.factor (factor_of terms t.column) (factor_of terms s.column))

-- all: the limits that those of y make, then the other rows that have y, then the objective
abbrev pub pair_work : LinearSystem → ℕ → Term → Term → ℚ → Calculation
pair_work system i s t c =
    limit_steps (λ l. operation Times t.factor l ∷ operation Minus c (t.factor *ℚ l) ∷ operation Over (c -ℚ t.factor *ℚ l) s.factor ∷ []) (limits_in system t.column)
    ++ (changes_steps t.column (pair_row_steps s t c) (without_row i system).rows ++ pair_objective_steps s t system.objective)

-- with the value of an equation, where the row is one
abbrev pub pair_with : LinearSystem → ℕ → Term → Term → Option ℚ → Option Found
pair_with system i s t None = None
pair_with system i s t (Some c) = where_found (is_narrow (pair_work system i s t c)) (Goes (pair_step system i s t c))

-- a row of two terms
abbrev pub doubleton_at : LinearSystem → ℕ → List Term → Option Found
doubleton_at system i (s ∷ t ∷ []) = pair_with system i s t (fixed_value (row_in system i).limits)
doubleton_at system i _ = None
