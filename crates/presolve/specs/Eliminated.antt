-- What is put in for a column, and what that makes of forms, rows and objectives.
use Rattle.std.specs.Prelude.{◌≡◌, ◌≢◌, ℕ, suc, ◌==◌, ◌<◌, Bool, true, false, cond, List, [], ◌∷◌, ◌++◌, slice_set, Option, None, Some, AllPairs}
use Rattle.std.specs.Option.{MatchOption, option_map, option_or}
use Rattle.rational.specs.Rational.{ℚ, zero_ℚ, ◌-ℚ◌, ◌*ℚ◌, ◌/ℚ◌, eq_ℚ}
use Rattle.rational.specs.Linear.{Term, factor_of}
use Rattle.frac128.specs.Calculation.{Calculation}
use Rattle.frac128.specs.declared.Op.TheVariants.{Minus, Times, Over}
use Rattle.frac128.specs.Width.{operation}
use Rattle.lp_model.specs.declared.members.Side.{Side}
use Rattle.certs.specs.System.{Limits, SystemRow, LinearSystem, empty_system_row, limit_on}
use Rattle.reductions.specs.declared.steps.Change.{Change}
use Rattle.reductions.specs.Limited.{map_limits, is_narrow, is_tighter}
use Rattle.reductions.specs.Reduction.{without_column, with_factor}
use Rattle.reductions.specs.Rules.{limit_steps, changes_from, changes_steps, objective_factor, pair_side}
use Rattle.presolve.specs.Plans.{At}
use Rattle.presolve.specs.declared.eliminating.Elimination.{Elimination}
use Rattle.presolve.specs.declared.eliminating.Equation.{Equation as PairEquation}
use Rattle.presolve.specs.declared.eliminating.Elimination.TheVariants.{Value, Equation}

-- something is there exactly where no operation is too wide, and is what it is to be
abbrev pub WhereNarrow : {A : Type 0} → Calculation → (A → Type 0) → Option A → Type 0
WhereNarrow steps P made = MatchOption made (is_narrow steps ≡ false) (λ a. P a × (is_narrow steps ≡ true))

-- the column that goes
abbrev pub gone_column : Elimination → ℕ
gone_column (Value j v) = j
gone_column (Equation q) = q.gone.column

-- the number that is put in: the value, or that of the equation
abbrev pub put_number : Elimination → ℚ
put_number (Value j v) = v
put_number (Equation q) = q.value

-- an equation's factor of the column is not 0
abbrev pub CanDivide : Elimination → Type 0
CanDivide (Value j v) = Unit {0}
CanDivide (Equation q) = q.gone.factor ≢ zero_ℚ

-- whether the row is the equation itself
abbrev pub is_equation : Elimination → ℕ → Bool
is_equation (Value j v) k = false
is_equation (Equation q) k = q.row == k

-- the rows, the equation itself emptied
abbrev pub other_rows : Elimination → List SystemRow → List SystemRow
other_rows (Value j v) rows = rows
other_rows (Equation q) rows = slice_set rows q.row empty_system_row

-- that empty row, where there is an equation
abbrev pub emptied : Elimination → List (At SystemRow)
emptied (Value j v) = []
emptied (Equation q) = record { number = q.row; item = empty_system_row } ∷ []

-- ---- forms
-- the terms ascend over the columns
abbrev pub IsAscending : List Term → Type 0
IsAscending terms = AllPairs (λ s t. s.column < t.column) terms

-- how many times what is put in is taken from a form, by the form's factor of the column
abbrev pub times_by : Elimination → ℚ → ℚ
times_by (Value j v) g = g
times_by (Equation q) g = g /ℚ q.gone.factor

-- its operations
abbrev pub times_steps : Elimination → ℚ → Calculation
times_steps (Value j v) g = []
times_steps (Equation q) g = operation Over g q.gone.factor ∷ []

-- a form from which it is taken so many times
abbrev pub terms_with : Elimination → ℚ → List Term → List Term
terms_with (Value j v) times terms = without_column j terms
terms_with (Equation q) times terms = with_factor q.kept.column (factor_of terms q.kept.column -ℚ times *ℚ q.kept.factor) (without_column q.gone.column terms)

-- the operations of a product that is taken from a number
abbrev pub less_steps : ℚ → ℚ → ℚ → Calculation
less_steps h a b = operation Times a b ∷ operation Minus h (a *ℚ b) ∷ []

-- those of the form
abbrev pub terms_steps : Elimination → ℚ → List Term → Calculation
terms_steps (Value j v) times terms = []
terms_steps (Equation q) times terms = less_steps (factor_of terms q.kept.column) times q.kept.factor

-- ---- rows
-- the operations for a limit that is there
abbrev pub one_steps : (ℚ → Calculation) → Option ℚ → Calculation
one_steps f None = []
one_steps f (Some s) = f s

-- the operations of sides from which a product is taken
abbrev pub sides_steps : ℚ → ℚ → Limits → Calculation
sides_steps a b sides = operation Times a b ∷ limit_steps (λ s. operation Minus s (a *ℚ b) ∷ []) sides

-- how many times it is taken from a row
abbrev pub row_times : Elimination → SystemRow → ℚ
row_times e r = times_by e (factor_of r.terms (gone_column e))

-- the row after that
abbrev pub row_with : Elimination → SystemRow → SystemRow
row_with e r = record { terms = terms_with e (row_times e r) r.terms; limits = map_limits (λ s. s -ℚ row_times e r *ℚ put_number e) r.limits }

-- and its operations
abbrev pub row_steps : Elimination → SystemRow → Calculation
row_steps e r = times_steps e (factor_of r.terms (gone_column e)) ++ (terms_steps e (row_times e r) r.terms ++ sides_steps (row_times e r) (put_number e) r.limits)

-- the rows from number k on that have a column, as f makes them
abbrev pub new_rows_from : ℕ → (SystemRow → SystemRow) → ℕ → List SystemRow → List (At SystemRow)
new_rows_from j f k [] = []
new_rows_from j f k (r ∷ rows) =
    cond (eq_ℚ (factor_of r.terms j) zero_ℚ) (new_rows_from j f (suc k) rows)
    (record { number = k; item = f r } ∷ new_rows_from j f (suc k) rows)

-- ---- objectives
-- a form that has the column after that, and one that lacks it as it is
abbrev pub form_with : Elimination → List Term → List Term
form_with e terms = cond (eq_ℚ (factor_of terms (gone_column e)) zero_ℚ) terms (terms_with e (times_by e (factor_of terms (gone_column e))) terms)

-- the operations of that
abbrev pub form_steps : Elimination → List Term → Calculation
form_steps e terms =
    let g = factor_of terms (gone_column e) in
    cond (eq_ℚ g zero_ℚ) [] (times_steps e g ++ terms_steps e (times_by e g) terms)

-- of an objective, where there is one
abbrev pub objective_steps : Elimination → Option (List Term) → Calculation
objective_steps e None = []
objective_steps e (Some terms) = form_steps e terms

-- ---- a system
-- the operations of the rows that have the column
abbrev pub rows_steps : Elimination → List SystemRow → Calculation
rows_steps e rows = changes_steps (gone_column e) (row_steps e) (other_rows e rows)

-- what is made of the rows
pub record AreChanged (e : Elimination) (rows : List SystemRow) (changes : List Change) (news : List (At SystemRow)) : Type 0 where
  pub changes_are : changes ≡ changes_from (gone_column e) (times_by e) 0 (other_rows e rows)
  pub rows_are : news ≡ emptied e ++ new_rows_from (gone_column e) (row_with e) 0 (other_rows e rows)

-- what is made of an objective
pub record IsChanged (e : Elimination) (objective : Option (List Term)) (times : ℚ) (terms : Option (List Term)) : Type 0 where
  pub times_are : times ≡ times_by e (objective_factor objective (gone_column e))
  pub terms_are : option_or terms objective ≡ option_map (form_with e) objective

-- the operations of the rows, and then of the objective
abbrev pub parts_steps : Elimination → LinearSystem → Calculation
parts_steps e system = rows_steps e system.rows ++ objective_steps e system.objective

-- what is made of a system
pub record AreParts (e : Elimination) (system : LinearSystem) (changes : List Change) (news : List (At SystemRow)) (times : ℚ) (terms : Option (List Term)) : Type 0 where
  pub rows : AreChanged e system.rows changes news
  pub objective : IsChanged e system.objective times terms

-- ---- limits
-- what an equation makes of a limit of the column that goes
abbrev pub image_by : PairEquation → ℚ → ℚ
image_by q l = (q.value -ℚ q.gone.factor *ℚ l) /ℚ q.kept.factor

-- its operations
abbrev pub image_steps : PairEquation → ℚ → Calculation
image_steps q l = less_steps q.value q.gone.factor l ++ operation Over (q.value -ℚ q.gone.factor *ℚ l) q.kept.factor ∷ []

-- the limit among these that limits the column that is kept on a side
abbrev pub image_on : PairEquation → Limits → Side → Option ℚ
image_on q images side = limit_on images (pair_side q.kept.factor q.gone.factor side)

-- the side that it comes from, where it is strictly tighter
abbrev pub made_by : PairEquation → Limits → Limits → Side → Option Side
made_by q limits images side = cond (is_tighter side (limit_on limits side) (image_on q images side)) (Some (pair_side q.kept.factor q.gone.factor side)) None
