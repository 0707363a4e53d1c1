-- What the rules that put something in for a column find, and what their plans make.
use Rattle.std.proofs.Common.{◌≡◌, refl, sym, ◌∙◌, ap, subst, ℕ, Bool, true, false, cond, ◌&&◌, List, [], ◌∷◌, ◌++◌, map, Option, Some, None}
use Rattle.std.specs.Prelude.{IfSome, slice_set}
use Rattle.std.specs.Option.{option_map}
use Rattle.std.proofs.lemmas.Bool.{cond-false}
use Rattle.rational.specs.Rational.{ℚ, zero_ℚ, ◌-ℚ◌, ◌*ℚ◌, eq_ℚ}
use Rattle.rational.specs.Linear.{Term, factor_of}
use Rattle.rational.proofs.Compare.{eq-Decides}
use Rattle.frac128.specs.Calculation.{Calculation}
use Rattle.lp_model.specs.Program.{IsForm}
use Rattle.lp_model.specs.declared.members.Side.{Side}
use Rattle.lp_model.specs.declared.members.Side.TheVariants.{Lo, Up}
use Rattle.certs.specs.System.{Limits, SystemRow, LinearSystem, no_limits, empty_system_row, limit_on}
use Rattle.reductions.specs.declared.steps.Change.{Change}
use Rattle.reductions.specs.declared.steps.Step.{Step}
use Rattle.reductions.specs.declared.steps.Step.TheVariants.{Fixed, Doubleton}
use Rattle.reductions.specs.Laws.{IsFormed}
use Rattle.reductions.specs.Limited.{is_narrow, is_tighter, map_limits, tightened_by}
use Rattle.reductions.specs.Reduction.{without_column, fixed_row, pair_row, reduced_by}
use Rattle.reductions.specs.Rules.{Found, where_found, fixed_step, fixed_work, fixed_with, pair_limit, pair_maker, pair_of, pair_side, pair_step, pair_work, pair_with, pair_objective_steps, limit_steps, changes_steps}
use Rattle.reductions.specs.Rules.Found.{Goes}
use Rattle.reductions.specs.Stage.{limits_in}
use Rattle.reductions.proofs.WeightChanges.{mapped_on}
use Rattle.presolve.specs.Next.{IsNext}
use Rattle.presolve.specs.Plans.{At, PlanValue, put_all, planned}
use Rattle.presolve.specs.declared.plans.Next.TheVariants.{Plan}
use Rattle.presolve.specs.declared.eliminating.Equation.{Equation as PairEquation}
use Rattle.presolve.specs.declared.eliminating.Elimination.TheVariants.{Value, Equation}
use Rattle.presolve.specs.Eliminated.{AreParts, form_with, image_by, image_on, image_steps, made_by, objective_steps, other_rows, parts_steps, row_steps, row_with, row_times, terms_with}
use Rattle.presolve.proofs.Forms.{without_absent}
use Rattle.presolve.proofs.Narrow.{narrow_nil, narrow_both, narrow_parts, wide_part, wide_last}
use Rattle.presolve.proofs.Puts.{changed_or_same, put_rows}

-- ---- tests
-- a step is found where its test passes
pub found_goes : (system : LinearSystem) (b : Bool) (step : Step) (plan : PlanValue) → b ≡ true → plan.step ≡ step → planned plan system ≡ reduced_by step system → IsNext system (where_found b (Goes step)) (Some (Plan plan))
found_goes system b step plan t e f = subst (λ (z : Bool). IsNext system (where_found z (Goes step)) (Some (Plan plan))) (sym t) (e, f)

-- and nothing where it fails
pub found_none : (system : LinearSystem) (b : Bool) (found : Found) → b ≡ false → IsNext system (where_found b found) None
found_none system b found t = subst (λ (z : Bool). IsNext system (where_found z found) None) (sym t) tt

-- ---- a value
no_steps : (j : ℕ) (v : ℚ) (objective : Option (List Term)) → is_narrow (objective_steps (Value j v) objective) ≡ true
no_steps j v None = narrow_nil
no_steps j v (Some terms) = by (eq_ℚ (factor_of terms j) zero_ℚ)
  where
    by : (b : Bool) → is_narrow (cond b [] []) ≡ true
    by true = narrow_nil
    by false = narrow_nil

and_true : (a b : Bool) → b ≡ true → a && b ≡ a
and_true true b e = e
and_true false b e = refl

fixed_narrow : (system : LinearSystem) (j : ℕ) (v : ℚ) → is_narrow (parts_steps (Value j v) system) ≡ is_narrow (fixed_work system j v)
fixed_narrow system j v =
    narrow_both (fixed_work system j v) (objective_steps (Value j v) system.objective)
    ∙ and_true (is_narrow (fixed_work system j v)) (is_narrow (objective_steps (Value j v) system.objective)) (no_steps j v system.objective)

pub fixed_wide : (system : LinearSystem) (j : ℕ) (v : ℚ) → is_narrow (parts_steps (Value j v) system) ≡ false → IsNext system (fixed_with system j (Some v)) None
fixed_wide system j v e = found_none system (is_narrow (fixed_work system j v)) (Goes (fixed_step system j v)) (sym (fixed_narrow system j v) ∙ e)

fixed_form : (n j : ℕ) (v : ℚ) (terms : List Term) → IsForm n terms → form_with (Value j v) terms ≡ without_column j terms
fixed_form n j v terms form = by (eq_ℚ (factor_of terms j) zero_ℚ) refl
  where
    by : (b : Bool) → eq_ℚ (factor_of terms j) zero_ℚ ≡ b → cond b terms (without_column j terms) ≡ without_column j terms
    by true e = sym (without_absent j terms form.ascending form.nonzero ((eq-Decides (factor_of terms j) zero_ℚ).0 e))
    by false e = refl

fixed_objective : (n j : ℕ) (v : ℚ) (objective : Option (List Term)) → IfSome objective (IsForm n) → option_map (form_with (Value j v)) objective ≡ option_map (without_column j) objective
fixed_objective n j v None h = refl
fixed_objective n j v (Some terms) h = ap (λ (ts : List Term). Some ts) (fixed_form n j v terms h)

-- the plan of a value
abbrev pub fixed_plan : ℕ → ℚ → List Change → List (At SystemRow) → ℚ → Option (List Term) → PlanValue
fixed_plan j v changes news times terms = record {
  step = Fixed (record { column = j; value = v; changes = changes; objective = times });
  columns = record { number = j; item = no_limits } ∷ [];
  rows = news;
  objective = terms;
}

pub fixed_next : (system : LinearSystem) (j : ℕ) (v : ℚ) (changes : List Change) (news : List (At SystemRow)) (times : ℚ) (terms : Option (List Term))
    → IsFormed system → AreParts (Value j v) system changes news times terms → is_narrow (parts_steps (Value j v) system) ≡ true
    → IsNext system (fixed_with system j (Some v)) (Some (Plan (fixed_plan j v changes news times terms)))
fixed_next system j v changes news times terms formed parts narrow =
    found_goes system (is_narrow (fixed_work system j v)) (fixed_step system j v) (fixed_plan j v changes news times terms)
    (sym (fixed_narrow system j v) ∙ narrow)
    (λ i. Fixed (record { column = j; value = v; changes = parts.rows.changes_are i; objective = parts.objective.times_are i }))
    (λ i. record { columns = slice_set system.columns j no_limits; rows = rows i; objective = objective i })
  where
    rows : put_all news system.rows ≡ map (fixed_row j v) system.rows
    rows = ap (λ (n : List (At SystemRow)). put_all n system.rows) parts.rows.rows_are ∙ put_rows j (row_with (Value j v)) system.rows

    objective : (planned (fixed_plan j v changes news times terms) system).objective ≡ option_map (without_column j) system.objective
    objective = parts.objective.terms_are ∙ fixed_objective _ j v system.objective formed.objective

-- ---- an equation
module _ (system : LinearSystem) (q : PairEquation) where
  abbrev pub of_kept : Limits
  of_kept = limits_in system q.kept.column

  abbrev pub of_gone : Limits
  of_gone = limits_in system q.gone.column

  pair_objective : (objective : Option (List Term)) → objective_steps (Equation q) objective ≡ pair_objective_steps q.kept q.gone objective
  pair_objective None = refl
  pair_objective (Some terms) = refl

  pair_narrow : pair_work system q.row q.kept q.gone q.value ≡ limit_steps (image_steps q) of_gone ++ parts_steps (Equation q) system
  pair_narrow = ap (λ (z : Calculation). limit_steps (image_steps q) of_gone ++ (changes_steps q.gone.column (row_steps (Equation q)) (other_rows (Equation q) system.rows) ++ z)) (sym (pair_objective system.objective))

  pub pair_wide_limits : is_narrow (limit_steps (image_steps q) of_gone) ≡ false → IsNext system (pair_with system q.row q.kept q.gone (Some q.value)) None
  pair_wide_limits e =
      found_none system (is_narrow (pair_work system q.row q.kept q.gone q.value)) (Goes (pair_step system q.row q.kept q.gone q.value))
      (ap is_narrow pair_narrow ∙ wide_part (limit_steps (image_steps q) of_gone) (parts_steps (Equation q) system) e)

  pub pair_wide_parts : is_narrow (limit_steps (image_steps q) of_gone) ≡ true → is_narrow (parts_steps (Equation q) system) ≡ false → IsNext system (pair_with system q.row q.kept q.gone (Some q.value)) None
  pair_wide_parts e h =
      found_none system (is_narrow (pair_work system q.row q.kept q.gone q.value)) (Goes (pair_step system q.row q.kept q.gone q.value))
      (ap is_narrow pair_narrow ∙ wide_last (limit_steps (image_steps q) of_gone) (parts_steps (Equation q) system) e h)

  -- a row without the column
  pair_row_is : (r : SystemRow) → changed_or_same q.gone.column (row_with (Equation q)) r ≡ pair_row (pair_of system q.row q.kept q.gone q.value) r
  pair_row_is r = by (eq_ℚ (factor_of r.terms q.gone.column) zero_ℚ) refl
    where
      T : List Term
      T = terms_with (Equation q) (row_times (Equation q) r) r.terms

      L : Limits
      L = map_limits (λ s. s -ℚ row_times (Equation q) r *ℚ q.value) r.limits

      by : (b : Bool) → eq_ℚ (factor_of r.terms q.gone.column) zero_ℚ ≡ b
          → cond b r (record { terms = T; limits = L }) ≡ cond b r (record { terms = cond (eq_ℚ (factor_of r.terms q.gone.column) zero_ℚ) r.terms T; limits = L })
      by true z = refl
      by false z = λ i. record { terms = sym (cond-false (eq_ℚ (factor_of r.terms q.gone.column) zero_ℚ) r.terms T z) i; limits = L }

  -- the plan of the equation
  abbrev pub pair_plan : Limits → List Change → List (At SystemRow) → ℚ → Option (List Term) → PlanValue
  pair_plan images changes news times terms = record {
    step = Doubleton (record {
      row = q.row;
      x = q.kept.column;
      y = q.gone.column;
      a = q.kept.factor;
      b = q.gone.factor;
      c = q.value;
      lower = made_by q of_kept images Lo;
      upper = made_by q of_kept images Up;
      changes = changes;
      objective = times;
    });
    columns = record { number = q.kept.column; item = tightened_by (image_on q images) of_kept } ∷ (record { number = q.gone.column; item = no_limits } ∷ []);
    rows = news;
    objective = terms;
  }

  module _ (images : Limits) (changes : List Change) (news : List (At SystemRow)) (times : ℚ) (terms : Option (List Term))
      (are : images ≡ map_limits (image_by q) of_gone) (narrow : is_narrow (limit_steps (image_steps q) of_gone) ≡ true)
      (parts : AreParts (Equation q) system changes news times terms) (rest : is_narrow (parts_steps (Equation q) system) ≡ true) where
    image_is : (side : Side) → image_on q images side ≡ pair_limit of_gone q.kept.factor q.gone.factor q.value side
    image_is side = ap (λ (m : Limits). limit_on m (pair_side q.kept.factor q.gone.factor side)) are ∙ mapped_on (image_by q) of_gone (pair_side q.kept.factor q.gone.factor side)

    made_is : (side : Side) → made_by q of_kept images side ≡ pair_maker of_kept of_gone q.kept.factor q.gone.factor q.value side
    made_is side = ap (λ (o : Option ℚ). cond (is_tighter side (limit_on of_kept side) o) (Some (pair_side q.kept.factor q.gone.factor side)) None) (image_is side)

    rows_are : put_all news system.rows ≡ map (pair_row (pair_of system q.row q.kept q.gone q.value)) (slice_set system.rows q.row empty_system_row)
    rows_are =
        ap (λ (n : List (At SystemRow)). put_all n system.rows) parts.rows.rows_are
        ∙ put_rows q.gone.column (row_with (Equation q)) (slice_set system.rows q.row empty_system_row)
        ∙ ap (λ (f : SystemRow → SystemRow). map f (slice_set system.rows q.row empty_system_row)) (λ i r. pair_row_is r i)

    pub pair_next : IsNext system (pair_with system q.row q.kept q.gone (Some q.value)) (Some (Plan (pair_plan images changes news times terms)))
    pair_next =
        found_goes system (is_narrow (pair_work system q.row q.kept q.gone q.value)) (pair_step system q.row q.kept q.gone q.value) (pair_plan images changes news times terms)
        (ap is_narrow pair_narrow ∙ narrow_parts (limit_steps (image_steps q) of_gone) (parts_steps (Equation q) system) narrow rest)
        (λ i. Doubleton (record {
          row = q.row;
          x = q.kept.column;
          y = q.gone.column;
          a = q.kept.factor;
          b = q.gone.factor;
          c = q.value;
          lower = made_is Lo i;
          upper = made_is Up i;
          changes = parts.rows.changes_are i;
          objective = parts.objective.times_are i;
        }))
        (λ i. record {
          columns = slice_set (slice_set system.columns q.kept.column (tightened_by (λ side. image_is side i) of_kept)) q.gone.column no_limits;
          rows = rows_are i;
          objective = parts.objective.terms_are i;
        })
