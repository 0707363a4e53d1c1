-- The plain system of a set is formed and has no objective; and where no rule finds anything in a system, no limits cross.
use Rattle.std.proofs.Common.{◌≡◌, ◌+◌, ◌-◌, ◌<◌, refl, sym, ◌∙◌, ap, subst, ℕ, Bool, true, false, cond, List, [], ◌∷◌, ◌++◌, map, length, get_or, find, Option, None, Some, is_some, ltb, arith, lt-ltb}
use Rattle.std.specs.Prelude.{All, IfSome}
use Rattle.std.specs.Option.{option_map, option_or}
use Rattle.std.proofs.lemmas.Bool.{cond_both, cond-true, cond-false, le-ltb}
use Rattle.std.proofs.lemmas.List.Elements.{All-nil, All-cons, All-append, All-map, All-get_or, All-from_get_or}
use Rattle.rational.specs.Rational.{ℚ, ◌≤ℚ◌}
use Rattle.rational.specs.Linear.{Term}
use Rattle.rational.proofs.Order.{lt_q-false}
use Rattle.lp_model.specs.declared.members.Member.{Member}
use Rattle.lp_model.specs.declared.members.Side.{Side}
use Rattle.lp_model.specs.Program.{Program, IsForm, IsWellFormed, row_at}
use Rattle.certs.specs.Ended.{numbers_from}
use Rattle.certs.specs.Plain.{are_crossed, column_limits, crosses, crossing_shares, first_crossing, plain_row, rows_in}
use Rattle.certs.specs.System.{Limits, SystemRow, LinearSystem, empty_system_row, no_limits, variable_limits}
use Rattle.certs.specs.Tableau.{IsWellFormedSystem}
use Rattle.certs.proofs.Feasible.{none_passes}
use Rattle.certs.proofs.PlainForms.{row_form}
use Rattle.certs.proofs.Translated.{length_mapped, length_numbers, number_at}
use Rattle.reductions.specs.declared.steps.Step.{Step}
use Rattle.reductions.specs.declared.steps.Step.TheVariants.{Empty, Singleton, Fixed, Redundant, Forcing, Doubleton}
use Rattle.reductions.specs.Laws.{IsFormed}
use Rattle.reductions.specs.Limited.{opposite, taken_value}
use Rattle.reductions.specs.Reduction.{IsReduced, Reduces, after_step, first_found, forced_limits, found_at, pair_terms, places, reduced_by, rules, without_column}
use Rattle.reductions.specs.Reduction.Rule.{CrossingLimits}
use Rattle.reductions.specs.Rules.{crossing_at, where_found}
use Rattle.reductions.specs.Rules.Found.{Decides}
use Rattle.reductions.specs.Stage.{Stage, with_limits}
use Rattle.reductions.proofs.Next.{none_found, none_some}
use Rattle.presolve_laws.specs.Answers.{set_system}

-- ---- the plain system of a set
-- its rows are those of the program
pub set_formed : (model : Program) (set : List Member) → IsWellFormed model → IsFormed (set_system model set)
set_formed model set formed =
    let count : length model.columns ≡ length (set_system model set).columns = sym (length_mapped (column_limits model set []) (length model.columns)) in
    record {
      rows =
          All-map (λ (r : SystemRow). IsForm (length (set_system model set).columns) r.terms) (plain_row model set) (rows_in model set)
          (All-from_get_or (λ i. IsForm (length (set_system model set).columns) (row_at model i).terms) (rows_in model set) 0
          (λ k l. subst (λ n. IsForm n (row_at model (get_or (rows_in model set) k 0)).terms) count (row_form model (get_or (rows_in model set) k 0) formed)));
      objective = tt;
    }

-- ---- a system without an objective is reduced to one without
forced_none : (system : LinearSystem) (sum : Side) (terms : List Term) → system.objective ≡ None → (forced_limits system sum terms).objective ≡ None
forced_none system sum [] e = e
forced_none system sum (t ∷ terms) e = forced_none (with_limits t.column (record { lower = Some (taken_value system sum t); upper = Some (taken_value system sum t) }) system) sum terms e

step_none : (step : Step) (system : LinearSystem) → system.objective ≡ None → (reduced_by step system).objective ≡ None
step_none (Empty i) system e = e
step_none (Singleton s) system e = e
step_none (Fixed f) system e = ap (option_map (without_column f.column)) e
step_none (Redundant i) system e = e
step_none (Forcing f) system e = forced_none system (opposite f.side) f.terms e
step_none (Doubleton d) system e = ap (option_map (pair_terms d)) e

pub no_objective : (stage last : Stage) (steps : List Step) → stage.system.objective ≡ None → Reduces stage steps last → last.system.objective ≡ None
no_objective stage last [] e r = subst (λ (s : Stage). s.system.objective ≡ None) r e
no_objective stage last (step ∷ steps) e r = no_objective (after_step step stage) last steps (step_none step stage.system e) r.1

-- ---- where no rule finds anything no limits cross
free_by : (system : LinearSystem) (list : List ℕ) → first_found (crossing_at system) list ≡ None → find (crosses system) list ≡ None
free_by system [] e = refl
free_by system (v ∷ list) e = by (crosses system v) e (free_by system list)
  where
    by : (b : Bool) → option_or (where_found b (Decides (crossing_shares v))) (first_found (crossing_at system) list) ≡ None
        → (first_found (crossing_at system) list ≡ None → find (crosses system) list ≡ None) → cond b (Some v) (find (crosses system) list) ≡ None
    by true e more = absurd (none_some (sym e))
    by false e more = more e

pub reduced_apart : (last : Stage) → IsReduced last → first_crossing last.system ≡ None
reduced_apart last reduced =
    free_by last.system (numbers_from 0 (length last.system.columns + length last.system.rows))
    (All-get_or (λ rule. first_found (found_at rule last) (places rule last.system) ≡ None) rules 0 CrossingLimits (omega arith)
    (none_found (λ rule. first_found (found_at rule last) (places rule last.system)) rules reduced))

-- ---- such a system is well formed
abbrev Ordered : Limits → Type 0
Ordered limits = IfSome limits.lower (λ l. IfSome limits.upper (λ u. l ≤ℚ u))

not_crossed : (lower upper : Option ℚ) → are_crossed lower upper ≡ false → IfSome lower (λ l. IfSome upper (λ u. l ≤ℚ u))
not_crossed None upper e = tt
not_crossed (Some l) None e = tt
not_crossed (Some l) (Some u) e = lt_q-false u l e

module _ (system : LinearSystem) (apart : first_crossing system ≡ None) where
  abbrev n : ℕ
  n = length system.columns

  ordered_at : (v : ℕ) → v < n + length system.rows → Ordered (variable_limits system v)
  ordered_at v l =
      let all : ℕ = n + length system.rows in
      let number : get_or (numbers_from 0 all) v 0 ≡ v = number_at 0 all v 0 l ∙ (let e : 0 + v ≡ v = omega arith in e) in
      let none : crosses system (get_or (numbers_from 0 all) v 0) ≡ false =
      All-get_or (λ k. crosses system k ≡ false) (numbers_from 0 all) v 0 (subst (λ m. v < m) (sym (length_numbers 0 all)) l) (none_passes (crosses system) (numbers_from 0 all) apart) in
      not_crossed (variable_limits system v).lower (variable_limits system v).upper (ap (crosses system) (sym number) ∙ none)

  ordered_columns : All Ordered system.columns
  ordered_columns =
      All-from_get_or Ordered system.columns no_limits
      (λ v l. subst Ordered (cond-true (ltb v n) (get_or system.columns v no_limits) (get_or system.rows (v - n) empty_system_row).limits (lt-ltb v n l)) (ordered_at v (omega arith)))

  ordered_rows : All (λ (r : SystemRow). Ordered r.limits) system.rows
  ordered_rows =
      All-from_get_or (λ (r : SystemRow). Ordered r.limits) system.rows empty_system_row
      (λ i l.
      let back : (n + i) - n ≡ i = omega arith in
      subst (λ k. Ordered (get_or system.rows k empty_system_row).limits) back
      (subst Ordered (cond-false (ltb (n + i) n) (get_or system.columns (n + i) no_limits) (get_or system.rows ((n + i) - n) empty_system_row).limits (le-ltb (n + i) n (omega arith))) (ordered_at (n + i) (omega arith))))

  pub apart_formed : IsFormed system → IsWellFormedSystem system
  apart_formed formed = record {
    rows = formed.rows;
    objective = formed.objective;
    ordered =
        All-append Ordered system.columns (map (λ r. r.limits) system.rows ++ cond (is_some system.objective) (no_limits ∷ []) []) ordered_columns
        (All-append Ordered (map (λ r. r.limits) system.rows) (cond (is_some system.objective) (no_limits ∷ []) [])
        (All-map Ordered (λ (r : SystemRow). r.limits) system.rows ordered_rows)
        (cond_both (is_some system.objective) (no_limits ∷ []) [] (All Ordered) (λ e. All-cons Ordered no_limits [] tt (All-nil Ordered)) (λ e. All-nil Ordered)));
  }
