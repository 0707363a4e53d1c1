-- A ray of the plain system of a set on no path, as one of the set.
use Rattle.std.proofs.Common.{◌≡◌, ◌+◌, ◌-◌, ◌<◌, sym, ◌∙◌, ap, subst, ℕ, true, true≢false, not, List, [], length, get_or, None, IsSome, ltb, arith}
use Rattle.std.specs.Prelude.{All, Contains}
use Rattle.std.proofs.lemmas.Bool.{cond-true, cond-false, le-ltb, or_left, or_right}
use Rattle.std.proofs.lemmas.List.{get_or-map, length-map}
use Rattle.std.proofs.lemmas.List.Elements.{All-filter, All-contains_itself}
use Rattle.rational.specs.Rational.{ℚ, ◌*ℚ◌, zero_ℚ, ◌≤ℚ◌, ◌<ℚ◌}
use Rattle.rational.specs.Linear.{Term, Assignment, form_value, factor_of}
use Rattle.rational.proofs.Forms.{by_known}
use Rattle.rational.proofs.Sums.{sum_below-ext}
use Rattle.lp_model.specs.declared.members.Member.{Member}
use Rattle.lp_model.specs.declared.members.Member.TheVariants.{RowLo, RowUp, Lower, Upper, Whole}
use Rattle.lp_model.specs.declared.members.Side.TheVariants.{Lo, Up}
use Rattle.lp_model.specs.Program.{Program, IsWellFormed, row_at}
use Rattle.lp_model.specs.Members.{has, is_mark, number}
use Rattle.lp_model.specs.Satisfaction.{values_at}
use Rattle.lp_model.proofs.Sets.{Contains-filter, has_of_contains, lower_there, upper_there, row_lower_there, row_upper_there}
use Rattle.certs.specs.Bound.{directed, objective_value, without_marks, KeepsRay, IsImproving}
use Rattle.certs.specs.System.{LinearSystem, Limits, SystemRow, empty_system_row, no_limits, variable_limits}
use Rattle.certs.specs.Ended.{numbers_from}
use Rattle.certs.specs.Plain.{greatest_objective, has_row, number_in, plain_row, plain_system, rows_in}
use Rattle.certs.proofs.PlainForms.{row_form}
use Rattle.certs.proofs.Translated.{length_numbers, number_at}
use Rattle.simplex.specs.Rays.{IsSystemRay}
use Rattle.unbounded.specs.Programs.{ProgramRayLaw}
use Rattle.unbounded.proofs.Directed.{directed_nothing, greatest_value}
use Rattle.unbounded.proofs.Systems.{column_limit, columns_are}

module _ (model : Program) (set : List Member) (values : List ℚ) (formed : IsWellFormed model) (r : IsSystemRay (plain_system model set [] true) values) where
  abbrev system : LinearSystem
  system = plain_system model set [] true

  abbrev columns : ℕ
  columns = length model.columns

  abbrev y : Assignment
  y = values_at values

  abbrev n : ℕ
  n = length system.columns

  same : (j : ℕ) → j < columns → y j ≡ r.ray j
  same j l = r.same j (subst (λ n. j < n) (sym (columns_are model set)) l)

  value_same : (terms : List Term) → All (λ t. t.column < columns) terms → form_value terms y ≡ form_value terms r.ray
  value_same terms known =
      by_known columns terms y known
      ∙ sum_below-ext columns (λ j. factor_of terms j *ℚ y j) (λ j. factor_of terms j *ℚ r.ray j) (λ j l. ap (λ z. factor_of terms j *ℚ z) (same j l))
      ∙ sym (by_known columns terms r.ray known)

  -- ---- rows
  record HasPlace (i : ℕ) : Type 0 where
    variable : ℕ
    known : variable < n + length system.rows
    limits : variable_limits system variable ≡ (plain_row model set i).limits
    changes : r.ray variable ≡ form_value (row_at model i).terms y

  place_of : (i : ℕ) → i < length model.rows → has_row set i ≡ true → HasPlace i
  place_of i l h =
      let listed : Contains (numbers_from 0 (length model.rows)) i =
      (i, subst (λ n. i < n) (sym (length_numbers 0 (length model.rows))) l, number_at 0 (length model.rows) i i l ∙ (let e : 0 + i ≡ i = omega arith in e)) in
      let kept : Contains (rows_in model set) i = Contains-filter (has_row set) (numbers_from 0 (length model.rows)) i listed h in
      let k : ℕ = kept.0 in
      let row : get_or system.rows k empty_system_row ≡ plain_row model set i = get_or-map (plain_row model set) (rows_in model set) k i empty_system_row kept.1 ∙ ap (plain_row model set) kept.2 in
      let below : k < length system.rows = subst (λ z. k < z) (sym (length-map (rows_in model set) (plain_row model set))) kept.1 in
      let back : (n + k) - n ≡ k = omega arith in
      record {
        variable = n + k;
        known = let g : n + k < n + length system.rows = omega (arith, below) in g;
        limits =
            cond-false (ltb (n + k) n) (get_or system.columns (n + k) no_limits) (get_or system.rows ((n + k) - n) empty_system_row).limits (le-ltb (n + k) n (omega arith))
            ∙ ap (λ d. (get_or system.rows d empty_system_row).limits) back
            ∙ ap (λ (r : SystemRow). r.limits) row;
        changes = r.keeps.rows.rows k below ∙ ap (λ (s : SystemRow). form_value s.terms r.ray) row ∙ sym (value_same (row_at model i).terms (row_form model i formed).known);
      }

  number_there : (m : Member) → has set m ≡ true → number_in model set m ≡ number model m
  number_there m h = cond-true (has set m) (number model m) None h

  -- ---- members
  keeps : (m : Member) → has set m ≡ true → KeepsRay model y m
  keeps (RowLo i) h some =
      let p = place_of i (row_lower_there model.rows i some) (or_left (has set (RowLo i)) (has set (RowUp i)) h) in
      subst (λ z. zero_ℚ ≤ℚ z) p.changes
      (r.keeps.lower p.variable p.known (subst (λ z. IsSome z) (sym (ap (λ (z : Limits). z.lower) p.limits ∙ number_there (RowLo i) h)) some))
  keeps (RowUp i) h some =
      let p = place_of i (row_upper_there model.rows i some) (or_right (has set (RowLo i)) (has set (RowUp i)) h) in
      subst (λ z. z ≤ℚ zero_ℚ) p.changes
      (r.keeps.upper p.variable p.known (subst (λ z. IsSome z) (sym (ap (λ (z : Limits). z.upper) p.limits ∙ number_there (RowUp i) h)) some))
  keeps (Lower j) h some =
      let l : j < columns = lower_there model.columns j some in
      let below : j < n = subst (λ n. j < n) (sym (columns_are model set)) l in
      subst (λ z. zero_ℚ ≤ℚ z) (sym (same j l))
      (r.keeps.lower j (omega (arith, below)) (subst (λ z. IsSome z) (sym (column_limit model set j Lo below ∙ number_there (Lower j) h)) some))
  keeps (Upper j) h some =
      let l : j < columns = upper_there model.columns j some in
      let below : j < n = subst (λ n. j < n) (sym (columns_are model set)) l in
      subst (λ z. z ≤ℚ zero_ℚ) (sym (same j l))
      (r.keeps.upper j (omega (arith, below)) (subst (λ z. IsSome z) (sym (column_limit model set j Up below ∙ number_there (Upper j) h)) some))
  keeps (Whole j) h some = absurd (true≢false (sym some))

  all_kept : All (KeepsRay model y) set
  all_kept = λ k d l. keeps (get_or set k d) (has_of_contains set (get_or set k d) (All-contains_itself set k d l))

  -- ---- the objective
  rises : form_value (greatest_objective model) r.ray ≡ directed model (objective_value model y)
  rises = greatest_value model r.ray ∙ ap (directed model) (sym (value_same model.objective formed.objective.known))

  pub improving : IsImproving model (without_marks set) y
  improving = record {
    keeps = All-filter (λ m. not (is_mark m)) (KeepsRay model y) set all_kept;
    improves = subst (λ z. z <ℚ directed model (objective_value model y)) (sym (directed_nothing model)) (subst (λ z. zero_ℚ <ℚ z) (r.keeps.rows.objective ∙ rises) r.keeps.raises);
  }

pub program_ray : ProgramRayLaw
program_ray model set values formed r = improving model set values formed r
