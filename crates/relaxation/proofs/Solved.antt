-- Solutions of a system, by its rows and its columns.
use Rattle.std.proofs.Common.{◌≡◌, ◌+◌, ◌-◌, ◌<◌, refl, sym, ◌∙◌, ap, subst, ℕ, cond, List, [], ◌∷◌, length, get_or, Option, Some, None, ltb, arith, inl, inr, lt-ltb}
use Rattle.std.specs.Prelude.{All, IfSome}
use Rattle.std.proofs.lemmas.Bool.{cond-true, cond-false, cases_lt, le-ltb}
use Rattle.std.proofs.lemmas.List.Elements.{All-get_or, All-from_get_or}
use Rattle.algebra.proofs.Ring.{x0, ◌:+◌, zero_of}
use Rattle.rational.specs.Rational.{◌*ℚ◌}
use Rattle.rational.specs.Sum.{sum_over}
use Rattle.rational.specs.Linear.{Term, Assignment, form_value, factor_of}
use Rattle.rational.proofs.Field.{ring_ℚ}
use Rattle.rational.proofs.Forms.{by_known}
use Rattle.rational.proofs.Sums.{sum_below-ext}
use Rattle.certs.specs.Ended.{IsSolution, IsWithin}
use Rattle.certs.specs.System.{LinearSystem, SystemRow, empty_system_row, no_limits, variable_limits}
use Rattle.certs.specs.Tableau.{forms_of}

-- the row's form is within its limits
abbrev pub Keeps : Assignment → SystemRow → Type 0
Keeps x row = IsWithin row.limits (form_value row.terms x)

-- all columns of the terms are among the first n
abbrev pub IsKnown : ℕ → List Term → Type 0
IsKnown n terms = All (λ t. t.column < n) terms

-- a form has one value where the columns that it may name have one
pub same_form : (n : ℕ) (terms : List Term) (x y : Assignment) → IsKnown n terms → ((j : ℕ) → j < n → x j ≡ y j) → form_value terms x ≡ form_value terms y
same_form n terms x y known same =
    by_known n terms x known
    ∙ sum_below-ext n (λ j. factor_of terms j *ℚ x j) (λ j. factor_of terms j *ℚ y j) (λ j l. ap (λ z. factor_of terms j *ℚ z) (same j l))
    ∙ sym (by_known n terms y known)

module _ (system : LinearSystem) where
  abbrev n : ℕ
  n = length system.columns

  abbrev m : ℕ
  m = length system.rows

  pub column_limits : (v : ℕ) → v < length system.columns → variable_limits system v ≡ get_or system.columns v no_limits
  column_limits v l = cond-true (ltb v n) (get_or system.columns v no_limits) (get_or system.rows (v - n) empty_system_row).limits (lt-ltb v n l)

  row_limits : (i : ℕ) → variable_limits system (length system.columns + i) ≡ (get_or system.rows i empty_system_row).limits
  row_limits i =
      let back : (n + i) - n ≡ i = omega arith in
      cond-false (ltb (n + i) n) (get_or system.columns (n + i) no_limits) (get_or system.rows ((n + i) - n) empty_system_row).limits (le-ltb (n + i) n (omega arith))
      ∙ ap (λ d. (get_or system.rows d empty_system_row).limits) back

  -- ---- what a solution keeps
  pub rows_kept : (x : Assignment) → IsSolution system x → All (Keeps x) system.rows
  rows_kept x s =
      All-from_get_or (Keeps x) system.rows empty_system_row
      (λ i l. subst (IsWithin (get_or system.rows i empty_system_row).limits) (s.rows.rows i l) (subst (λ z. IsWithin z (x (n + i))) (row_limits i) (s.limits (n + i) (omega arith))))

  pub columns_kept : (x : Assignment) → IsSolution system x → (v : ℕ) → v < length system.columns → IsWithin (get_or system.columns v no_limits) (x v)
  columns_kept x s v l = subst (λ z. IsWithin z (x v)) (column_limits v l) (s.limits v (omega arith))

  -- ---- values of the columns, with those of the rows and of the objective
  unfoldable pub extended : Assignment → Assignment
  extended x v =
      cond (ltb v (length system.columns)) (x v)
      (cond (ltb v (length system.columns + length system.rows)) (form_value (get_or system.rows (v - length system.columns) empty_system_row).terms x) (sum_over (λ terms. form_value terms x) (forms_of system.objective)))

  module _ (x : Assignment) where
    pub extended_column : (v : ℕ) → v < length system.columns → extended x v ≡ x v
    unfolding extended
    extended_column v l = cond-true (ltb v n) (x v) _ (lt-ltb v n l)

    extended_row : (i : ℕ) → i < length system.rows → extended x (length system.columns + i) ≡ form_value (get_or system.rows i empty_system_row).terms x
    unfolding extended
    extended_row i l =
        let back : (n + i) - n ≡ i = omega arith in
        cond-false (ltb (n + i) n) (x (n + i)) _ (le-ltb (n + i) n (omega arith))
        ∙ cond-true (ltb (n + i) (n + m)) _ _ (lt-ltb (n + i) (n + m) (omega arith))
        ∙ ap (λ d. form_value (get_or system.rows d empty_system_row).terms x) back

    extended_last : (terms : List Term) → system.objective ≡ Some terms → extended x (length system.columns + length system.rows) ≡ form_value terms x
    unfolding extended
    extended_last terms e =
        cond-false (ltb (n + m) n) (x (n + m)) _ (le-ltb (n + m) n (omega arith))
        ∙ cond-false (ltb (n + m) (n + m)) _ _ (le-ltb (n + m) (n + m) (omega arith))
        ∙ ap (λ q. sum_over (λ terms. form_value terms x) (forms_of q)) e
        ∙ ring_ℚ (form_value terms x ∷ []) (x0 :+ zero_of) x0 tt

    pub extended_form : (terms : List Term) → IsKnown (length system.columns) terms → form_value terms (extended x) ≡ form_value terms x
    extended_form terms known = same_form n terms (extended x) x known extended_column

    pub extended_solution : All (λ row. IsKnown (length system.columns) row.terms) system.rows → IfSome system.objective (IsKnown (length system.columns))
        → All (Keeps x) system.rows → ((v : ℕ) → v < length system.columns → IsWithin (get_or system.columns v no_limits) (x v)) → IsSolution system (extended x)
    extended_solution rows objective kept within = record {
      rows = record {
        rows = λ i l. extended_row i l ∙ sym (extended_form (get_or system.rows i empty_system_row).terms (All-get_or (λ (row : SystemRow). IsKnown n row.terms) system.rows i empty_system_row l rows));
        objective = by system.objective refl objective;
      };
      limits = λ v l. elim (cases_lt v n) [
        | inl c ↦ subst (IsWithin (variable_limits system v)) (sym (extended_column v c)) (subst (λ z. IsWithin z (x v)) (sym (column_limits v c)) (within v c))
        | inr c ↦
            (let i : ℕ = v - n in
            let back : n + i ≡ v = omega arith in
            let below : i < m = omega arith in
            subst (λ z. IsWithin (variable_limits system z) (extended x z)) back
            (subst (IsWithin (variable_limits system (n + i))) (sym (extended_row i below))
            (subst (λ z. IsWithin z (form_value (get_or system.rows i empty_system_row).terms x)) (sym (row_limits i)) (All-get_or (Keeps x) system.rows i empty_system_row below kept))))
      ];
    }
      where
        by : (o : Option (List Term)) → system.objective ≡ o → IfSome o (IsKnown n) → IfSome o (λ terms. extended x (n + m) ≡ form_value terms (extended x))
        by None e h = tt
        by (Some terms) e h = extended_last terms e ∙ sym (extended_form terms h)
