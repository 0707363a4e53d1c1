-- What meets a system is a solution of it, and the other way round.
use Rattle.std.proofs.Common.{◌≡◌, ◌+◌, ◌-◌, ◌<◌, sym, ◌∙◌, ap, subst, ℕ, Bool, true, false, cond, List, length, None, ltb, arith, inl, inr, lt-ltb}
use Rattle.std.specs.Prelude.{All, IfSome}
use Rattle.std.proofs.lemmas.Bool.{cases_lt, cond-true, cond-false, le-ltb}
use Rattle.std.proofs.lemmas.List.{get_or_past}
use Rattle.std.proofs.lemmas.List.Elements.{All-get_or, All-nil}
use Rattle.rational.specs.Rational.{◌*ℚ◌}
use Rattle.rational.specs.Linear.{Term, Assignment, form_value, factor_of}
use Rattle.rational.proofs.Forms.{by_known}
use Rattle.rational.proofs.Sums.{sum_below-ext}
use Rattle.lp_model.specs.Program.{IsForm}
use Rattle.certs.specs.Ended.{IsSolution, IsWithin}
use Rattle.certs.specs.System.{Limits, SystemRow, LinearSystem, empty_system_row, no_limits, variable_limits}
use Rattle.reductions.specs.Laws.{IsFormed, Meets}
use Rattle.reductions.specs.Stage.{limits_in, row_in}
use Rattle.reductions.proofs.Looks.{within_none}
use Rattle.reductions.proofs.Points.{IsRowKept, empty_kept}

-- a form has the same value at two assignments that are the same on its columns
same_value : (n : ℕ) (terms : List Term) (x y : Assignment) → All (λ t. t.column < n) terms → ((j : ℕ) → j < n → y j ≡ x j) → form_value terms y ≡ form_value terms x
same_value n terms x y known same =
    by_known n terms y known
    ∙ sum_below-ext n (λ j. factor_of terms j *ℚ y j) (λ j. factor_of terms j *ℚ x j) (λ j l. ap (λ z. factor_of terms j *ℚ z) (same j l))
    ∙ sym (by_known n terms x known)

-- the values of the columns, and those of the rows by their forms
abbrev pub with_rows : LinearSystem → Assignment → Assignment
with_rows system x v = cond (ltb v (length system.columns)) (x v) (form_value (row_in system (v - length system.columns)).terms x)

module _ (system : LinearSystem) (formed : IsFormed system) where
  abbrev n : ℕ
  n = length system.columns

  row_known : (i : ℕ) → All (λ t. t.column < n) (row_in system i).terms
  row_known i =
      elim (cases_lt i (length system.rows)) [
        | inl l ↦ (All-get_or (λ (r : SystemRow). IsForm n r.terms) system.rows i empty_system_row l formed.rows).known
        | inr l ↦ subst (λ (r : SystemRow). All (λ t. t.column < n) r.terms) (sym (get_or_past system.rows i empty_system_row l)) (All-nil (λ (t : Term). t.column < n))
      ]

  -- ---- from what meets it
  module _ (x : Assignment) (meets : Meets system x) where
    at_column : (j : ℕ) → j < n → with_rows system x j ≡ x j
    at_column j l = cond-true (ltb j n) (x j) (form_value (row_in system (j - n)).terms x) (lt-ltb j n l)

    at_row : (i : ℕ) → with_rows system x (n + i) ≡ form_value (row_in system i).terms x
    at_row i =
        let back : (n + i) - n ≡ i = omega arith in
        cond-false (ltb (n + i) n) (x (n + i)) (form_value (row_in system ((n + i) - n)).terms x) (le-ltb (n + i) n (omega arith))
        ∙ ap (λ k. form_value (row_in system k).terms x) back

    within : (v : ℕ) (b : Bool) → IsWithin (cond b (limits_in system v) (row_in system (v - n)).limits) (cond b (x v) (form_value (row_in system (v - n)).terms x))
    within v true = meets.columns v
    within v false = meets.rows (v - n)

    pub meeting_solution : system.objective ≡ None → IsSolution system (with_rows system x)
    meeting_solution none = record {
      rows = record {
        rows = λ i l. at_row i ∙ sym (same_value n (row_in system i).terms x (with_rows system x) (row_known i) at_column);
        objective = subst (λ o. IfSome o (λ terms. with_rows system x (n + length system.rows) ≡ form_value terms (with_rows system x))) (sym none) tt;
      };
      limits = λ v l. within v (ltb v n);
    }

    pub meeting_same : (j : ℕ) → j < n → x j ≡ with_rows system x j
    meeting_same j l = sym (at_column j l)

  -- ---- from a solution
  module _ (x y : Assignment) (solution : IsSolution system x) (same : (j : ℕ) → j < n → y j ≡ x j) where
    column_met : (j : ℕ) → IsWithin (limits_in system j) (y j)
    column_met j =
        elim (cases_lt j n) [
          | inl l ↦
              (let limits : variable_limits system j ≡ limits_in system j = cond-true (ltb j n) (limits_in system j) (row_in system (j - n)).limits (lt-ltb j n l) in
              subst (IsWithin (limits_in system j)) (sym (same j l)) (subst (λ (z : Limits). IsWithin z (x j)) limits (solution.limits j (omega arith))))
          | inr l ↦ subst (λ (z : Limits). IsWithin z (y j)) (sym (get_or_past system.columns j no_limits l)) (within_none (y j))
        ]

    row_met : (i : ℕ) → IsRowKept (row_in system i) y
    row_met i =
        elim (cases_lt i (length system.rows)) [
          | inl l ↦
              (let back : (n + i) - n ≡ i = omega arith in
              let limits : variable_limits system (n + i) ≡ (row_in system i).limits =
              cond-false (ltb (n + i) n) (limits_in system (n + i)) (row_in system ((n + i) - n)).limits (le-ltb (n + i) n (omega arith)) ∙ ap (λ k. (row_in system k).limits) back in
              let value : x (n + i) ≡ form_value (row_in system i).terms y = solution.rows.rows i l ∙ sym (same_value n (row_in system i).terms x y (row_known i) same) in
              subst (IsWithin (row_in system i).limits) value (subst (λ (z : Limits). IsWithin z (x (n + i))) limits (solution.limits (n + i) (omega arith))))
          | inr l ↦ subst (λ (r : SystemRow). IsRowKept r y) (sym (get_or_past system.rows i empty_system_row l)) (empty_kept y)
        ]

    pub solution_meets : Meets system y
    solution_meets = record { columns = column_met; rows = row_met }
