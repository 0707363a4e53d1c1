-- The values of all variables where one column is 1 and the others are 0.
use Rattle.std.proofs.Common.{◌≡◌, ◌+◌, ◌-◌, ◌<◌, ◌==◌, refl, sym, ◌∙◌, ap, subst, ℕ, cond, List, [], ◌∷◌, length, get_or, Option, Some, None, ltb, arith, inl, inr, eq-eqb, ne_eqb, lt-ltb}
use Rattle.std.specs.Prelude.{All, IfSome, ◌⊎◌}
use Rattle.std.proofs.lemmas.Bool.{cases_eq, cond-true, cond-false, le-ltb}
use Rattle.std.proofs.lemmas.List.Elements.{All-get_or}
use Rattle.algebra.proofs.Ring.{x0, x1, ◌:+◌, ◌:*◌, zero_of, unit_of}
use Rattle.rational.specs.Rational.{◌+ℚ◌, ◌*ℚ◌, zero_ℚ, one_ℚ}
use Rattle.rational.specs.Sum.{sum_over}
use Rattle.rational.specs.Linear.{Term, Assignment, form_value, factor_of}
use Rattle.rational.proofs.Field.{ring_ℚ}
use Rattle.rational.proofs.Forms.{by_known}
use Rattle.rational.proofs.Sums.{sum_below-ext, sum_below-one}
use Rattle.lp_model.specs.Program.{IsForm}
use Rattle.lp_model.specs.Members.{column_form}
use Rattle.certs.specs.System.{LinearSystem, empty_system_row, KeepsRows, variable_form}
use Rattle.certs.specs.Tableau.{IsWellFormedSystem, forms_of}

module _ (system : LinearSystem) (formed : IsWellFormedSystem system) (k : ℕ) (lk : k < length system.columns) where
  abbrev all : ℕ
  all = length system.columns + length system.rows

  unfoldable pub alone : Assignment
  alone v = cond (ltb v (length system.columns + length system.rows)) (factor_of (variable_form system v) k) (sum_over (λ terms. factor_of terms k) (forms_of system.objective))

  pub alone_at : (v : ℕ) → v < length system.columns + length system.rows → alone v ≡ factor_of (variable_form system v) k
  unfolding alone
  alone_at v l = cond-true (ltb v all) _ _ (lt-ltb v all l)

  pub alone_last : (terms : List Term) → system.objective ≡ Some terms → alone (length system.columns + length system.rows) ≡ factor_of terms k
  unfolding alone
  alone_last terms e =
      cond-false (ltb all all) _ _ (le-ltb all all (omega arith)) ∙ ap (λ q. sum_over (λ terms. factor_of terms k) (forms_of q)) e ∙ ring_ℚ (factor_of terms k ∷ []) (x0 :+ zero_of) x0 tt

  column_at : (j : ℕ) → j < length system.columns → alone j ≡ cond (k == j) one_ℚ zero_ℚ
  column_at j l =
      alone_at j (omega arith)
      ∙ ap (λ b. factor_of (cond b (column_form j) (get_or system.rows (j - length system.columns) empty_system_row).terms) k) (lt-ltb j (length system.columns) l)
      ∙ flip (cases_eq j k)
    where
      flip : (j ≡ k) ⊎ (j ≡ k → ⊥) → cond (j == k) one_ℚ zero_ℚ +ℚ zero_ℚ ≡ cond (k == j) one_ℚ zero_ℚ
      flip (inl e) = ap (λ z. z +ℚ zero_ℚ) (cond-true (j == k) one_ℚ zero_ℚ (eq-eqb j k e)) ∙ ring_ℚ [] (unit_of :+ zero_of) unit_of tt ∙ sym (cond-true (k == j) one_ℚ zero_ℚ (eq-eqb k j (sym e)))
      flip (inr e) = ap (λ z. z +ℚ zero_ℚ) (cond-false (j == k) one_ℚ zero_ℚ (ne_eqb j k e)) ∙ ring_ℚ [] (zero_of :+ zero_of) zero_of tt ∙ sym (cond-false (k == j) one_ℚ zero_ℚ (ne_eqb k j (λ q. e (sym q))))

  form_at_one : (terms : List Term) → All (λ t. t.column < length system.columns) terms → form_value terms alone ≡ factor_of terms k
  form_at_one terms known =
      by_known (length system.columns) terms alone known
      ∙ sum_below-ext (length system.columns) (λ j. factor_of terms j *ℚ alone j) (λ j. cond (k == j) one_ℚ zero_ℚ *ℚ factor_of terms j) (λ j l. ap (λ z. factor_of terms j *ℚ z) (column_at j l) ∙ ring_ℚ (factor_of terms j ∷ cond (k == j) one_ℚ zero_ℚ ∷ []) (x0 :* x1) (x1 :* x0) tt)
      ∙ sum_below-one (length system.columns) k one_ℚ (factor_of terms) lk
      ∙ ring_ℚ (factor_of terms k ∷ []) (unit_of :* x0) x0 tt

  pub alone_keeps : KeepsRows system alone
  alone_keeps = record {
    rows = λ r l.
        alone_at (length system.columns + r) (omega arith)
        ∙ ap (λ b. factor_of (cond b (column_form (length system.columns + r)) (get_or system.rows (length system.columns + r - length system.columns) empty_system_row).terms) k) (le-ltb (length system.columns + r) (length system.columns) (omega arith))
        ∙ (let e : length system.columns + r - length system.columns ≡ r = omega arith in ap (λ z. factor_of (get_or system.rows z empty_system_row).terms k) e)
        ∙ sym (form_at_one (get_or system.rows r empty_system_row).terms (All-get_or (λ r. IsForm (length system.columns) r.terms) system.rows r empty_system_row l formed.rows).known);
    objective = by system.objective refl;
  }
    where
      by : (q : Option (List Term)) → system.objective ≡ q → IfSome q (λ terms. alone all ≡ form_value terms alone)
      by None e = tt
      by (Some terms) e = alone_last terms e ∙ sym (form_at_one terms (let f : IsForm (length system.columns) terms = subst (λ q. IfSome q (IsForm (length system.columns))) e formed.objective in f.known))
