-- What duals and rays of a system show of its solutions.
use Rattle.std.proofs.Common.{◌≡◌, ◌+◌, ◌-◌, ◌<◌, refl, sym, ◌∙◌, ap, subst, ℕ, Bool, cond, List, [], ◌∷◌, length, get_or, Option, Some, None, IsSome, arith, inl, inr, lt-ltb}
use Rattle.std.specs.Prelude.{All, IfSome}
use Rattle.std.proofs.lemmas.Bool.{cases_lt, le-ltb}
use Rattle.std.proofs.lemmas.List.Elements.{All-head, All-tail, All-nil, All-cons, All-get_or}
use Rattle.algebra.proofs.Ring.{x0, x1, x2, x3, ◌:+◌, ◌:-◌, ◌:*◌, minus, zero_of, unit_of}
use Rattle.rational.specs.Rational.{ℚ, ◌+ℚ◌, ◌*ℚ◌, zero_ℚ, ◌≤ℚ◌, ◌<ℚ◌}
use Rattle.rational.specs.Sum.{sum_over}
use Rattle.rational.specs.Linear.{Term, Assignment, form_value, factor_of}
use Rattle.rational.proofs.Field.{ring_ℚ}
use Rattle.rational.proofs.Forms.{exchange, linear_law}
use Rattle.rational.proofs.Order.{add-le_ℚ, le_by, le_of_lt_ℚ, le_refl_ℚ, nonneg-add, nonneg-mul, nonneg_is, nonneg_of_le}
use Rattle.rational.proofs.Sums.{sum_over-ext_on, sum_over-zero, times_nothing}
use Rattle.lp_model.specs.declared.members.Side.{Side}
use Rattle.lp_model.specs.declared.members.Side.TheVariants.{Lo, Up}
use Rattle.lp_model.specs.Program.{IsForm}
use Rattle.lp_model.specs.Members.{column_form}
use Rattle.certs.specs.Combination.{number_or_zero, signed}
use Rattle.certs.specs.System.{Limits, LinearSystem, empty_system_row, KeepsRows, limit_on, variable_form, variable_limits, VariableShare}
use Rattle.certs.specs.Tableau.{IsWellFormedSystem}
use Rattle.certs.specs.Ended.{IsSolution, IsWithin}
use Rattle.certs.proofs.Further.{factor_past}
use Rattle.simplex.specs.Duals.{IsVariableDual, DualBoundLaw}
use Rattle.simplex.specs.Rays.{RayStaysLaw}

-- ---- the form of a variable
module _ (system : LinearSystem) (v : ℕ) (l : v < length system.columns + length system.rows) where
  abbrev n : ℕ
  n = length system.columns

  abbrev form_by : Bool → List Term
  form_by b = cond b (column_form v) (get_or system.rows (v - length system.columns) empty_system_row).terms

  form_known : IsWellFormedSystem system → All (λ t. t.column < length system.columns) (variable_form system v)
  form_known formed =
      elim (cases_lt v n) [
        | inl h ↦ subst (λ b. All (λ t. t.column < n) (form_by b)) (sym (lt-ltb v n h)) (All-cons (λ (t : Term). t.column < n) _ [] h (All-nil (λ (t : Term). t.column < n)))
        | inr h ↦ subst (λ b. All (λ t. t.column < n) (form_by b)) (sym (le-ltb v n h)) (All-get_or (λ r. IsForm n r.terms) system.rows (v - n) empty_system_row (omega arith) formed.rows).known
      ]

  form_at : (x : Assignment) → KeepsRows system x → form_value (variable_form system v) x ≡ x v
  form_at x keeps =
      elim (cases_lt v n) [
        | inl h ↦ (ap (λ b. form_value (form_by b) x) (lt-ltb v n h) ∙ ring_ℚ (x v ∷ []) (unit_of :* x0 :+ zero_of) x0 tt)
        | inr h ↦
            (ap (λ b. form_value (form_by b) x) (le-ltb v n h) ∙ sym (keeps.rows (v - n) (omega arith))
            ∙ (let e : n + (v - n) ≡ v = omega arith in ap x e))
      ]

-- ---- sums
sum_le : {A : Type 0} (P : A → Type 0) (f g : A → ℚ) → ((a : A) → P a → f a ≤ℚ g a) → (xs : List A) → All P xs → sum_over f xs ≤ℚ sum_over g xs
sum_le P f g h [] p = le_refl_ℚ zero_ℚ
sum_le P f g h (x ∷ xs) p = add-le_ℚ (h x (All-head P x xs p)) (sum_le P f g h xs (All-tail P x xs p))

-- a limit that is there, so often
share_le : (side : Side) (limits : Limits) (w v : ℚ) → zero_ℚ <ℚ w → IsSome (limit_on limits side) → IsWithin limits v → signed side w *ℚ v ≤ℚ signed side w *ℚ number_or_zero (limit_on limits side)
share_le Lo limits w v p s h = by limits.lower s h.lower
  where
    by : (o : Option ℚ) → IsSome o → IfSome o (λ l. l ≤ℚ v) → signed Lo w *ℚ v ≤ℚ signed Lo w *ℚ number_or_zero o
    by None s h = cc
    by (Some b) s h = le_by (w ∷ v ∷ b ∷ []) (minus x0 :* x1) (minus x0 :* x2) (x0 :* (x1 :- x2)) (nonneg-mul (nonneg_is.0 (le_of_lt_ℚ p)) (nonneg_of_le h)) tt
share_le Up limits w v p s h = by limits.upper s h.upper
  where
    by : (o : Option ℚ) → IsSome o → IfSome o (λ u. v ≤ℚ u) → signed Up w *ℚ v ≤ℚ signed Up w *ℚ number_or_zero o
    by None s h = cc
    by (Some b) s h = le_by (w ∷ v ∷ b ∷ []) (x0 :* x1) (x0 :* x2) (x0 :* (x2 :- x1)) (nonneg-mul (nonneg_is.0 (le_of_lt_ℚ p)) (nonneg_of_le h)) tt

-- ---- duals
module _ (system : LinearSystem) (shares : List VariableShare) (terms : List Term) (b : ℚ) (formed : IsWellFormedSystem system) (is : system.objective ≡ Some terms) (d : IsVariableDual system shares terms b) (x : Assignment) (h : IsSolution system x) where
  abbrev Known : VariableShare → Type 0
  Known s = s.variable < length system.columns + length system.rows

  abbrev many : VariableShare → ℚ
  many s = signed s.side s.weight

  abbrev form : VariableShare → List Term
  form s = variable_form system s.variable

  terms_known : All (λ t. t.column < length system.columns) terms
  terms_known = (subst (λ q. IfSome q (IsForm (length system.columns))) is formed.objective).known

  -- past the last column both are 0
  match_at : (j : ℕ) → sum_over (λ s. many s *ℚ factor_of (form s) j) shares ≡ factor_of terms j
  match_at j = elim (cases_lt j (length system.columns)) [
    | inl l ↦ d.matches j l
    | inr l ↦
        (sum_over-ext_on Known (λ s. many s *ℚ factor_of (form s) j) (λ s. zero_ℚ) (λ s k. ap (λ q. many s *ℚ q) (factor_past (length system.columns) (form s) j (form_known system s.variable k formed) l) ∙ times_nothing (many s)) shares d.known
        ∙ sum_over-zero shares
        ∙ sym (factor_past (length system.columns) terms j terms_known l))
  ]

  value_is : form_value terms x ≡ sum_over (λ s. many s *ℚ x s.variable) shares
  value_is =
      sym (exchange many form shares terms match_at x)
      ∙ sum_over-ext_on Known (λ s. many s *ℚ form_value (form s) x) (λ s. many s *ℚ x s.variable) (λ s k. ap (λ q. many s *ℚ q) (form_at system s.variable k x h.rows)) shares d.known

  abbrev Fine : VariableShare → Type 0
  Fine s = (zero_ℚ <ℚ s.weight) × ((s.variable < length system.columns + length system.rows) × IsSome (limit_on (variable_limits system s.variable) s.side))

  bounded : form_value terms x ≤ℚ b
  bounded =
      subst (λ q. q ≤ℚ b) (sym value_is)
      (subst (λ q. sum_over (λ s. many s *ℚ x s.variable) shares ≤ℚ q) d.bound
      (sum_le Fine (λ s. many s *ℚ x s.variable) (λ s. many s *ℚ number_or_zero (limit_on (variable_limits system s.variable) s.side))
      (λ s p. share_le s.side (variable_limits system s.variable) s.weight (x s.variable) p.0 p.1.1 (h.limits s.variable p.1.0)) shares
      (λ i e l. (d.positive i e l, (d.known i e l, d.there i e l)))))

pub dual_bound_law : DualBoundLaw
dual_bound_law system shares terms b formed is d x h = bounded system shares terms b formed is d x h

-- ---- rays
above : (o : Option ℚ) (v r s : ℚ) → IfSome o (λ l. l ≤ℚ v) → (IsSome o → zero_ℚ ≤ℚ r) → zero_ℚ ≤ℚ s → IfSome o (λ l. l ≤ℚ v +ℚ s *ℚ r)
above None v r s h k p = tt
above (Some l) v r s h k p = le_by (l ∷ v ∷ r ∷ s ∷ []) x0 (x1 :+ x3 :* x2) ((x1 :- x0) :+ x3 :* x2) (nonneg-add (nonneg_of_le h) (nonneg-mul (nonneg_is.0 p) (nonneg_is.0 (k refl)))) tt

below : (o : Option ℚ) (v r s : ℚ) → IfSome o (λ u. v ≤ℚ u) → (IsSome o → r ≤ℚ zero_ℚ) → zero_ℚ ≤ℚ s → IfSome o (λ u. v +ℚ s *ℚ r ≤ℚ u)
below None v r s h k p = tt
below (Some u) v r s h k p = le_by (u ∷ v ∷ r ∷ s ∷ []) (x1 :+ x3 :* x2) x0 ((x0 :- x1) :+ x3 :* (zero_of :- x2)) (nonneg-add (nonneg_of_le h) (nonneg-mul (nonneg_is.0 p) (nonneg_of_le (k refl)))) tt

pub ray_stays_law : RayStaysLaw
ray_stays_law system x ray s h r p = record {
  rows = record {
    rows = λ i l. ap (λ q. q +ℚ s *ℚ ray (length system.columns + i)) (h.rows.rows i l) ∙ ap (λ q. form_value (get_or system.rows i empty_system_row).terms x +ℚ s *ℚ q) (r.rows.rows i l) ∙ sym (linear_law (get_or system.rows i empty_system_row).terms x ray s);
    objective = by system.objective h.rows.objective r.rows.objective;
  };
  limits = λ v l. record {
    lower = above (variable_limits system v).lower (x v) (ray v) s (h.limits v l).lower (r.lower v l) p;
    upper = below (variable_limits system v).upper (x v) (ray v) s (h.limits v l).upper (r.upper v l) p;
  };
}
  where
    by : (o : Option (List Term)) → IfSome o (λ terms. x (length system.columns + length system.rows) ≡ form_value terms x) → IfSome o (λ terms. ray (length system.columns + length system.rows) ≡ form_value terms ray)
        → IfSome o (λ terms. x (length system.columns + length system.rows) +ℚ s *ℚ ray (length system.columns + length system.rows) ≡ form_value terms (λ v. x v +ℚ s *ℚ ray v))
    by None h k = tt
    by (Some terms) h k = ap (λ q. q +ℚ s *ℚ ray (length system.columns + length system.rows)) h ∙ ap (λ q. form_value terms x +ℚ s *ℚ q) k ∙ sym (linear_law terms x ray s)
