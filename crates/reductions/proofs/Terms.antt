-- Values and factors of forms from which a column is taken out, or in which its factor is another.
use Rattle.std.proofs.Common.{◌≡◌, refl, sym, ◌∙◌, ap, subst, ℕ, ◌<◌, Bool, true, false, cond, not, ◌==◌, List, [], ◌∷◌, ◌++◌, filter, inl, inr, arith, eq-eqb, ne_eqb, lt-ltb}
use Rattle.std.specs.Prelude.{nat_lt}
use Rattle.std.proofs.lemmas.Bool.{cases_lt, cases_eq, le-ltb}
use Rattle.algebra.proofs.Ring.{x0, x1, x2, x3, ◌:+◌, ◌:*◌, minus, zero_of}
use Rattle.rational.specs.Rational.{ℚ, zero_ℚ, ◌+ℚ◌, ◌*ℚ◌, eq_ℚ}
use Rattle.rational.specs.Linear.{Term, Assignment, form_value, factor_of}
use Rattle.rational.proofs.Field.{ring_ℚ, ring_by_ℚ}
use Rattle.rational.proofs.Compare.{eq-Decides}
use Rattle.rational.proofs.Sums.{sum_over-append}
use Rattle.reductions.specs.Reduction.{without_column, term_of, with_factor}
use Rattle.reductions.specs.Back.{with_value}

-- the value is that of the other terms and the column's part
pub value_without : (j : ℕ) (x : Assignment) (terms : List Term) → form_value terms x ≡ form_value (without_column j terms) x +ℚ factor_of terms j *ℚ x j
value_without j x [] = ring_ℚ (x j ∷ []) zero_of (zero_of :+ zero_of :* x0) tt
value_without j x (t ∷ terms) =
    elim (cases_eq t.column j) [
      | inl e ↦
          (subst (λ (b : Bool). t.factor *ℚ x t.column +ℚ form_value terms x ≡ form_value (cond (not b) (t ∷ without_column j terms) (without_column j terms)) x +ℚ (cond b t.factor zero_ℚ +ℚ factor_of terms j) *ℚ x j) (sym (eq-eqb t.column j e))
          (subst (λ k. t.factor *ℚ x k +ℚ form_value terms x ≡ form_value (without_column j terms) x +ℚ (t.factor +ℚ factor_of terms j) *ℚ x j) (sym e)
          (ap (λ z. t.factor *ℚ x j +ℚ z) (value_without j x terms)
          ∙ ring_ℚ (t.factor ∷ x j ∷ form_value (without_column j terms) x ∷ factor_of terms j ∷ []) (x0 :* x1 :+ (x2 :+ x3 :* x1)) (x2 :+ (x0 :+ x3) :* x1) tt)))
      | inr e ↦
          (subst (λ (b : Bool). t.factor *ℚ x t.column +ℚ form_value terms x ≡ form_value (cond (not b) (t ∷ without_column j terms) (without_column j terms)) x +ℚ (cond b t.factor zero_ℚ +ℚ factor_of terms j) *ℚ x j) (sym (ne_eqb t.column j e))
          (ap (λ z. t.factor *ℚ x t.column +ℚ z) (value_without j x terms)
          ∙ ring_ℚ ((t.factor *ℚ x t.column) ∷ form_value (without_column j terms) x ∷ factor_of terms j ∷ x j ∷ []) (x0 :+ (x1 :+ x2 :* x3)) ((x0 :+ x1) :+ (zero_of :+ x2) :* x3) tt))
    ]

-- another value of the column that is taken out changes nothing
pub value_elsewhere : (j : ℕ) (q : ℚ) (x : Assignment) (terms : List Term) → form_value (without_column j terms) (with_value j q x) ≡ form_value (without_column j terms) x
value_elsewhere j q x [] = refl
value_elsewhere j q x (t ∷ terms) =
    elim (cases_eq t.column j) [
      | inl e ↦ subst (λ (b : Bool). form_value (cond (not b) (t ∷ without_column j terms) (without_column j terms)) (with_value j q x) ≡ form_value (cond (not b) (t ∷ without_column j terms) (without_column j terms)) x) (sym (eq-eqb t.column j e)) (value_elsewhere j q x terms)
      | inr e ↦
          (subst (λ (b : Bool). form_value (cond (not b) (t ∷ without_column j terms) (without_column j terms)) (with_value j q x) ≡ form_value (cond (not b) (t ∷ without_column j terms) (without_column j terms)) x) (sym (ne_eqb t.column j e))
          (ap (λ (b : Bool). t.factor *ℚ cond b q (x t.column) +ℚ form_value (without_column j terms) (with_value j q x)) (ne_eqb t.column j e)
          ∙ ap (λ z. t.factor *ℚ x t.column +ℚ z) (value_elsewhere j q x terms)))
    ]

-- the value where a column has another one
pub value_with : (j : ℕ) (q : ℚ) (x : Assignment) (terms : List Term) → form_value terms (with_value j q x) ≡ form_value (without_column j terms) x +ℚ factor_of terms j *ℚ q
value_with j q x terms =
    value_without j (with_value j q x) terms
    ∙ ap (λ z. z +ℚ factor_of terms j *ℚ with_value j q x j) (value_elsewhere j q x terms)
    ∙ ap (λ (b : Bool). form_value (without_column j terms) x +ℚ factor_of terms j *ℚ cond b q (x j)) (eq-eqb j j refl)

-- the value of a term of its own
pub value_term : (j : ℕ) (q : ℚ) (x : Assignment) → form_value (term_of j q) x ≡ q *ℚ x j
value_term j q x = by (eq_ℚ q zero_ℚ) refl
  where
    by : (b : Bool) → eq_ℚ q zero_ℚ ≡ b → form_value (cond b [] (record { column = j; factor = q } ∷ [])) x ≡ q *ℚ x j
    by true e = ring_by_ℚ (q ∷ x j ∷ []) zero_of (x0 :* x1) (minus x1) x0 zero_of ((eq-Decides q zero_ℚ).0 e) tt
    by false e = ring_ℚ (q ∷ x j ∷ []) (x0 :* x1 :+ zero_of) (x0 :* x1) tt

-- below and above a column are the terms without it
pub value_sides : (j : ℕ) (x : Assignment) (terms : List Term) → form_value (filter (λ t. nat_lt t.column j) terms) x +ℚ form_value (filter (λ t. nat_lt j t.column) terms) x ≡ form_value (without_column j terms) x
value_sides j x [] = ring_ℚ [] (zero_of :+ zero_of) zero_of tt
value_sides j x (t ∷ terms) =
    elim (cases_eq t.column j) [
      | inl e ↦ to false false true (le-ltb t.column j (omega arith)) (le-ltb j t.column (omega arith)) (eq-eqb t.column j e) (value_sides j x terms)
      | inr e ↦ elim (cases_lt t.column j) [
        | inl l ↦
            to true false false (lt-ltb t.column j l) (le-ltb j t.column (omega arith)) (ne_eqb t.column j e)
            (ring_ℚ ((t.factor *ℚ x t.column) ∷ below ∷ above ∷ []) ((x0 :+ x1) :+ x2) (x0 :+ (x1 :+ x2)) tt ∙ ap (λ z. t.factor *ℚ x t.column +ℚ z) (value_sides j x terms))
        | inr l ↦
            to false true false (le-ltb t.column j l) (lt-ltb j t.column (let g : j < t.column = omega (arith, e) in g)) (ne_eqb t.column j e)
            (ring_ℚ ((t.factor *ℚ x t.column) ∷ below ∷ above ∷ []) (x1 :+ (x0 :+ x2)) (x0 :+ (x1 :+ x2)) tt ∙ ap (λ z. t.factor *ℚ x t.column +ℚ z) (value_sides j x terms))
      ]
    ]
  where
    below : ℚ
    below = form_value (filter (λ t. nat_lt t.column j) terms) x

    above : ℚ
    above = form_value (filter (λ t. nat_lt j t.column) terms) x

    Goal : Bool → Bool → Bool → Type 0
    Goal a b c = form_value (cond a (t ∷ filter (λ t. nat_lt t.column j) terms) (filter (λ t. nat_lt t.column j) terms)) x +ℚ form_value (cond b (t ∷ filter (λ t. nat_lt j t.column) terms) (filter (λ t. nat_lt j t.column) terms)) x ≡ form_value (cond (not c) (t ∷ without_column j terms) (without_column j terms)) x

    to : (a b c : Bool) → nat_lt t.column j ≡ a → nat_lt j t.column ≡ b → (t.column == j) ≡ c → Goal a b c → Goal (nat_lt t.column j) (nat_lt j t.column) (t.column == j)
    to a b c p q r h = subst (λ z. Goal z (nat_lt j t.column) (t.column == j)) (sym p) (subst (λ z. Goal a z (t.column == j)) (sym q) (subst (Goal a b) (sym r) h))

-- the value with another factor of a column
pub value_changed : (j : ℕ) (q : ℚ) (x : Assignment) (terms : List Term) → form_value (with_factor j q terms) x ≡ form_value (without_column j terms) x +ℚ q *ℚ x j
value_changed j q x terms =
    let low = filter (λ t. nat_lt t.column j) terms in
    let high = filter (λ t. nat_lt j t.column) terms in
    sum_over-append (λ t. t.factor *ℚ x t.column) low (term_of j q ++ high)
    ∙ ap (λ z. form_value low x +ℚ z) (sum_over-append (λ t. t.factor *ℚ x t.column) (term_of j q) high ∙ ap (λ z. z +ℚ form_value high x) (value_term j q x))
    ∙ ring_ℚ (form_value low x ∷ (q *ℚ x j) ∷ form_value high x ∷ []) (x0 :+ (x1 :+ x2)) ((x0 :+ x2) :+ x1) tt
    ∙ ap (λ z. z +ℚ q *ℚ x j) (value_sides j x terms)
