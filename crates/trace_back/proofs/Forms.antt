-- What is left of a form when an equation of two columns is taken from it.
use Rattle.std.proofs.Common.{◌≡◌, ◌≢◌, refl, sym, ◌∙◌, ap, ℕ, Bool, true, false, cond, ◌==◌, List, [], ◌∷◌}
use Rattle.rational.specs.Rational.{ℚ, ◌+ℚ◌, ◌-ℚ◌, ◌*ℚ◌, ◌/ℚ◌, inv_ℚ, zero_ℚ, one_ℚ, eq_ℚ}
use Rattle.rational.specs.Linear.{Term, Assignment, form_value, factor_of}
use Rattle.rational.proofs.Field.{ring_ℚ, ring_by_ℚ, mul-inv_ℚ, x0, x1, x2, x3, x4, x5, x6, x7, ◌:+◌, ◌:-◌, ◌:*◌, minus, zero_of, unit_of}
use Rattle.rational.proofs.Sums.{sum_over-ext}
use Rattle.rational.proofs.Compare.{eq-Decides}
use Rattle.reductions.specs.declared.steps.Doubleton.{Doubleton as Pair}
use Rattle.reductions.specs.Reduction.{without_column, with_factor, pair_terms}
use Rattle.reductions.proofs.Terms.{value_without, value_changed}
use Rattle.reductions.proofs.PairPoints.{factor_elsewhere}

-- a factor is the value where its column alone is 1
abbrev alone : ℕ → Assignment
alone k c = cond (c == k) one_ℚ zero_ℚ

factor_as_value : (terms : List Term) (k : ℕ) → factor_of terms k ≡ form_value terms (alone k)
factor_as_value terms k = sum_over-ext (λ t. cond (t.column == k) t.factor zero_ℚ) (λ t. t.factor *ℚ alone k t.column) terms (λ t. by t.factor (t.column == k))
  where
    by : (q : ℚ) (b : Bool) → cond b q zero_ℚ ≡ q *ℚ cond b one_ℚ zero_ℚ
    by q true = ring_ℚ (q ∷ []) x0 (x0 :* unit_of) tt
    by q false = ring_ℚ (q ∷ []) zero_of (x0 :* zero_of) tt

module _ (d : Pair) (apart : d.x ≢ d.y) (some_b : d.b ≢ zero_ℚ) (terms : List Term) where
  abbrev g : ℚ
  g = factor_of terms d.y

  abbrev others : List Term
  others = without_column d.y terms

  -- its value is that of what is left, and of the equation so many times
  value_left : (x : Assignment) → form_value terms x ≡ form_value (pair_terms d terms) x +ℚ (g /ℚ d.b) *ℚ (d.a *ℚ x d.x +ℚ d.b *ℚ x d.y)
  value_left x = by (eq_ℚ g zero_ℚ) refl
    where
      by : (z : Bool) → eq_ℚ g zero_ℚ ≡ z
          → form_value terms x ≡ form_value (cond z terms (with_factor d.x (factor_of terms d.x -ℚ (g /ℚ d.b) *ℚ d.a) others)) x +ℚ (g /ℚ d.b) *ℚ (d.a *ℚ x d.x +ℚ d.b *ℚ x d.y)
      by true e =
          ring_by_ℚ (form_value terms x ∷ g ∷ inv_ℚ d.b ∷ (d.a *ℚ x d.x +ℚ d.b *ℚ x d.y) ∷ []) x0 (x0 :+ (x1 :* x2) :* x3) (minus (x2 :* x3)) x1 zero_of ((eq-Decides g zero_ℚ).0 e) tt
      by false e =
          let rest = form_value (without_column d.x others) x in
          let h = factor_of terms d.x in
          value_without d.y x terms
          ∙ ap (λ z. z +ℚ g *ℚ x d.y) (value_without d.x x others ∙ ap (λ z. rest +ℚ z *ℚ x d.x) (factor_elsewhere d.y d.x terms apart))
          ∙ ring_by_ℚ (rest ∷ h ∷ x d.x ∷ g ∷ x d.y ∷ inv_ℚ d.b ∷ d.b ∷ d.a ∷ [])
          ((x0 :+ x1 :* x2) :+ x3 :* x4) ((x0 :+ (x1 :- (x3 :* x5) :* x7) :* x2) :+ (x3 :* x5) :* (x7 :* x2 :+ x6 :* x4))
          (minus (x3 :* x4)) (x6 :* x5) unit_of (mul-inv_ℚ d.b some_b) tt
          ∙ ap (λ z. z +ℚ (g /ℚ d.b) *ℚ (d.a *ℚ x d.x +ℚ d.b *ℚ x d.y)) (sym (value_changed d.x (h -ℚ (g /ℚ d.b) *ℚ d.a) x others))

  -- and so are its factors
  pub factor_left : (k : ℕ) → factor_of terms k ≡ factor_of (pair_terms d terms) k +ℚ (g /ℚ d.b) *ℚ factor_of (record { column = d.x; factor = d.a } ∷ record { column = d.y; factor = d.b } ∷ []) k
  factor_left k =
      factor_as_value terms k ∙ value_left (alone k)
      ∙ ap (λ z. z +ℚ (g /ℚ d.b) *ℚ (d.a *ℚ alone k d.x +ℚ d.b *ℚ alone k d.y)) (sym (factor_as_value (pair_terms d terms) k))
      ∙ ap (λ z. factor_of (pair_terms d terms) k +ℚ (g /ℚ d.b) *ℚ z)
      (ring_ℚ ((d.a *ℚ alone k d.x) ∷ (d.b *ℚ alone k d.y) ∷ []) (x0 :+ x1) (x0 :+ (x1 :+ zero_of)) tt
      ∙ sym (factor_as_value (record { column = d.x; factor = d.a } ∷ record { column = d.y; factor = d.b } ∷ []) k))
