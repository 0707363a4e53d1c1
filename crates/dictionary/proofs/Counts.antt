-- Operations that are counted where no operand is 0.
use Rattle.std.proofs.Common.{◌≡◌, refl, sym, ◌∙◌, ap, ℕ, Bool, true, false, cond, ◌||◌, [], ◌∷◌, Some, None}
use Rattle.rational.specs.Rational.{ℚ, ◌+ℚ◌, ◌-ℚ◌, ◌*ℚ◌, neg_ℚ, zero_ℚ, eq_ℚ}
use Rattle.rational.proofs.Field.{ring_ℚ, x0, ◌:+◌, ◌:-◌, ◌:*◌, minus, zero_of}
use Rattle.rational.proofs.Compare.{eq-Decides}
use Rattle.frac128.specs.declared.Op.{Op}
use Rattle.frac128.specs.declared.Wide.{Wide as Operation}
use Rattle.frac128.specs.Width.{operation, is_wide}
use Rattle.frac128.specs.Calculation.{first_wide}
use Rattle.frac128.proofs.Calculations.{first_wide-nil, first_wide-here, first_wide-next}
use Rattle.certs.specs.Turns.{counted}

pub is_zero : (a : ℚ) (b : Bool) → b ≡ eq_ℚ a zero_ℚ → b ≡ true → a ≡ zero_ℚ
is_zero a b e t = (eq-Decides a zero_ℚ).0 (sym e ∙ t)

module _ (m : ℕ) (kind : Op) (a b : ℚ) where
  by_tests : (s t : Bool) → eq_ℚ a zero_ℚ ≡ s → eq_ℚ b zero_ℚ ≡ t → counted kind a b ≡ cond (s || t) [] (operation kind a b ∷ [])
  by_tests s t e f = ap (λ x. cond (x || eq_ℚ b zero_ℚ) [] (operation kind a b ∷ [])) e ∙ ap (λ x. cond (s || x) [] (operation kind a b ∷ [])) f

  pub counted-left : eq_ℚ a zero_ℚ ≡ true → first_wide m (counted kind a b) ≡ None
  counted-left e = ap (first_wide m) (by_tests true (eq_ℚ b zero_ℚ) e refl) ∙ first_wide-nil m

  pub counted-right : eq_ℚ a zero_ℚ ≡ false → eq_ℚ b zero_ℚ ≡ true → first_wide m (counted kind a b) ≡ None
  counted-right e f = ap (first_wide m) (by_tests false true e f) ∙ first_wide-nil m

  pub counted-narrow : eq_ℚ a zero_ℚ ≡ false → eq_ℚ b zero_ℚ ≡ false → is_wide m (operation kind a b) ≡ false → first_wide m (counted kind a b) ≡ None
  counted-narrow e f h = ap (first_wide m) (by_tests false false e f) ∙ first_wide-next m (operation kind a b) [] h ∙ first_wide-nil m

  pub counted-wide : eq_ℚ a zero_ℚ ≡ false → eq_ℚ b zero_ℚ ≡ false → (w : Operation) → w ≡ operation kind a b → is_wide m w ≡ true → first_wide m (counted kind a b) ≡ Some w
  counted-wide e f w s h =
      ap (first_wide m) (by_tests false false e f)
      ∙ first_wide-here m (operation kind a b) [] (ap (is_wide m) (sym s) ∙ h)
      ∙ ap (λ (o : Operation). Some o) (sym s)

-- with 0 on the right, whatever stands on the left
pub counted-zero : (m : ℕ) (kind : Op) (a b : ℚ) → b ≡ zero_ℚ → first_wide m (counted kind a b) ≡ None
counted-zero m kind a b e = by (eq_ℚ a zero_ℚ) refl
  where
    by : (t : Bool) → eq_ℚ a zero_ℚ ≡ t → first_wide m (counted kind a b) ≡ None
    by true t = counted-left m kind a b t
    by false t = counted-right m kind a b t ((eq-Decides b zero_ℚ).1 e)

-- values with an operand 0
pub zero_times : (a b : ℚ) → a ≡ zero_ℚ → zero_ℚ ≡ a *ℚ b
zero_times a b e = ring_ℚ (b ∷ []) zero_of (zero_of :* x0) tt ∙ ap (λ z. z *ℚ b) (sym e)

pub times_zero : (a b : ℚ) → b ≡ zero_ℚ → zero_ℚ ≡ a *ℚ b
times_zero a b e = ring_ℚ (a ∷ []) zero_of (x0 :* zero_of) tt ∙ ap (λ z. a *ℚ z) (sym e)

pub zero_plus : (a b : ℚ) → a ≡ zero_ℚ → b ≡ a +ℚ b
zero_plus a b e = ring_ℚ (b ∷ []) x0 (zero_of :+ x0) tt ∙ ap (λ z. z +ℚ b) (sym e)

pub plus_zero : (a b : ℚ) → b ≡ zero_ℚ → a ≡ a +ℚ b
plus_zero a b e = ring_ℚ (a ∷ []) x0 (x0 :+ zero_of) tt ∙ ap (λ z. a +ℚ z) (sym e)

pub zero_minus : (a b : ℚ) → a ≡ zero_ℚ → neg_ℚ b ≡ a -ℚ b
zero_minus a b e = ring_ℚ (b ∷ []) (minus x0) (zero_of :- x0) tt ∙ ap (λ z. z -ℚ b) (sym e)

pub minus_zero : (a b : ℚ) → b ≡ zero_ℚ → a ≡ a -ℚ b
minus_zero a b e = ring_ℚ (a ∷ []) x0 (x0 :- zero_of) tt ∙ ap (λ z. a -ℚ z) (sym e)
