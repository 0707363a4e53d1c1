-- The least or the greatest sum of terms, term by term.
use Rattle.std.proofs.Common.{◌≡◌, refl, sym, ◌∙◌, ap, ℕ, ◌+◌, ◌<◌, ◌≤◌, Bool, true, false, not, ◌&&◌, cond, List, [], ◌∷◌, ◌++◌, length, drop, get_or, Option, Some, None, is_some}
use Rattle.std.proofs.lemmas.List.{at_drop_more, drop_all}
use Rattle.rational.specs.Rational.{ℚ, ◌+ℚ◌, ◌*ℚ◌, zero_ℚ}
use Rattle.rational.specs.Sum.{sum_over}
use Rattle.rational.specs.Linear.{Term}
use Rattle.rational.proofs.Field.{add-assoc_ℚ, add-zero_ℚ}
use Rattle.rational.proofs.Sums.{nothing_first}
use Rattle.frac128.specs.declared.Op.TheVariants.{Plus, Times}
use Rattle.frac128.specs.Limit.{limit}
use Rattle.frac128.specs.declared.Wide.{Wide as Operation}
use Rattle.frac128.specs.Width.{operation, is_wide}
use Rattle.frac128.specs.Calculation.{Calculation, first_wide, or_else, product_steps}
use Rattle.frac128.proofs.Calculations.{first_wide-append, first_wide-nil, first_wide-here, first_wide-next}
use Rattle.lp_model.specs.declared.members.Side.{Side}
use Rattle.certs.specs.Combination.{number_or_zero}
use Rattle.certs.specs.System.{LinearSystem}
use Rattle.reductions.specs.Limited.{is_narrow, taken, taken_value, is_finite, extreme}

-- two calculations in turn are narrow where both are
either : (a b : Option Operation) → not (is_some (or_else a b)) ≡ not (is_some a) && not (is_some b)
either None b = refl
either (Some o) b = refl

narrow-append : (xs ys : Calculation) → is_narrow (xs ++ ys) ≡ is_narrow xs && is_narrow ys
narrow-append xs ys = ap (λ o. not (is_some o)) (first_wide-append limit xs ys) ∙ either (first_wide limit xs) (first_wide limit ys)

narrow-nil : is_narrow [] ≡ true
narrow-nil = ap (λ o. not (is_some o)) (first_wide-nil limit)

-- the operations of one term
abbrev pub term_steps : ℚ → ℚ → ℚ → Calculation
term_steps sum factor number = operation Times factor number ∷ operation Plus sum (factor *ℚ number) ∷ []

-- whether they are narrow, one by one
module _ (sum factor number : ℚ) where
  pub term-wide : is_wide limit (operation Times factor number) ≡ true → is_narrow (term_steps sum factor number) ≡ false
  term-wide e = ap (λ o. not (is_some o)) (first_wide-here limit (operation Times factor number) (operation Plus sum (factor *ℚ number) ∷ []) e)

  pub term-sum_wide : is_wide limit (operation Times factor number) ≡ false → is_wide limit (operation Plus sum (factor *ℚ number)) ≡ true → is_narrow (term_steps sum factor number) ≡ false
  term-sum_wide e f =
      ap (λ o. not (is_some o))
      (first_wide-next limit (operation Times factor number) (operation Plus sum (factor *ℚ number) ∷ []) e ∙ first_wide-here limit (operation Plus sum (factor *ℚ number)) [] f)

  pub term-fits : is_wide limit (operation Times factor number) ≡ false → is_wide limit (operation Plus sum (factor *ℚ number)) ≡ false → is_narrow (term_steps sum factor number) ≡ true
  term-fits e f =
      ap (λ o. not (is_some o))
      (first_wide-next limit (operation Times factor number) (operation Plus sum (factor *ℚ number) ∷ []) e ∙ first_wide-next limit (operation Plus sum (factor *ℚ number)) [] f ∙ first_wide-nil limit)

module _ (system : LinearSystem) (side : Side) where
  -- the sum of terms, after the sum so far
  abbrev pub extreme_after : ℚ → List Term → Option ℚ
  extreme_after sum terms =
      cond (is_finite system side terms && is_narrow (product_steps (λ t. t.factor) (taken_value system side) sum terms))
      (Some (sum +ℚ sum_over (λ t. t.factor *ℚ taken_value system side t) terms))
      None

  pub after-zero : (terms : List Term) → extreme_after zero_ℚ terms ≡ extreme system side terms
  after-zero terms =
      ap
      (λ s. cond (is_finite system side terms && is_narrow (product_steps (λ t. t.factor) (taken_value system side) zero_ℚ terms)) (Some s) None)
      (nothing_first (sum_over (λ t. t.factor *ℚ taken_value system side t) terms))

  after-nil : (sum : ℚ) → extreme_after sum [] ≡ Some sum
  unfolding product_steps
  after-nil sum = ap (λ b. cond b (Some (sum +ℚ zero_ℚ)) None) narrow-nil ∙ ap (λ s. Some s) (add-zero_ℚ sum)

  -- of the first term and the others
  narrow_first : (sum : ℚ) (t : Term) (rest : List Term)
      → is_narrow (product_steps (λ u. u.factor) (taken_value system side) sum (t ∷ rest))
      ≡ is_narrow (term_steps sum t.factor (taken_value system side t)) && is_narrow (product_steps (λ u. u.factor) (taken_value system side) (sum +ℚ t.factor *ℚ taken_value system side t) rest)
  unfolding product_steps
  narrow_first sum t rest =
      narrow-append (term_steps sum t.factor (taken_value system side t)) (product_steps (λ u. u.factor) (taken_value system side) (sum +ℚ t.factor *ℚ taken_value system side t) rest)

  module _ (sum : ℚ) (t : Term) (rest : List Term) where
    -- with a limit
    module _ (number : ℚ) (e : taken system side t ≡ Some number) where
      value : taken_value system side t ≡ number
      value = ap number_or_zero e

      unfolded : extreme_after sum (t ∷ rest)
          ≡ cond (is_finite system side rest && (is_narrow (term_steps sum t.factor number) && is_narrow (product_steps (λ u. u.factor) (taken_value system side) (sum +ℚ t.factor *ℚ number) rest)))
          (Some (sum +ℚ (t.factor *ℚ number +ℚ sum_over (λ u. u.factor *ℚ taken_value system side u) rest))) None
      unfolded =
          ap
          (λ o. cond ((is_some o && is_finite system side rest) && is_narrow (product_steps (λ u. u.factor) (taken_value system side) sum (t ∷ rest)))
          (Some (sum +ℚ sum_over (λ u. u.factor *ℚ taken_value system side u) (t ∷ rest))) None) e
          ∙ ap
          (λ b. cond (is_finite system side rest && b)
          (Some (sum +ℚ sum_over (λ u. u.factor *ℚ taken_value system side u) (t ∷ rest))) None) (narrow_first sum t rest)
          ∙ ap
          (λ v. cond (is_finite system side rest && (is_narrow (term_steps sum t.factor v) && is_narrow (product_steps (λ u. u.factor) (taken_value system side) (sum +ℚ t.factor *ℚ v) rest)))
          (Some (sum +ℚ (t.factor *ℚ v +ℚ sum_over (λ u. u.factor *ℚ taken_value system side u) rest))) None) value

      -- too wide
      after-wide : is_narrow (term_steps sum t.factor number) ≡ false → extreme_after sum (t ∷ rest) ≡ None
      after-wide w =
          unfolded
          ∙ ap
          (λ b. cond (is_finite system side rest && (b && is_narrow (product_steps (λ u. u.factor) (taken_value system side) (sum +ℚ t.factor *ℚ number) rest)))
          (Some (sum +ℚ (t.factor *ℚ number +ℚ sum_over (λ u. u.factor *ℚ taken_value system side u) rest))) None) w
          ∙ ap (λ b. cond b (Some (sum +ℚ (t.factor *ℚ number +ℚ sum_over (λ u. u.factor *ℚ taken_value system side u) rest))) None) (and_no (is_finite system side rest))
        where
          and_no : (b : Bool) → b && false ≡ false
          and_no true = refl
          and_no false = refl

      after-next : (more : ℚ) → more ≡ sum +ℚ t.factor *ℚ number → is_narrow (term_steps sum t.factor number) ≡ true → extreme_after sum (t ∷ rest) ≡ extreme_after more rest
      after-next more m w =
          unfolded
          ∙ ap
          (λ b. cond (is_finite system side rest && (b && is_narrow (product_steps (λ u. u.factor) (taken_value system side) (sum +ℚ t.factor *ℚ number) rest)))
          (Some (sum +ℚ (t.factor *ℚ number +ℚ sum_over (λ u. u.factor *ℚ taken_value system side u) rest))) None) w
          ∙ ap
          (λ s. cond (is_finite system side rest && is_narrow (product_steps (λ u. u.factor) (taken_value system side) (sum +ℚ t.factor *ℚ number) rest)) (Some s) None)
          (sym (add-assoc_ℚ sum (t.factor *ℚ number) (sum_over (λ u. u.factor *ℚ taken_value system side u) rest)))
          ∙ ap (λ s. extreme_after s rest) (sym m)

  -- ---- what is left of the terms from place i on
  module _ (terms : List Term) (i : ℕ) (t : Term) (sum : ℚ) (h : i < length terms) (is : t ≡ get_or terms i t) where
    here : extreme_after sum (drop i terms) ≡ extreme_after sum (t ∷ drop (i + 1) terms)
    here = at_drop_more (λ (l : List Term). extreme_after sum l) terms i t h ∙ ap (λ (u : Term). extreme_after sum (u ∷ drop (i + 1) terms)) (sym is)

    pub at-wide : (number : ℚ) → taken system side t ≡ Some number → is_narrow (term_steps sum t.factor number) ≡ false → extreme_after sum (drop i terms) ≡ None
    at-wide number e w = here ∙ after-wide sum t (drop (i + 1) terms) number e w

    pub at-next : (number more : ℚ) → taken system side t ≡ Some number → more ≡ sum +ℚ t.factor *ℚ number → is_narrow (term_steps sum t.factor number) ≡ true
        → extreme_after sum (drop i terms) ≡ extreme_after more (drop (i + 1) terms)
    at-next number more e m w = here ∙ after-next sum t (drop (i + 1) terms) number e more m w

  pub at-end : (terms : List Term) (i : ℕ) (sum : ℚ) → length terms ≤ i → extreme_after sum (drop i terms) ≡ Some sum
  at-end terms i sum h = ap (λ (l : List Term). extreme_after sum l) (drop_all i terms h) ∙ after-nil sum
