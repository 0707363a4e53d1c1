-- The outcome of a member's part of the check of a price.
use Rattle.std.proofs.Common.{◌≡◌, sym, ◌∙◌, ap, subst, Bool, true, false, cond, [], ◌∷◌, ◌++◌, Option, None, Some}
use Rattle.rational.specs.Rational.{ℚ, ◌-ℚ◌, ◌*ℚ◌, le_q}
use Rattle.rational.specs.Linear.{Assignment}
use Rattle.lp_model.specs.declared.members.Member.{Member}
use Rattle.lp_model.specs.Program.{Program}
use Rattle.lp_model.specs.Members.{form, side, value, weight}
use Rattle.lp_model.specs.Evaluation.{value_operations}
use Rattle.frac128.specs.declared.Op.TheVariants.{Minus, Times}
use Rattle.frac128.specs.declared.Wide.{Wide as Operation}
use Rattle.frac128.specs.Limit.{limit}
use Rattle.frac128.specs.Width.{operation, is_wide}
use Rattle.frac128.specs.Calculation.{Calculation, first_wide}
use Rattle.frac128.proofs.Calculations.{first_wide-before, first_wide-past, first_wide-here, first_wide-next, first_wide-nil}
use Rattle.certs.specs.declared.evidence.Checked.TheVariants.{Yes, No, Wide}
use Rattle.certs.specs.Alternative.{cost_of}
use Rattle.certs.specs.Combination.{signed}
use Rattle.certs.specs.Checks.{outcome, unless_wide, signed_terms, priced_steps}

-- ---- one that asks for the number b; a is that number on its side, v its value on its side
module _ (model : Program) (t : ℚ) (z : Assignment) (m : Member) (o : Option ℚ) (b : ℚ) (some : Some b ≡ o) where
  abbrev sum_of : Calculation
  sum_of = value_operations (signed_terms (side m) (form model m)) z

  abbrev rest_of : ℚ → ℚ → Calculation
  rest_of v a = operation Times t a ∷ operation Minus v (t *ℚ a) ∷ []

  abbrev test_of : ℚ → ℚ → Bool
  test_of v a = le_q (v -ℚ t *ℚ a) (cost_of (weight model m))

  abbrev value_of : ℚ
  value_of = signed (side m) (value model m z)

  abbrev number_of : ℚ
  number_of = signed (side m) b

  is_step : outcome (priced_steps model t z m o) ≡ unless_wide (first_wide limit (sum_of ++ rest_of value_of number_of)) (cond (test_of value_of number_of) Yes No)
  is_step = sym (ap (λ p. outcome (priced_steps model t z m p)) some)

  answers : (p : Option Operation) → first_wide limit (sum_of ++ rest_of value_of number_of) ≡ p → outcome (priced_steps model t z m o) ≡ unless_wide p (cond (test_of value_of number_of) Yes No)
  answers p e = is_step ∙ ap (λ q. unless_wide q (cond (test_of value_of number_of) Yes No)) e

  pub sum_wide : (w : Operation) → first_wide limit sum_of ≡ Some w → Wide w ≡ outcome (priced_steps model t z m o)
  sum_wide w e = sym (answers (Some w) (first_wide-before limit sum_of (rest_of value_of number_of) w e))

  module _ (v a : ℚ) (ev : v ≡ value_of) (ea : a ≡ number_of) (fits : first_wide limit sum_of ≡ None) where
    on_rest : first_wide limit (sum_of ++ rest_of value_of number_of) ≡ first_wide limit (rest_of v a)
    on_rest =
        first_wide-past limit sum_of (rest_of value_of number_of) fits
        ∙ sym (ap (λ (q : ℚ). first_wide limit (rest_of q a)) ev ∙ ap (λ (q : ℚ). first_wide limit (rest_of value_of q)) ea)

    pub product_wide : (w : Operation) → w ≡ operation Times t a → is_wide limit w ≡ true → Wide w ≡ outcome (priced_steps model t z m o)
    product_wide w e h =
        sym (answers (Some w) (on_rest ∙ first_wide-here limit (operation Times t a) (operation Minus v (t *ℚ a) ∷ []) (subst (λ (p : Operation). is_wide limit p ≡ true) e h) ∙ ap Some (sym e)))

    -- p is the product
    module _ (p : ℚ) (ep : p ≡ t *ℚ a) (narrow : is_wide limit (operation Times t a) ≡ false) where
      on_last : first_wide limit (sum_of ++ rest_of value_of number_of) ≡ first_wide limit (operation Minus v p ∷ [])
      on_last = on_rest ∙ first_wide-next limit (operation Times t a) (operation Minus v (t *ℚ a) ∷ []) narrow ∙ sym (ap (λ (q : ℚ). first_wide limit (operation Minus v q ∷ [])) ep)

      pub difference_wide : (w : Operation) → w ≡ operation Minus v p → is_wide limit w ≡ true → Wide w ≡ outcome (priced_steps model t z m o)
      difference_wide w e h = sym (answers (Some w) (on_last ∙ first_wide-here limit (operation Minus v p) [] (subst (λ (q : Operation). is_wide limit q ≡ true) e h) ∙ ap Some (sym e)))

      pub decided : (d : ℚ) → d ≡ v -ℚ p → is_wide limit (operation Minus v p) ≡ false → outcome (priced_steps model t z m o) ≡ cond (le_q d (cost_of (weight model m))) Yes No
      decided d e h =
          let difference : d ≡ value_of -ℚ t *ℚ number_of = e ∙ ap (λ (q : ℚ). v -ℚ q) (ep ∙ ap (λ (q : ℚ). t *ℚ q) ea) ∙ ap (λ (q : ℚ). q -ℚ t *ℚ number_of) ev in
          answers None (on_last ∙ first_wide-next limit (operation Minus v p) [] h ∙ first_wide-nil limit) ∙ sym (ap (λ (q : ℚ). cond (le_q q (cost_of (weight model m))) Yes No) difference)
