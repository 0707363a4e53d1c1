-- The outcome of the check of a bound, by its three tests.
use Rattle.std.proofs.Common.{◌≡◌, refl, sym, ◌∙◌, ap, Bool, true, false, cond, List, [], length, Option, None, Some}
use Rattle.rational.specs.Rational.{ℚ, zero_ℚ, eq_ℚ}
use Rattle.rational.specs.Linear.{factor_of}
use Rattle.lp_model.specs.declared.members.Member.{Member}
use Rattle.lp_model.specs.Program.{Program}
use Rattle.frac128.specs.declared.Wide.{Wide as Operation}
use Rattle.frac128.specs.Limit.{limit}
use Rattle.frac128.specs.Calculation.{first_wide}
use Rattle.certs.specs.declared.evidence.Share.{Share}
use Rattle.certs.specs.declared.evidence.Checked.{Checked}
use Rattle.certs.specs.declared.evidence.Checked.TheVariants.{Yes, No, Wide}
use Rattle.certs.specs.Bound.{directed}
use Rattle.certs.specs.Combination.{column_sum, right_side}
use Rattle.certs.specs.Checks.{outcome, unless_wide, every_below, usable_test, column_operations, right_operations, bound_steps}

-- whether the shares can be used, the columns' first wide operation, whether they are the objective, that of the right side, and
-- whether it is the bound
abbrev shown : Bool → Option Operation → Bool → Option Operation → Bool → Checked
shown u p z q r = cond u (unless_wide p (cond z (unless_wide q (cond r Yes No)) No)) No

module _ (model : Program) (set : List Member) (shares : List Share) (b : ℚ) where
  abbrev columns : Option Operation
  columns = first_wide limit (column_operations model (λ j. zero_ℚ) shares)

  abbrev pub factors : Bool
  factors = every_below (λ j. eq_ℚ (column_sum model shares j) (directed model (factor_of model.objective j))) (length model.columns)

  abbrev right : Option Operation
  right = first_wide limit (right_operations model [] zero_ℚ shares)

  abbrev bound : Bool
  bound = eq_ℚ (right_side model [] shares) (directed model b)

  is_shown : outcome (bound_steps model set shares b) ≡ shown (usable_test model set [] shares) columns factors right bound
  unfolding first_wide
  is_shown = refl

  pub unusable : usable_test model set [] shares ≡ false → No ≡ outcome (bound_steps model set shares b)
  unusable e = sym (is_shown ∙ ap (λ (u : Bool). shown u columns factors right bound) e)

  module _ (u : usable_test model set [] shares ≡ true) where
    usable : outcome (bound_steps model set shares b) ≡ shown true columns factors right bound
    usable = is_shown ∙ ap (λ (t : Bool). shown t columns factors right bound) u

    pub wide_columns : (o : Operation) → first_wide limit (column_operations model (λ j. zero_ℚ) shares) ≡ Some o → Wide o ≡ outcome (bound_steps model set shares b)
    wide_columns o e = sym (usable ∙ ap (λ (p : Option Operation). shown true p factors right bound) e)

    module _ (p : first_wide limit (column_operations model (λ j. zero_ℚ) shares) ≡ None) where
      summed : outcome (bound_steps model set shares b) ≡ shown true None factors right bound
      summed = usable ∙ ap (λ (t : Option Operation). shown true t factors right bound) p

      pub other_factors : every_below (λ j. eq_ℚ (column_sum model shares j) (directed model (factor_of model.objective j))) (length model.columns) ≡ false → No ≡ outcome (bound_steps model set shares b)
      other_factors e = sym (summed ∙ ap (λ (t : Bool). shown true None t right bound) e)

      module _ (z : every_below (λ j. eq_ℚ (column_sum model shares j) (directed model (factor_of model.objective j))) (length model.columns) ≡ true) where
        matched : outcome (bound_steps model set shares b) ≡ shown true None true right bound
        matched = summed ∙ ap (λ (t : Bool). shown true None t right bound) z

        pub wide_right : (o : Operation) → first_wide limit (right_operations model [] zero_ℚ shares) ≡ Some o → Wide o ≡ outcome (bound_steps model set shares b)
        wide_right o e = sym (matched ∙ ap (λ (t : Option Operation). shown true None true t bound) e)

        pub decided : first_wide limit (right_operations model [] zero_ℚ shares) ≡ None → outcome (bound_steps model set shares b) ≡ cond (eq_ℚ (right_side model [] shares) (directed model b)) Yes No
        decided e = matched ∙ ap (λ (t : Option Operation). shown true None true t bound) e
