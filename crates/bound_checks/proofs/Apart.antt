-- The outcomes of the parts of a check of a bound.
use Rattle.std.proofs.Common.{◌≡◌, refl, sym, ◌∙◌, ap, Bool, true, false, cond, List, [], length, Option, None, Some}
use Rattle.rational.specs.Rational.{ℚ, zero_ℚ, eq_ℚ}
use Rattle.rational.specs.Linear.{Assignment, factor_of}
use Rattle.lp_model.specs.declared.members.Member.{Member}
use Rattle.lp_model.specs.Program.{Program}
use Rattle.lp_model.specs.Evaluation.{value_operations}
use Rattle.frac128.specs.declared.Wide.{Wide as Operation}
use Rattle.frac128.specs.Limit.{limit}
use Rattle.frac128.specs.Calculation.{first_wide}
use Rattle.certs.specs.declared.evidence.Share.{Share}
use Rattle.certs.specs.declared.evidence.Checked.TheVariants.{Yes, No, Wide}
use Rattle.certs.specs.Bound.{directed, objective_value}
use Rattle.certs.specs.Combination.{column_sum, right_side}
use Rattle.certs.specs.Checks.{outcome, unless_wide, every_below, usable_test, column_operations, right_operations, bound_steps}
use Rattle.bound_checks.specs.Parts.{value_steps, right_steps, factor_steps}

-- ---- a value
module _ (model : Program) (x : Assignment) (v : ℚ) where
  abbrev work : Option Operation
  work = first_wide limit (value_operations model.objective x)

  abbrev is_value : Bool
  is_value = eq_ℚ (objective_value model x) v

  is_told : outcome (value_steps model x v) ≡ unless_wide work (cond is_value Yes No)
  unfolding first_wide
  is_told = refl

  pub wide_value : (o : Operation) → first_wide limit (value_operations model.objective x) ≡ Some o → Wide o ≡ outcome (value_steps model x v)
  wide_value o e = sym (is_told ∙ ap (λ (p : Option Operation). unless_wide p (cond is_value Yes No)) e)

  pub value_decided : first_wide limit (value_operations model.objective x) ≡ None → outcome (value_steps model x v) ≡ cond (eq_ℚ (objective_value model x) v) Yes No
  value_decided e = is_told ∙ ap (λ (p : Option Operation). unless_wide p (cond is_value Yes No)) e

  passed : (p : Option Operation) (t : Bool) → unless_wide p (cond t Yes No) ≡ Yes → t ≡ true
  passed None true e = refl
  passed None false e = absurd (cc)
  passed (Some o) t e = absurd (cc)

  pub value_passes : outcome (value_steps model x v) ≡ Yes → eq_ℚ (objective_value model x) v ≡ true
  value_passes e = passed work is_value (sym is_told ∙ e)

-- ---- the right side
module _ (model : Program) (set : List Member) (shares : List Share) (b : ℚ) where
  abbrev right : Option Operation
  right = first_wide limit (right_operations model [] zero_ℚ shares)

  abbrev bound : Bool
  bound = eq_ℚ (right_side model [] shares) (directed model b)

  is_right : outcome (right_steps model set shares b) ≡ cond (usable_test model set [] shares) (unless_wide right (cond bound Yes No)) No
  unfolding first_wide
  is_right = refl

  pub unusable_right : usable_test model set [] shares ≡ false → No ≡ outcome (right_steps model set shares b)
  unusable_right e = sym (is_right ∙ ap (λ (u : Bool). cond u (unless_wide right (cond bound Yes No)) No) e)

  module _ (u : usable_test model set [] shares ≡ true) where
    usable : outcome (right_steps model set shares b) ≡ unless_wide right (cond bound Yes No)
    usable = is_right ∙ ap (λ (t : Bool). cond t (unless_wide right (cond bound Yes No)) No) u

    pub wide_right_side : (o : Operation) → first_wide limit (right_operations model [] zero_ℚ shares) ≡ Some o → Wide o ≡ outcome (right_steps model set shares b)
    wide_right_side o e = sym (usable ∙ ap (λ (p : Option Operation). unless_wide p (cond bound Yes No)) e)

    pub right_decided : first_wide limit (right_operations model [] zero_ℚ shares) ≡ None → outcome (right_steps model set shares b) ≡ cond (eq_ℚ (right_side model [] shares) (directed model b)) Yes No
    right_decided e = usable ∙ ap (λ (p : Option Operation). unless_wide p (cond bound Yes No)) e

-- ---- the columns
module _ (model : Program) (shares : List Share) where
  abbrev columns : Option Operation
  columns = first_wide limit (column_operations model (λ j. zero_ℚ) shares)

  abbrev factors : Bool
  factors = every_below (λ j. eq_ℚ (column_sum model shares j) (directed model (factor_of model.objective j))) (length model.columns)

  is_columns : outcome (factor_steps model shares) ≡ unless_wide columns (cond factors Yes No)
  unfolding first_wide
  is_columns = refl

  pub wide_factors : (o : Operation) → first_wide limit (column_operations model (λ j. zero_ℚ) shares) ≡ Some o → Wide o ≡ outcome (factor_steps model shares)
  wide_factors o e = sym (is_columns ∙ ap (λ (p : Option Operation). unless_wide p (cond factors Yes No)) e)

  pub factors_decided : first_wide limit (column_operations model (λ j. zero_ℚ) shares) ≡ None
      → outcome (factor_steps model shares) ≡ cond (every_below (λ j. eq_ℚ (column_sum model shares j) (directed model (factor_of model.objective j))) (length model.columns)) Yes No
  factors_decided e = is_columns ∙ ap (λ (p : Option Operation). unless_wide p (cond factors Yes No)) e

-- ---- both parts
joined : (u z r : Bool) (p q : Option Operation) → cond u (unless_wide q (cond r Yes No)) No ≡ Yes → unless_wide p (cond z Yes No) ≡ Yes
    → cond u (unless_wide p (cond z (unless_wide q (cond r Yes No)) No)) No ≡ Yes
joined false z r p q e f = absurd (cc)
joined true z r (Some o) q e f = absurd (cc)
joined true false r None q e f = absurd (cc)
joined true true r None q e f = e

pub both_pass : (model : Program) (set : List Member) (shares : List Share) (b : ℚ) → outcome (right_steps model set shares b) ≡ Yes → outcome (factor_steps model shares) ≡ Yes → outcome (bound_steps model set shares b) ≡ Yes
unfolding first_wide
both_pass model set shares b e f =
    joined (usable_test model set [] shares)
    (every_below (λ j. eq_ℚ (column_sum model shares j) (directed model (factor_of model.objective j))) (length model.columns))
    (eq_ℚ (right_side model [] shares) (directed model b))
    (first_wide limit (column_operations model (λ j. zero_ℚ) shares))
    (first_wide limit (right_operations model [] zero_ℚ shares))
    (sym (is_right model set shares b) ∙ e) (sym (is_columns model shares) ∙ f)
