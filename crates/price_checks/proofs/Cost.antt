-- The outcome of the check of a cost, by its two tests, and what a cost shows beside a price.
use Rattle.std.proofs.Common.{◌≡◌, refl, sym, ◌∙◌, ap, subst, Bool, true, false, cond, List, [], Option, None, Some}
use Rattle.std.proofs.lemmas.List.Elements.{All-weaker}
use Rattle.rational.specs.Rational.{ℚ, eq_ℚ, neg_ℚ, zero_ℚ, one_ℚ, ◌≤ℚ◌, ◌<ℚ◌}
use Rattle.rational.proofs.Compare.{eq-Decides}
use Rattle.rational.proofs.Order.{le_of_lt_ℚ}
use Rattle.lp_model.specs.Program.{Program}
use Rattle.frac128.specs.declared.Wide.{Wide as Operation}
use Rattle.frac128.specs.Limit.{limit}
use Rattle.frac128.specs.Calculation.{first_wide}
use Rattle.certs.specs.declared.evidence.Share.{Share}
use Rattle.certs.specs.declared.evidence.Checked.{Checked}
use Rattle.certs.specs.declared.evidence.Checked.TheVariants.{Yes, No, Wide}
use Rattle.certs.specs.Alternative.{IsWeighting, cost, PriceLaw}
use Rattle.certs.specs.Combination.{right_side}
use Rattle.certs.specs.Checks.{outcome, unless_wide, right_operations}
use Rattle.price_checks.specs.Costs.{cost_operations, cost_steps, CostLaw, CostNoLaw, PricedLaw}

-- the right side's first wide operation, whether it is -1, that of the cost, and whether it is the total
abbrev costed : Option Operation → Bool → Option Operation → Bool → Checked
costed p r q s = unless_wide p (cond r (unless_wide q (cond s Yes No)) No)

module _ (model : Program) (shares : List Share) (t : ℚ) where
  abbrev right : Option Operation
  right = first_wide limit (right_operations model [] zero_ℚ shares)

  abbrev is_right : Bool
  is_right = eq_ℚ (right_side model [] shares) (neg_ℚ one_ℚ)

  abbrev sum : Option Operation
  sum = first_wide limit (cost_operations model shares)

  abbrev is_sum : Bool
  is_sum = eq_ℚ (cost model shares) t

  is_costed : outcome (cost_steps model shares t) ≡ costed right is_right sum is_sum
  is_costed = refl

  pub wide_right : (o : Operation) → first_wide limit (right_operations model [] zero_ℚ shares) ≡ Some o → Wide o ≡ outcome (cost_steps model shares t)
  wide_right o e = sym (is_costed ∙ ap (λ p. costed p is_right sum is_sum) e)

  module _ (p : first_wide limit (right_operations model [] zero_ℚ shares) ≡ None) where
    summed : outcome (cost_steps model shares t) ≡ costed None is_right sum is_sum
    summed = is_costed ∙ ap (λ q. costed q is_right sum is_sum) p

    pub other_right : eq_ℚ (right_side model [] shares) (neg_ℚ one_ℚ) ≡ false → No ≡ outcome (cost_steps model shares t)
    other_right e = sym (summed ∙ ap (λ r. costed None r sum is_sum) e)

    module _ (r : eq_ℚ (right_side model [] shares) (neg_ℚ one_ℚ) ≡ true) where
      matched : outcome (cost_steps model shares t) ≡ costed None true sum is_sum
      matched = summed ∙ ap (λ s. costed None s sum is_sum) r

      pub wide_sum : (o : Operation) → first_wide limit (cost_operations model shares) ≡ Some o → Wide o ≡ outcome (cost_steps model shares t)
      wide_sum o e = sym (matched ∙ ap (λ q. costed None true q is_sum) e)

      pub decided : first_wide limit (cost_operations model shares) ≡ None → outcome (cost_steps model shares t) ≡ cond (eq_ℚ (cost model shares) t) Yes No
      decided e = matched ∙ ap (λ q. costed None true q is_sum) e

-- ---- the laws
both : (p q : Option Operation) (r s : Bool) → costed p r q s ≡ Yes → (r ≡ true) × (s ≡ true)
both None None true true e = (refl, refl)
both None None true false e = cc
both None None false s e = cc
both None (Some o) true s e = cc
both None (Some o) false s e = cc
both (Some o) q r s e = cc

pub cost_law : CostLaw
cost_law model shares t e =
    let passed : (is_right model shares t ≡ true) × (is_sum model shares t ≡ true) = both (right model shares t) (sum model shares t) (is_right model shares t) (is_sum model shares t) e in
    record {
      right = (eq-Decides (right_side model [] shares) (neg_ℚ one_ℚ)).0 passed.0;
      total = (eq-Decides (cost model shares) t).0 passed.1;
    }

never : (p q : Option Operation) (r s : Bool) → r ≡ true → s ≡ true → costed p r q s ≡ No → ⊥
never None None true true e f g = cc
never None None true false e f g = cc
never None None false s e f g = cc
never None (Some o) true s e f g = cc
never None (Some o) false s e f g = cc
never (Some o) q r s e f g = cc

pub cost_no_law : CostNoLaw
cost_no_law model shares t h e =
    never (right model shares t) (sum model shares t) (is_right model shares t) (is_sum model shares t)
    ((eq-Decides (right_side model [] shares) (neg_ℚ one_ℚ)).1 h.right) ((eq-Decides (cost model shares) t).1 h.total) e

pub priced_law : PriceLaw → PricedLaw
priced_law least model set shares t z c h price =
    let weighting : IsWeighting model set shares = record {
      nonnegative = All-weaker (λ (s : Share). zero_ℚ <ℚ s.weight) (λ (s : Share). zero_ℚ ≤ℚ s.weight) (λ s w. le_of_lt_ℚ w) shares c.positive;
      there = c.there;
      cancels = c.cancels;
      contradicts = h.right;
    } in
    let none_less : (others : List Share) → IsWeighting model set others → t ≤ℚ cost model others = least model set t z price in
    (record { weighting = weighting; cheapest = λ others w. subst (λ (q : ℚ). q ≤ℚ cost model others) (sym h.total) (none_less others w) }, none_less)
