use Rattle.std.proofs.Common.{◌≡◌, drop}
use Rattle.rational.specs.Rational.{◌+ℚ◌, zero_ℚ}
use Rattle.rational.specs.Linear.{form_value}
use Rattle.frac128.specs.Limit.{limit}
use Rattle.frac128.specs.Calculation.{first_wide, product_steps}
use Rattle.lp_model.specs.Satisfaction.{values_at}
use Rattle.lp_model.proofs.evaluation.common_value.Given as goal

-- the sum so far and the value of the terms left are the whole value, and the first wide operation is still to come
abbrev pub invariant-loop-term : goal.invariant-loop-term
invariant-loop-term l = record {
  value : l.sum +ℚ form_value (drop l.term-index l.terms) (values_at l.values) ≡ form_value l.terms (values_at l.values);
  width : first_wide limit (product_steps (λ t. t.factor) (λ t. values_at l.values t.column) l.sum (drop l.term-index l.terms)) ≡ first_wide limit (product_steps (λ t. t.factor) (λ t. values_at l.values t.column) zero_ℚ l.terms);
}
