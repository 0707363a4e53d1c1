use Rattle.std.proofs.Common.{◌≡◌, drop}
use Rattle.rational.specs.Rational.{◌+ℚ◌, ◌*ℚ◌}
use Rattle.rational.specs.Sum.{sum_over}
use Rattle.rational.specs.Linear.{form_value}
use Rattle.frac128.specs.Limit.{limit}
use Rattle.frac128.specs.Calculation.{first_wide, product_steps}
use Rattle.lp_model.specs.Evaluation.{value_operations}
use Rattle.lp_model.specs.Satisfaction.{values_at}
use Rattle.certs.specs.Combination.{signed}
use Rattle.certs.specs.Checks.{signed_terms}
use Rattle.price_checks.proofs.sums.signed_value.Given as goal

-- the sum so far and that of the terms left make the value, and the first wide operation is still to come
abbrev pub invariant-loop-term : goal.invariant-loop-term
invariant-loop-term l = record {
  value : l.sum +ℚ sum_over (λ t. signed l.side t.factor *ℚ values_at l.values t.column) (drop l.term-index l.terms) ≡ signed l.side (form_value l.terms (values_at l.values));
  width : first_wide limit (product_steps (λ t. signed l.side t.factor) (λ t. values_at l.values t.column) l.sum (drop l.term-index l.terms)) ≡ first_wide limit (value_operations (signed_terms l.side l.terms) (values_at l.values));
}
