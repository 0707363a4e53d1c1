use Rattle.std.proofs.Common.{◌≡◌, drop}
use Rattle.rational.specs.Rational.{◌+ℚ◌}
use Rattle.frac128.specs.Limit.{limit}
use Rattle.frac128.specs.Calculation.{first_wide, product_steps}
use Rattle.certs.specs.Alternative.{cost, source_cost}
use Rattle.price_checks.specs.Costs.{cost_operations}
use Rattle.price_checks.proofs.costs.cost.Given as goal

-- the sum so far and that of the shares left make the cost, and the first wide operation is still to come
abbrev pub invariant-loop-share : goal.invariant-loop-share
invariant-loop-share l = record {
  value : l.sum +ℚ cost l.model (drop l.share-index l.shares) ≡ cost l.model l.shares;
  width : first_wide limit (product_steps (λ s. source_cost l.model s.source) (λ s. s.weight) l.sum (drop l.share-index l.shares)) ≡ first_wide limit (cost_operations l.model l.shares);
}
