-- The check of a weighting's cost, as a report has a line for it, and what a combination's cost shows beside a price.
use Rattle.std.specs.Prelude.{◌≡◌, List, [], ◌∷◌}
use Rattle.rational.specs.Rational.{ℚ, eq_ℚ, neg_ℚ, zero_ℚ, one_ℚ, ◌≤ℚ◌}
use Rattle.rational.specs.Linear.{Assignment}
use Rattle.lp_model.specs.declared.members.Member.{Member}
use Rattle.lp_model.specs.Program.{Program}
use Rattle.frac128.specs.Calculation.{Calculation, product_steps}
use Rattle.certs.specs.declared.evidence.Share.{Share}
use Rattle.certs.specs.declared.evidence.Checked.TheVariants.{Yes, No}
use Rattle.certs.specs.Alternative.{IsCheapest, IsPrice, IsWeighting, cost, source_cost}
use Rattle.certs.specs.Checks.{Step, outcome, right_step}
use Rattle.certs.specs.Combination.{IsCombination, right_side}

-- the weighted sum, from 0: for each share what its source costs times its weight, and then plus
abbrev pub cost_operations : Program → List Share → Calculation
cost_operations model shares = product_steps (λ s. source_cost model s.source) (λ s. s.weight) zero_ℚ shares

-- the right side is -1, and the shares cost the total
abbrev pub cost_steps : Program → List Share → ℚ → List Step
cost_steps model shares t =
    right_step model [] shares (λ r. eq_ℚ r (neg_ℚ one_ℚ)) ∷ record { operations = cost_operations model shares; passes = eq_ℚ (cost model shares) t } ∷ []

-- the shares have the right side -1, and cost this much
pub record HasCost (model : Program) (shares : List Share) (t : ℚ) : Type 0 where
  pub right : right_side model [] shares ≡ neg_ℚ one_ℚ
  pub total : cost model shares ≡ t

-- ---- laws
-- a yes to a cost shows it
abbrev pub CostLaw : Type 0
CostLaw = (model : Program) (shares : List Share) (t : ℚ) → outcome (cost_steps model shares t) ≡ Yes → HasCost model shares t

-- and a no is never said of one that is right
abbrev pub CostNoLaw : Type 0
CostNoLaw = (model : Program) (shares : List Share) (t : ℚ) → HasCost model shares t → ¬ (outcome (cost_steps model shares t) ≡ No)

-- a combination whose right side is -1 is a cheapest weighting where its cost has a price, and no weighting costs less
abbrev pub PricedLaw : Type 0
PricedLaw = (model : Program) (set : List Member) (shares : List Share) (t : ℚ) (z : Assignment)
    → IsCombination model set [] shares → HasCost model shares t → IsPrice model set t z
    → IsCheapest model set shares × ((others : List Share) → IsWeighting model set others → t ≤ℚ cost model others)
