use Rattle.price_checks.proofs.Cost.{cost_law}
use Rattle.price_checks.proofs.costs.checked_cost.Goals as goal

pub returns : goal.returns
returns c = cost_law
