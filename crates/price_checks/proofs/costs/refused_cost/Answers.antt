use Rattle.price_checks.proofs.Cost.{cost_no_law}
use Rattle.price_checks.proofs.costs.refused_cost.Goals as goal

pub returns : goal.returns
returns c = cost_no_law
