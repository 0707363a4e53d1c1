use Rattle.price_checks.proofs.Cost.{priced_law}
use Rattle.price_checks.proofs.costs.price_shows_cheapest.Goals as goal

pub returns : goal.returns
returns c = priced_law c.price_is_least.ensures
