use Rattle.std.proofs.Common.{◌≡◌}
use Rattle.frac128.specs.Limit.{limit}
use Rattle.lp_model.specs.Satisfaction.{values_at}
use Rattle.certs.specs.declared.evidence.Checked.TheVariants.{Yes}
use Rattle.certs.specs.Checks.{outcome, price_steps}
use Rattle.price_checks.proofs.prices.check_price.Goals as goal

pub returns-clause-least : goal.returns-clause-least
returns-clause-least c = λ yes shares weighting.
    let model = c.args.model.now in
    let set = c.args.set.now.members in
    let z = values_at c.args.price.now.values in
    let taken : outcome (price_steps model set c.args.total z) ≡ Yes = cc in
    c.price_is_least.ensures model set c.args.total z (c.checked_price.ensures limit model set c.args.total z taken) shares weighting
