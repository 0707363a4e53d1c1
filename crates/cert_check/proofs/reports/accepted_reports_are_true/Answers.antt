use Rattle.cert_check.proofs.Believed.{accepted_is_true}
use Rattle.cert_check.proofs.reports.accepted_reports_are_true.Goals as goal

pub returns : goal.returns
returns c =
    accepted_is_true
    (record {
      rays = c.ray_is_unbounded.ensures;
      bounds = c.bound_is_valid.ensures;
      parts = c.parts_show_least.ensures;
      violations = c.checked_violation.ensures;
      reached = c.reached_is_least.ensures;
      costs = c.checked_cost.ensures;
      prices = c.price_shows_cheapest.ensures;
    })
