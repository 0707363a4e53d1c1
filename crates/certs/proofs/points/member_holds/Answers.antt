use Rattle.std.proofs.Common.{sym, ◌∙◌}
use Rattle.lp_model.specs.Satisfaction.{values_at}
use Rattle.certs.proofs.Held.{answered, absent}
use Rattle.certs.proofs.points.member_holds.Goals as goal

pub returns-then-is_present : goal.returns-then-is_present
returns-then-is_present c = answered c.args.model.now (values_at c.args.values.now) c.args.member c.holds.result c.holds.ensures

pub returns-else-is_present : goal.returns-else-is_present
returns-else-is_present c = absent c.args.model.now (values_at c.args.values.now) c.args.member (sym c.is_present.ensures.there ∙ c.if-is_present.false)
