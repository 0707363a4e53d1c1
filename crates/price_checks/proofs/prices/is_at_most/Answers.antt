use Rattle.std.proofs.Common.{sym, ◌∙◌}
use Rattle.rational.proofs.Compare.{le_q-is}
use Rattle.price_checks.proofs.prices.is_at_most.Goals as goal

pub returns : goal.returns
returns c = c.le.ensures ∙ sym (le_q-is c.args.a c.args.b)
