use Rattle.std.proofs.Common.{sym, ◌∙◌, ap}
use Rattle.std.specs.Ordering.{is_lt}
use Rattle.rational.proofs.Compare.{lt_q-is}
use Rattle.simplex.proofs.choices.is_less.Goals as goal

pub returns : goal.returns
returns g c = c.is_lt.ensures ∙ ap is_lt (c.cmp.ensures ∙ g.met.N.Exact.order c.args.a c.args.b) ∙ sym (lt_q-is (g.N.Exact.value c.args.a) (g.N.Exact.value c.args.b))
