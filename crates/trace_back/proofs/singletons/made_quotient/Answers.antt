use Rattle.std.proofs.Common.{sym, ◌∙◌}
use Rattle.certs.specs.Improves.{magnitude}
use Rattle.reductions.proofs.WeightSides.{magnitude_some}
use Rattle.trace_back.proofs.Pairs.{quotient_none, single_none}
use Rattle.trace_back.proofs.singletons.made_quotient.Goals as goal

pub quotient-requires : goal.quotient-requires
quotient-requires c = λ e. magnitude_some c.args.factor c.requires (sym c.magnitude.ensures ∙ e)

pub returns-in-None : goal.returns-in-None
returns-in-None c = (
  c.whole.ensures ∙ sym (quotient_none c.args.made c.in-None.is (magnitude c.args.factor) c.args.weight),
  single_none c.args.made c.in-None.is c.args.factor c.args.weight,
)
