use Rattle.model_maker.proofs.Stocks.{unsatisfiable}
use Rattle.model_maker.proofs.refutation.plan_is_unsatisfiable.Goals as goal

pub returns : goal.returns
returns c = unsatisfiable
