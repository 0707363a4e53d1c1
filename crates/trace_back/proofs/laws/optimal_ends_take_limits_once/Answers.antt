use Rattle.trace_back.proofs.Whole.{optimal_once_law}
use Rattle.trace_back.proofs.laws.optimal_ends_take_limits_once.Goals as goal

pub returns : goal.returns
returns c = optimal_once_law
