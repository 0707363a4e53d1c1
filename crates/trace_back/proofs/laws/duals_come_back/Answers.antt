use Rattle.trace_back.proofs.Whole.{dual_back_law}
use Rattle.trace_back.proofs.laws.duals_come_back.Goals as goal

pub returns : goal.returns
returns c = dual_back_law
