use Rattle.trace_back.proofs.Whole.{objective_stays_law}
use Rattle.trace_back.proofs.laws.objective_stays.Goals as goal

pub returns : goal.returns
returns c = objective_stays_law
