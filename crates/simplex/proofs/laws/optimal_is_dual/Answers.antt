use Rattle.simplex.proofs.Optimal.{optimal_dual_law}
use Rattle.simplex.proofs.laws.optimal_is_dual.Goals as goal

pub returns : goal.returns
returns c = optimal_dual_law
