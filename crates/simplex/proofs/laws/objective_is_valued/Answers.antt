use Rattle.simplex.proofs.Optimal.{objective_value_law}
use Rattle.simplex.proofs.laws.objective_is_valued.Goals as goal

pub returns : goal.returns
returns c = objective_value_law
