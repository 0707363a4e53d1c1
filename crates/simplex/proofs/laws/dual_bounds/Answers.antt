use Rattle.simplex.proofs.Meaning.{dual_bound_law}
use Rattle.simplex.proofs.laws.dual_bounds.Goals as goal

pub returns : goal.returns
returns c = dual_bound_law
