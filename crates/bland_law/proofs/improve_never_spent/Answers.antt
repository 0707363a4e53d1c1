use Rattle.bland_law.proofs.Bases.{improve_never_spent_law}
use Rattle.bland_law.proofs.improve_never_spent.Goals as goal

pub returns : goal.returns
returns c = improve_never_spent_law
