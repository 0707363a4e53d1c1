use Rattle.presolve_laws.proofs.Ends.{stopped_law}
use Rattle.presolve_laws.proofs.stopped_is_not_eased.Goals as goal

pub returns : goal.returns
returns c = stopped_law
