use Rattle.certs.proofs.Feasible.{feasible_law}
use Rattle.evidence_laws.proofs.run_laws.settled_is_solution.Goals as goal

pub returns : goal.returns
returns c = feasible_law
