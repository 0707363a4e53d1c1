use Rattle.certs.proofs.Starts.{start_law}
use Rattle.evidence_laws.proofs.run_laws.start_is_of_system.Goals as goal

pub returns : goal.returns
returns c = start_law
