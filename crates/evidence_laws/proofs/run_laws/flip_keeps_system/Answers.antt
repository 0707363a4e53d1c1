use Rattle.certs.proofs.Tableaus.{flip_law}
use Rattle.evidence_laws.proofs.run_laws.flip_keeps_system.Goals as goal

pub returns : goal.returns
returns c = flip_law
