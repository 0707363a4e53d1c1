use Rattle.certs.proofs.Tableaus.{pivot_law}
use Rattle.evidence_laws.proofs.run_laws.pivot_keeps_system.Goals as goal

pub returns : goal.returns
returns c = pivot_law
