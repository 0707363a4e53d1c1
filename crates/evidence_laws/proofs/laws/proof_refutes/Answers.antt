use Rattle.certs.proofs.Refuted.{proof_law}
use Rattle.evidence_laws.proofs.laws.proof_refutes.Goals as goal

pub returns : goal.returns
returns c = proof_law
