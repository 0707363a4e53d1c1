use Rattle.certs.proofs.Refuted.{combination_law}
use Rattle.evidence_laws.proofs.laws.combination_refutes.Goals as goal

pub returns : goal.returns
returns c = combination_law
