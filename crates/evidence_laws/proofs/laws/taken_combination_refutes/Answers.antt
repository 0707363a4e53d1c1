use Rattle.certs.proofs.Sound.{refuted_law}
use Rattle.evidence_laws.proofs.laws.taken_combination_refutes.Goals as goal

pub returns : goal.returns
returns c = refuted_law
