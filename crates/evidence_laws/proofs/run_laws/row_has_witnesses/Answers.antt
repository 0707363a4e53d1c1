use Rattle.evidence_laws.proofs.CoresWitness.{witness_law}
use Rattle.evidence_laws.proofs.run_laws.row_has_witnesses.Goals as goal

pub returns : goal.returns
returns c = witness_law
