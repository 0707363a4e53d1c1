use Rattle.evidence_laws.proofs.Meaning.{late_means_law}
use Rattle.evidence_laws.proofs.laws.late_means.Goals as goal

pub returns : goal.returns
returns c = late_means_law
