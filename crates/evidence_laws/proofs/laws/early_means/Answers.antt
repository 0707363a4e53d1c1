use Rattle.evidence_laws.proofs.Meaning.{early_means_law}
use Rattle.evidence_laws.proofs.laws.early_means.Goals as goal

pub returns : goal.returns
returns c = early_means_law
