use Rattle.certs.proofs.Filters.{early_law}
use Rattle.evidence_laws.proofs.laws.early_is_irreducible.Goals as goal

pub returns : goal.returns
returns c = early_law
