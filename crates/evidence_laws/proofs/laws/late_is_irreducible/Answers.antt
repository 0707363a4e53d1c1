use Rattle.certs.proofs.Filters.{late_law}
use Rattle.evidence_laws.proofs.laws.late_is_irreducible.Goals as goal

pub returns : goal.returns
returns c = late_law
