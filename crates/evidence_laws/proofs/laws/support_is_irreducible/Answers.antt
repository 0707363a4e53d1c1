use Rattle.evidence_laws.proofs.Support.{support_law}
use Rattle.evidence_laws.proofs.laws.support_is_irreducible.Goals as goal

pub returns : goal.returns
returns c = support_law
