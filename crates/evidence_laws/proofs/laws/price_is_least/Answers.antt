use Rattle.evidence_laws.proofs.Priced.{price_law}
use Rattle.evidence_laws.proofs.laws.price_is_least.Goals as goal

pub returns : goal.returns
returns c = price_law
