use Rattle.certs.proofs.Refused.{price_no_law}
use Rattle.evidence_laws.proofs.laws.refused_price.Goals as goal

pub returns : goal.returns
returns c = price_no_law
