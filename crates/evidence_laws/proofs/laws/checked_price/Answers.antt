use Rattle.certs.proofs.Passed.{price_check_law}
use Rattle.evidence_laws.proofs.laws.checked_price.Goals as goal

pub returns : goal.returns
returns c = price_check_law
