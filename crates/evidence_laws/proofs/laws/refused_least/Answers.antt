use Rattle.certs.proofs.Refused.{least_no_law}
use Rattle.evidence_laws.proofs.laws.refused_least.Goals as goal

pub returns : goal.returns
returns c = least_no_law
