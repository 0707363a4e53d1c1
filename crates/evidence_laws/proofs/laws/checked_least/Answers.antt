use Rattle.certs.proofs.Passed.{least_check_law}
use Rattle.evidence_laws.proofs.laws.checked_least.Goals as goal

pub returns : goal.returns
returns c = least_check_law
