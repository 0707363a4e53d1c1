use Rattle.certs.proofs.Passed.{bound_check_law}
use Rattle.evidence_laws.proofs.laws.checked_bound.Goals as goal

pub returns : goal.returns
returns c = bound_check_law
