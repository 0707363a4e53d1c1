use Rattle.certs.proofs.Passed.{point_check_law}
use Rattle.evidence_laws.proofs.laws.checked_point.Goals as goal

pub returns : goal.returns
returns c = point_check_law
