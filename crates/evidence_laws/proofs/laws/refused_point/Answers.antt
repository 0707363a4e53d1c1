use Rattle.certs.proofs.Refused.{point_no_law}
use Rattle.evidence_laws.proofs.laws.refused_point.Goals as goal

pub returns : goal.returns
returns c = point_no_law
