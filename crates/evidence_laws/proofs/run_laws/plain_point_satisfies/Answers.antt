use Rattle.certs.proofs.PlainPoints.{plain_point}
use Rattle.evidence_laws.proofs.run_laws.plain_point_satisfies.Goals as goal

pub returns : goal.returns
returns c = plain_point
