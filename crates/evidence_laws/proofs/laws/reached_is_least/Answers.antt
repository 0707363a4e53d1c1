use Rattle.evidence_laws.proofs.Missed.{least_point_law}
use Rattle.evidence_laws.proofs.laws.reached_is_least.Goals as goal

pub returns : goal.returns
returns c = least_point_law
