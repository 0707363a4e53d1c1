use Rattle.evidence_laws.proofs.Missed.{weighed_law}
use Rattle.evidence_laws.proofs.laws.weighed_is_bounded.Goals as goal

pub returns : goal.returns
returns c = weighed_law
