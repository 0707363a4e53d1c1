use Rattle.evidence_laws.proofs.Missed.{least_law}
use Rattle.evidence_laws.proofs.laws.least_is_bounded.Goals as goal

pub returns : goal.returns
returns c = least_law
