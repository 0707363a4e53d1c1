use Rattle.evidence_laws.proofs.Missed.{total_law}
use Rattle.evidence_laws.proofs.laws.total_is_bounded.Goals as goal

pub returns : goal.returns
returns c = total_law
