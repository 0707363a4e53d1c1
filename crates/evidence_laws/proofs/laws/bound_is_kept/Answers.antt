use Rattle.evidence_laws.proofs.Bounded.{bound_law}
use Rattle.evidence_laws.proofs.laws.bound_is_kept.Goals as goal

pub returns : goal.returns
returns c = bound_law
