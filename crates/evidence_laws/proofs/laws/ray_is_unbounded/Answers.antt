use Rattle.evidence_laws.proofs.Bounded.{ray_law}
use Rattle.evidence_laws.proofs.laws.ray_is_unbounded.Goals as goal

pub returns : goal.returns
returns c = ray_law
