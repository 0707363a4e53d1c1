use Rattle.evidence_laws.proofs.Bounded.{valid_bound_law}
use Rattle.evidence_laws.proofs.laws.bound_is_valid.Goals as goal

pub returns : goal.returns
returns c = valid_bound_law
