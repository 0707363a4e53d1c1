use Rattle.certs.proofs.Refused.{bound_no_law}
use Rattle.evidence_laws.proofs.laws.refused_bound.Goals as goal

pub returns : goal.returns
returns c = bound_no_law
