use Rattle.certs.proofs.Refused.{ray_no_law}
use Rattle.evidence_laws.proofs.laws.refused_ray.Goals as goal

pub returns : goal.returns
returns c = ray_no_law
