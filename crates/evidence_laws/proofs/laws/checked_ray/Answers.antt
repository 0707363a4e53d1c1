use Rattle.certs.proofs.Passed.{ray_check_law}
use Rattle.evidence_laws.proofs.laws.checked_ray.Goals as goal

pub returns : goal.returns
returns c = ray_check_law
