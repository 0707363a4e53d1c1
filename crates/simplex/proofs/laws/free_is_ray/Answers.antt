use Rattle.simplex.proofs.Free.{free_ray_law}
use Rattle.simplex.proofs.laws.free_is_ray.Goals as goal

pub returns : goal.returns
returns c = free_ray_law
