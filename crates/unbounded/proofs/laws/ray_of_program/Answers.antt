use Rattle.unbounded.proofs.Rays.{program_ray}
use Rattle.unbounded.proofs.laws.ray_of_program.Goals as goal

pub returns : goal.returns
returns c = program_ray
