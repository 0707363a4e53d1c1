use Rattle.trace_back.proofs.Whole.{ray_back_law}
use Rattle.trace_back.proofs.laws.rays_come_back.Goals as goal

pub returns : goal.returns
returns c = ray_back_law
