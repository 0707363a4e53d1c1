use Rattle.simplex.proofs.Meaning.{ray_stays_law}
use Rattle.simplex.proofs.laws.ray_stays.Goals as goal

pub returns : goal.returns
returns c = ray_stays_law
