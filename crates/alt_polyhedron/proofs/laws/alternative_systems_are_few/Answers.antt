use Rattle.alt_polyhedron.proofs.Formed.{few_law}
use Rattle.alt_polyhedron.proofs.laws.alternative_systems_are_few.Goals as goal

pub returns : goal.returns
returns c = few_law
