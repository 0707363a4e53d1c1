use Rattle.alt_polyhedron.proofs.Formed.{apart_law}
use Rattle.alt_polyhedron.proofs.laws.alternative_systems_are_apart.Goals as goal

pub returns : goal.returns
returns c = apart_law
