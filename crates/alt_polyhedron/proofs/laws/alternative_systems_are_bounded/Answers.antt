use Rattle.alt_polyhedron.proofs.Bounded.{bounded_law}
use Rattle.alt_polyhedron.proofs.laws.alternative_systems_are_bounded.Goals as goal

pub returns : goal.returns
returns c = bounded_law
