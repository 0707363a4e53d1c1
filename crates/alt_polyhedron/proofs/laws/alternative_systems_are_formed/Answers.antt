use Rattle.alt_polyhedron.proofs.Formed.{formed_law}
use Rattle.alt_polyhedron.proofs.laws.alternative_systems_are_formed.Goals as goal

pub returns : goal.returns
returns c = formed_law
