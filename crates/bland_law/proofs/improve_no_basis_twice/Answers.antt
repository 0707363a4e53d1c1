use Rattle.bland_law.proofs.Climbs.{improve_no_basis_twice_law}
use Rattle.bland_law.proofs.improve_no_basis_twice.Goals as goal

pub returns : goal.returns
returns c = improve_no_basis_twice_law
