use Rattle.bland_law.proofs.Endings.{no_basis_twice_law}
use Rattle.bland_law.proofs.no_basis_twice.Goals as goal

pub returns : goal.returns
returns c = no_basis_twice_law
