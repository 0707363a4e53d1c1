use Rattle.unbounded.proofs.Duals.{program_dual}
use Rattle.unbounded.proofs.laws.dual_of_program.Goals as goal

pub returns : goal.returns
returns c = program_dual
