use Rattle.branch_proof.proofs.Ends.{stop_law}
use Rattle.branch_proof.proofs.laws.stop_is_exact.Goals as goal

pub returns : goal.returns
returns c = stop_law
