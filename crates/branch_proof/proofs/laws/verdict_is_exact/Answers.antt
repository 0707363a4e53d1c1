use Rattle.branch_proof.proofs.Ends.{verdict_law}
use Rattle.branch_proof.proofs.laws.verdict_is_exact.Goals as goal

pub returns : goal.returns
returns c = verdict_law
