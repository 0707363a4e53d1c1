use Rattle.branch_proof.proofs.Ends.{one_tree_end_law}
use Rattle.branch_proof.proofs.laws.one_tree_end.Goals as goal

pub returns : goal.returns
returns c = one_tree_end_law
