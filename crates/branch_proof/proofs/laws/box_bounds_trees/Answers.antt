use Rattle.branch_proof.proofs.Boxes.{size_law}
use Rattle.branch_proof.proofs.laws.box_bounds_trees.Goals as goal

pub returns : goal.returns
returns c = size_law
