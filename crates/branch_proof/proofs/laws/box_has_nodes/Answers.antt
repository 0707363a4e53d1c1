use Rattle.branch_proof.proofs.Boxes.{box_law}
use Rattle.branch_proof.proofs.laws.box_has_nodes.Goals as goal

pub returns : goal.returns
returns c = box_law
