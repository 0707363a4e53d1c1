use Rattle.analysis.proofs.InBox.{nodes_in_box}
use Rattle.analysis.proofs.answering.box_has_nodes_enough.Goals as goal

pub returns : goal.returns
returns c = nodes_in_box
