use Rattle.certs.proofs.Refuted.{one_tree_law}
use Rattle.evidence_laws.proofs.laws.nodes_tell_the_tree.Goals as goal

pub returns : goal.returns
returns c = one_tree_law
