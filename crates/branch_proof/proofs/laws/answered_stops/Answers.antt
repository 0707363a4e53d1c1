use Rattle.branch_proof.proofs.TreeStops.{reference_stopped}
use Rattle.branch_proof.proofs.laws.answered_stops.Goals as goal

pub returns : goal.returns
returns c = reference_stopped
