use Rattle.presolve_laws.proofs.PresolveAnswers.{presolved_ordered}
use Rattle.presolve_laws.proofs.presolved_leaves_stand_in_order.Goals as goal

pub returns : goal.returns
returns c = presolved_ordered
