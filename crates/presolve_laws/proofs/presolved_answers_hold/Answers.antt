use Rattle.presolve_laws.proofs.PresolveAnswers.{presolved_holds}
use Rattle.presolve_laws.proofs.presolved_answers_hold.Goals as goal

pub returns : goal.returns
returns c = presolved_holds
