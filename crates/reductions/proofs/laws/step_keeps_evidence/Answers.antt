use Rattle.reductions.proofs.Whole.{step_law}
use Rattle.reductions.proofs.laws.step_keeps_evidence.Goals as goal

pub returns : goal.returns
returns c = step_law
