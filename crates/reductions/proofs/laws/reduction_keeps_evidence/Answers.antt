use Rattle.reductions.proofs.Whole.{trace_law}
use Rattle.reductions.proofs.laws.reduction_keeps_evidence.Goals as goal

pub returns : goal.returns
returns c = trace_law
