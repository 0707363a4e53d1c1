use Rattle.reductions.proofs.Next.{one_reduction}
use Rattle.reductions.proofs.laws.one_reduction.Goals as goal

pub returns : goal.returns
returns c = one_reduction
