use Rattle.reductions.proofs.WeightDeciding.{deciding_law}
use Rattle.reductions.proofs.laws.deciding_is_combination.Goals as goal

pub returns : goal.returns
returns c = deciding_law
