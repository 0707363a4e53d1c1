use Rattle.bland_law.proofs.Endings.{few_pivots_law}
use Rattle.bland_law.proofs.few_pivots.Goals as goal

pub returns : goal.returns
returns c = few_pivots_law
