use Rattle.additive_filter.proofs.Adding.{adding_law}
use Rattle.additive_filter.proofs.laws.adding_gives_early.Goals as goal

pub returns : goal.returns
returns c = adding_law
