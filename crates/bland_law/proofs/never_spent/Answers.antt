use Rattle.bland_law.proofs.Endings.{never_spent_law}
use Rattle.bland_law.proofs.never_spent.Goals as goal

pub returns : goal.returns
returns c = never_spent_law
