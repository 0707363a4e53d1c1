use Rattle.trace_back.proofs.Whole.{once_law}
use Rattle.trace_back.proofs.laws.shares_come_once.Goals as goal

pub returns : goal.returns
returns c = once_law
