use Rattle.trace_back.proofs.Whole.{point_value_law}
use Rattle.trace_back.proofs.laws.values_come_back.Goals as goal

pub returns : goal.returns
returns c = point_value_law
