use Rattle.bench.proofs.Served.{plain_served}
use Rattle.bench.proofs.asking.ask_presolved.Goals as goal

pub asked-end-requires-clause-served : goal.asked-end-requires-clause-served
asked-end-requires-clause-served c = plain_served c.in_ok-set.set.members
