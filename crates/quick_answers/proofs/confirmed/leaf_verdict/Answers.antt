use Rattle.quick_answers.proofs.Confirming.{leaf_confirmed}
use Rattle.quick_answers.proofs.confirmed.leaf_verdict.Goals as goal

pub returns : goal.returns
returns c = λ model set combination ordered. leaf_confirmed model set c.args.combo c.in-Ok.proof combination ordered c.in-Ok.ensures
