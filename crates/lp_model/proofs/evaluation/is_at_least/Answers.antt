use Rattle.rational.proofs.Compare.{le-Decides}
use Rattle.lp_model.proofs.evaluation.is_at_least.Goals as goal

pub returns-in-Some : goal.returns-in-Some
returns-in-Some c = rw (c.in-Some.is, c.le.ensures) (le-Decides c.in-Some.lower c.args.value)
