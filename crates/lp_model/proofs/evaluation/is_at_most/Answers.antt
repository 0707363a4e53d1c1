use Rattle.rational.proofs.Compare.{le-Decides}
use Rattle.lp_model.proofs.evaluation.is_at_most.Goals as goal

pub returns-in-Some : goal.returns-in-Some
returns-in-Some c = rw (c.in-Some.is, c.le.ensures) (le-Decides c.args.value c.in-Some.upper)
