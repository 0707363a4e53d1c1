use Rattle.lp_model.specs.Members.{active_members}
use Rattle.analysis.specs.Answers.{budgets_of}
use Rattle.analysis.proofs.Asked.{all_served}
use Rattle.analysis.proofs.Objectives.{found_at}
use Rattle.analysis.proofs.diagnosing.diagnosed_by_run.Goals as goal

pub diagnose-found-requires-clause-served : goal.diagnose-found-requires-clause-served
diagnose-found-requires-clause-served c = all_served (active_members c.args.model.now)

pub told-requires-clause-found : goal.told-requires-clause-found
told-requires-clause-found c =
    let e = c.diagnose-found.ensures in
    found_at c.args.model.now (budgets_of c.args.budgets) c.quick_oracle-oracle.result.inner _ _ c.diagnose-found.result c.quick_oracle-oracle.ensures.inner e.found e.stop e.asked
