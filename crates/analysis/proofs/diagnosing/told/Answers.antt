use Rattle.std.proofs.Common.{subst, Result}
use Rattle.certs.specs.declared.solving.Stop.{Stop}
use Rattle.unbounded.specs.declared.diagnosing.Diagnosis.{Diagnosis}
use Rattle.analysis.specs.Answers.{budgets_of}
use Rattle.analysis.specs.Objectives.{IsFoundBy}
use Rattle.analysis.proofs.Objectives.{found_runs, stop_told}
use Rattle.analysis.proofs.diagnosing.told.Goals as goal

pub stopped-requires : goal.stopped-requires
stopped-requires c =
    let model = c.args.model.now in
    let budgets = budgets_of c.args.budgets in
    found_runs model budgets c.in-Err.stop (subst (λ (r : Result Diagnosis Stop). IsFoundBy model budgets r) c.in-Err.is c.requires.found)

pub returns-in-Err : goal.returns-in-Err
returns-in-Err c =
    let model = c.args.model.now in
    let budgets = budgets_of c.args.budgets in
    let found = subst (λ (r : Result Diagnosis Stop). IsFoundBy model budgets r) c.in-Err.is c.requires.found in
    stop_told model budgets c.in-Err.stop c.stopped.result found c.stopped.ensures
