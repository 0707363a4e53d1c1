use Rattle.std.proofs.Common.{subst}
use Rattle.lp_model.specs.MemberSets.{SetValue}
use Rattle.quick_answers.specs.Best.{IsBestOf}
use Rattle.analysis.specs.Answers.{budgets_of}
use Rattle.analysis.proofs.Objectives.{best_found}
use Rattle.analysis.proofs.diagnosing.quickly_diagnosed.Goals as goal

pub told-requires-clause-found : goal.told-requires-clause-found
told-requires-clause-found c =
    let model = c.args.model.now in
    let found = c.in-Some.found in
    best_found model (budgets_of c.args.budgets) found (subst (λ (s : SetValue). IsBestOf model s.members found) c.requires c.in-Some.ensures.found)
