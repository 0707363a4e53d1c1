use Rattle.std.proofs.Common.{subst}
use Rattle.lp_model.specs.MemberSets.{SetValue}
use Rattle.relaxation.specs.Relaxed.{IsRelaxed}
use Rattle.analysis.specs.Answers.{budgets_of}
use Rattle.analysis.proofs.relaxing.quickly_relaxed.Goals as goal

pub told-requires-clause-found : goal.told-requires-clause-found
told-requires-clause-found c = subst (λ (s : SetValue). IsRelaxed c.args.model.now s.members c.in-Some.found) c.requires c.in-Some.ensures.found

pub returns : goal.returns
returns c = c.in_ok-answer.ensures (budgets_of c.args.budgets)
