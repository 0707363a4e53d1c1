use Rattle.std.proofs.Common.{sym, subst, Option}
use Rattle.std.specs.Prelude.{IfSome}
use Rattle.lp_model.specs.MemberSets.{SetValue}
use Rattle.quick_answers.specs.Cores.{IsWeighed}
use Rattle.report_text.specs.declared.report.Answer.{Answer}
use Rattle.analysis.specs.Answers.{budgets_of}
use Rattle.analysis.specs.Right.{IsWeighedTold}
use Rattle.analysis.proofs.Weighed.{if_some}
use Rattle.analysis.proofs.weighing.quickly_weighed.Goals as goal

pub told-requires : goal.told-requires
told-requires c = subst (λ (s : SetValue). IsWeighed c.args.model.now s.members c.in_ok-found.found) c.requires c.in_ok-found.ensures.found

pub returns : goal.returns
returns c =
    let right = IsWeighedTold c.args.model.now (budgets_of c.args.budgets) in
    subst (λ (told : Option Answer). IfSome told right) (sym c.ok.ensures.value) (if_some right c.told.result (c.told.ensures (budgets_of c.args.budgets)))
