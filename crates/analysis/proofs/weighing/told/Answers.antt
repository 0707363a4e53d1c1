use Rattle.std.proofs.Common.{subst}
use Rattle.lp_model.specs.Members.{active_members}
use Rattle.quick_answers.specs.declared.cheapest.Weighed.{Weighed}
use Rattle.quick_answers.specs.Cores.{IsQuickCore, IsWeighed}
use Rattle.analysis.specs.Answers.{weighed_answer}
use Rattle.analysis.specs.Right.{IsWeighedTold}
use Rattle.analysis.proofs.Weighed.{if_told, weighed_right}
use Rattle.analysis.proofs.weighing.told.Goals as goal

pub returns-in-Core : goal.returns-in-Core
returns-in-Core c budgets =
    let model = c.args.model.now in
    let core = c.in-Core.core in
    let h : IsQuickCore model (active_members model) core = subst (λ (w : Weighed). IsWeighed model (active_members model) w) c.in-Core.is c.requires in
    if_told (IsWeighedTold model budgets) c.weighed_core.result (weighed_answer core.members core.witnesses.items core.proof (core.total, core.price)) c.weighed_core.ensures
    (weighed_right model core.members h.combo core.total core.price h.cheapest budgets core.witnesses.items core.proof c.stands_in_order.ensures.in_order h.leaf h.witnesses)
