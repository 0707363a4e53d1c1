use Rattle.std.proofs.Common.{◌≡◌, ◌∙◌, sym, subst}
use Rattle.text_fields.specs.declared.faults.ReadFault.{ReadFault}
use Rattle.text_fields.specs.declared.faults.ReadFault.TheVariants.{Stop, Memory}
use Rattle.model_maker.specs.Making.{IsPlanText}
use Rattle.model_maker.specs.PlanProgram.{plan_program}
use Rattle.model_maker.specs.PlanLaws.{IsReadAs}
use Rattle.iis_run.proofs.making.read_plan.Goals as goal

pub read_lp-requires : goal.read_lp-requires
read_lp-requires c =
    let n = c.args.periods in
    let bytes = c.as_slice.result.now in
    let text : IsPlanText n bytes = subst (IsPlanText n) (sym c.as_slice.ensures.value) c.in_ok-text.ensures in
    let read : IsReadAs (plan_program n) bytes = c.plan_is_read.ensures n bytes text in
    read.few

pub unreachable-requires : goal.unreachable-requires
unreachable-requires c =
    let n = c.args.periods in
    let bytes = c.as_slice.result.now in
    let text : IsPlanText n bytes = subst (IsPlanText n) (sym c.as_slice.ensures.value) c.in_ok-text.ensures in
    let read : IsReadAs (plan_program n) bytes = c.plan_is_read.ensures n bytes text in
    let fault : ReadFault = c.in-Err-Stop.field-0 in
    let want : Stop c.in-Err-Stop.field-0-0 ≡ Memory = sym c.in-Err-Stop.field-0-is ∙ read.never_refused fault c.in-Err-Stop.ensures in
    cc
