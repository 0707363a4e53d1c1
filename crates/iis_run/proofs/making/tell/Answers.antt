use Rattle.std.proofs.Common.{◌≤◌, subst, arith}
use Rattle.lp_model.specs.Program.{Program}
use Rattle.report_text.specs.declared.report.Command.TheVariants.{Iis}
use Rattle.report_text.specs.declared.report.Method.TheVariants.{Sensitivity}
use Rattle.analysis.specs.Right.{Right, first_settings}
use Rattle.iis_run.specs.Plans.{IsPlanAnswer}
use Rattle.iis_run.proofs.Summaries.{found}
use Rattle.iis_run.proofs.making.tell.Goals as goal

pub returns : goal.returns
returns c =
    let n = c.args.periods in
    let answer = c.in_ok-answer.answer in
    let some : 1 ≤ n = omega arith in
    let right : IsPlanAnswer n answer = subst (λ (p : Program). Right p first_settings (Iis Sensitivity) answer) c.in_ok-model.ensures c.in_ok-answer.ensures.right in
    record { answer = answer; found = found n (c.plan_is_unsatisfiable.ensures n some) answer right; text_is = c.in_ok-text.ensures; status_is = c.status.ensures }
