use Rattle.std.proofs.Common.{◌∙◌, sym, subst, IfOk, Ok, Err, Some}
use Rattle.report_text.specs.declared.report.Command.{Command}
use Rattle.report_text.specs.Session.{EditsBy, Takes}
use Rattle.report_text.proofs.Taken.{edit_taken, unknown_taken, same_taken}
use Rattle.report_text.proofs.command_session.CommandSession.take_edit.Goals as goal
use Rattle.report_text.proofs.command_session.CommandSession.take_edit.Goals.{in-Ok, in-Err-UnknownName, in-Err-NoChange}

pub returns-clause-taken : goal.returns-clause-taken
returns-clause-taken c =
    let old = c.args.self.now in
    let e = c.args.edit.now in
    let new = c.edit.new.self.held in
    let start = c.in_ok-reserve.ensures.held ∙ c.self.view_is in
    elim c.match-edit.branch as (λ b. IfOk c.match-edit.result (λ answer. Takes old (Command.Edit e) (Some answer) new)) [
      | in-Ok w ↦
          subst (λ r. IfOk r (λ answer. Takes old (Command.Edit e) (Some answer) new)) (sym w.result-is)
          (edit_taken old e new (subst (λ v. EditsBy v e (Ok w.in-Ok.field-0) new) start w.in-Ok.ensures.edited))
      | in-Err-UnknownName w ↦
          subst (λ r. IfOk r (λ answer. Takes old (Command.Edit e) (Some answer) new)) (sym w.result-is)
          (unknown_taken old e new (subst (λ stop. EditsBy old e (Err stop) new) w.in-Err-UnknownName.field-0-is (subst (λ v. EditsBy v e (Err w.in-Err-UnknownName.field-0) new) start w.in-Err-UnknownName.ensures.edited)))
      | in-Err-NoChange w ↦
          subst (λ r. IfOk r (λ answer. Takes old (Command.Edit e) (Some answer) new)) (sym w.result-is)
          (same_taken old e new (subst (λ stop. EditsBy old e (Err stop) new) w.in-Err-NoChange.field-0-is (subst (λ v. EditsBy v e (Err w.in-Err-NoChange.field-0) new) start w.in-Err-NoChange.ensures.edited)))
    ]
