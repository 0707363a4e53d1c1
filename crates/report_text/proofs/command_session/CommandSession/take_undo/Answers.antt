use Rattle.std.proofs.Common.{sym, subst, Ok, Err, Some}
use Rattle.report_text.specs.declared.report.Command.{Command}
use Rattle.report_text.specs.Session.{Takes, UndoesBy}
use Rattle.report_text.proofs.Taken.{undo_taken, nothing_undone}
use Rattle.report_text.proofs.command_session.CommandSession.take_undo.Goals as goal
use Rattle.report_text.proofs.command_session.CommandSession.take_undo.Goals.{in-Ok, in-Err-NothingToUndo}

pub returns-clause-taken : goal.returns-clause-taken
returns-clause-taken c =
    let old = c.args.self.now in
    let new = c.undo.new.self.held in
    elim c.match-undo.branch as (λ b. Takes old Command.Undo (Some c.match-undo.result) new) [
      | in-Ok w ↦ subst (λ a. Takes old Command.Undo (Some a) new) (sym w.result-is) (undo_taken old new (subst (λ v. UndoesBy v (Ok w.in-Ok.field-0) new) c.self.view_is w.in-Ok.ensures.undone))
      | in-Err-NothingToUndo w ↦
          subst (λ a. Takes old Command.Undo (Some a) new) (sym w.result-is)
          (nothing_undone old new w.in-Err-NothingToUndo.field-0 (subst (λ v. UndoesBy v (Err w.in-Err-NothingToUndo.field-0) new) c.self.view_is w.in-Err-NothingToUndo.ensures.undone))
    ]
