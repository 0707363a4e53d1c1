use Rattle.std.proofs.Common.{refl, sym, subst}
use Rattle.std.specs.Prelude.{IfOk}
use Rattle.lp_model.specs.Program.{Program}
use Rattle.report_text.specs.declared.report.Command.{Command}
use Rattle.report_printer.specs.Printing.{IsKnownAnswer}
use Rattle.analysis.specs.Answers.{IsNext, budgets_of, settings_of}
use Rattle.analysis.proofs.Nexts.{asked_nexts, budget_next, known_replies, known_reply, replied_next, replied_nexts}
use Rattle.analysis.proofs.Known.{known_check, known_diagnosis, known_relaxation, known_search}
use Rattle.analysis.proofs.answering.answer.Goals as goal

pub returns-in-Edit-clause-next : goal.returns-in-Edit-clause-next
returns-in-Edit-clause-next c =
    subst (λ (command : Command). IfOk c.take_edit.result (IsNext c.args.session.now c.take_edit.new.self (settings_of c.args.settings) command)) (sym c.in-Edit.is)
    (replied_nexts c.args.session.now (settings_of c.args.settings) (Command.Edit c.in-Edit.edit) c.take_edit.new.self c.take_edit.result c.take_edit.ensures.taken)

pub returns-in-Undo-clause-next : goal.returns-in-Undo-clause-next
returns-in-Undo-clause-next c =
    subst (λ (command : Command). IsNext c.args.session.now c.take_undo.new.self (settings_of c.args.settings) command c.take_undo.result) (sym c.in-Undo.is)
    (replied_next c.args.session.now (settings_of c.args.settings) Command.Undo c.take_undo.result c.take_undo.new.self c.take_undo.ensures.taken)

pub returns-in-Check-clause-next : goal.returns-in-Check-clause-next
returns-in-Check-clause-next c =
    subst (λ (command : Command). IfOk c.check.result (IsNext c.args.session.now c.args.session.now (settings_of c.args.settings) command)) (sym c.in-Check.is)
    (asked_nexts c.args.session.now (settings_of c.args.settings) Command.Check c.model.result.now c.check.result (λ first before. refl) c.model.ensures c.check.ensures)

pub returns-in-Iis-clause-next : goal.returns-in-Iis-clause-next
returns-in-Iis-clause-next c =
    subst (λ (command : Command). IfOk c.search.result (IsNext c.args.session.now c.args.session.now (settings_of c.args.settings) command)) (sym c.in-Iis.is)
    (asked_nexts c.args.session.now (settings_of c.args.settings) (Command.Iis c.in-Iis.method) c.model-in-Iis.result.now c.search.result (λ first before. refl) c.model-in-Iis.ensures c.search.ensures)

pub returns-in-Unbounded-clause-next : goal.returns-in-Unbounded-clause-next
returns-in-Unbounded-clause-next c =
    subst (λ (command : Command). IfOk c.diagnosis.result (IsNext c.args.session.now c.args.session.now (settings_of c.args.settings) command)) (sym c.in-Unbounded.is)
    (asked_nexts c.args.session.now (settings_of c.args.settings) Command.Unbounded c.model-in-Unbounded.result.now c.diagnosis.result (λ first before. refl) c.model-in-Unbounded.ensures c.diagnosis.ensures)

pub returns-in-Relax-clause-next : goal.returns-in-Relax-clause-next
returns-in-Relax-clause-next c =
    subst (λ (command : Command). IfOk c.relaxation.result (IsNext c.args.session.now c.args.session.now (settings_of c.args.settings) command)) (sym c.in-Relax.is)
    (asked_nexts c.args.session.now (settings_of c.args.settings) Command.Relax c.model-in-Relax.result.now c.relaxation.result (λ first before. refl) c.model-in-Relax.ensures c.relaxation.ensures)

pub returns-in-Reduce-clause-next : goal.returns-in-Reduce-clause-next
returns-in-Reduce-clause-next c =
    subst (λ (command : Command). IfOk c.reduction.result (IsNext c.args.session.now c.args.session.now (settings_of c.args.settings) command)) (sym c.in-Reduce.is)
    (asked_nexts c.args.session.now (settings_of c.args.settings) Command.Reduce c.model-in-Reduce.result.now c.reduction.result (λ first before. refl) c.model-in-Reduce.ensures c.reduction.ensures.right)

pub returns-in-Pivots-clause-next : goal.returns-in-Pivots-clause-next
returns-in-Pivots-clause-next c = budget_next c.args.session.now (settings_of c.args.settings) c.args.command.now c.in-Pivots.is

pub returns-in-Edit-clause-known : goal.returns-in-Edit-clause-known
returns-in-Edit-clause-known c = known_replies c.take_edit.new.self.model c.take_edit.result c.take_edit.ensures.reply

pub returns-in-Undo-clause-known : goal.returns-in-Undo-clause-known
returns-in-Undo-clause-known c = known_reply c.take_undo.new.self.model c.take_undo.result c.take_undo.ensures.reply

pub returns-in-Check-clause-known : goal.returns-in-Check-clause-known
returns-in-Check-clause-known c = subst (λ (p : Program). IfOk c.check.result (IsKnownAnswer p)) c.model.ensures (known_check c.model.result.now (budgets_of c.args.settings.budgets) c.check.result c.check.ensures)

pub returns-in-Iis-clause-known : goal.returns-in-Iis-clause-known
returns-in-Iis-clause-known c = subst (λ (p : Program). IfOk c.search.result (IsKnownAnswer p)) c.model-in-Iis.ensures (known_search c.in-Iis.method c.model-in-Iis.result.now (budgets_of c.args.settings.budgets) c.search.result c.search.ensures)

pub returns-in-Unbounded-clause-known : goal.returns-in-Unbounded-clause-known
returns-in-Unbounded-clause-known c = subst (λ (p : Program). IfOk c.diagnosis.result (IsKnownAnswer p)) c.model-in-Unbounded.ensures (known_diagnosis c.model-in-Unbounded.result.now (budgets_of c.args.settings.budgets) c.diagnosis.result c.diagnosis.ensures)

pub returns-in-Relax-clause-known : goal.returns-in-Relax-clause-known
returns-in-Relax-clause-known c = subst (λ (p : Program). IfOk c.relaxation.result (IsKnownAnswer p)) c.model-in-Relax.ensures (known_relaxation c.model-in-Relax.result.now (budgets_of c.args.settings.budgets) c.relaxation.result c.relaxation.ensures)
