use Rattle.std.proofs.Common.{◌∙◌, sym, true, false}
use Rattle.report_text.proofs.Taken.{stands_after, stands_undone, undone_is, none_left, fewer_left}
use Rattle.report_text.proofs.command_session.CommandSession.rewind.Goals as goal

pub loop-self-init : goal.loop-self-init
loop-self-init c = λ first before is. stands_after first before c.self.inside.session.held (c.self.view_is ∙ is)

pub loop-self-smaller : goal.loop-self-smaller
loop-self-smaller c =
    fewer_left c.loop-self.self-inside.session.held c.undo.new.self.held
    (undone_is c.loop-self.self-inside.session.held c.undo.result true c.undo.new.self.held (sym c.loop-self-test.true ∙ c.is_ok.ensures.value) c.undo.ensures.undone)

pub loop-self-preserved : goal.loop-self-preserved
loop-self-preserved c = λ first before is.
    stands_undone first c.loop-self.self-inside.session.held true c.undo.new.self.held (c.loop-self.invariant first before is)
    (undone_is c.loop-self.self-inside.session.held c.undo.result true c.undo.new.self.held (sym c.loop-self-test.true ∙ c.is_ok.ensures.value) c.undo.ensures.undone)

pub returns : goal.returns
returns c = λ first before is.
    none_left first c.loop-self.self-inside.session.held c.undo.new.self.held (c.loop-self.invariant first before is)
    (undone_is c.loop-self.self-inside.session.held c.undo.result false c.undo.new.self.held (sym c.loop-self-test.false ∙ c.is_ok.ensures.value) c.undo.ensures.undone)
