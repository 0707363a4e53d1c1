use Rattle.std.proofs.Common.{◌++◌, ◌∙◌, ap}
use Rattle.report_text.specs.Grammar.{phrases_text}
use Rattle.report_printer.specs.Printing.{head_phrases}
use Rattle.report_printer.proofs.Printed.{head_ended}
use Rattle.report_printer.proofs.heads.put_head.Goals as goal

pub returns : goal.returns
returns c =
    let model = c.args.model.now in
    head_ended model c.notes-note-items.result.now c.loop-note.note-index c.args.into.now.items _ _ c.loop-note-test.false c.in_ok-push_line.ensures c.loop-note.invariant.left
    ∙ ap (λ notes. c.args.into.now.items ++ phrases_text model (head_phrases notes)) c.notes-note-items.ensures
