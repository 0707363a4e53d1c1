use Rattle.report_reader.specs.Things.{notes}
use Rattle.report_reader.proofs.Passing.{Looping, room}
use Rattle.report_reader.proofs.lists.read_notes.Given as goal

abbrev pub invariant-loop-note : goal.invariant-loop-note
invariant-loop-note l = Looping l.model (notes l.model) l.fn.cursor l.cursor l.notes.items

abbrev pub decreases-loop-note : goal.decreases-loop-note
decreases-loop-note l = room l.cursor.ahead l.cursor.number
