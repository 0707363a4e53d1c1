use Rattle.report_reader.proofs.Passing.{room}
use Rattle.report_reader.proofs.Points.{ReadsValues}
use Rattle.report_reader.proofs.lists.read_values.Given as goal

abbrev pub invariant-loop-entry : goal.invariant-loop-entry
invariant-loop-entry l = ReadsValues l.model l.fn.cursor l.cursor l.values

abbrev pub decreases-loop-entry : goal.decreases-loop-entry
decreases-loop-entry l = room l.cursor.ahead l.cursor.number
