use Rattle.report_reader.proofs.Passing.{room}
use Rattle.report_reader.proofs.Proofs.{ReadsNodes}
use Rattle.report_reader.proofs.evidence.read_tree.Given as goal

abbrev pub invariant-loop-due : goal.invariant-loop-due
invariant-loop-due l = ReadsNodes l.model l.splits l.fn.cursor l.cursor l.nodes.items l.due

abbrev pub decreases-loop-due : goal.decreases-loop-due
decreases-loop-due l = room l.cursor.ahead l.cursor.number
