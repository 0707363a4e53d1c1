use Rattle.report_reader.proofs.Passing.{room}
use Rattle.report_reader.proofs.Witnesses.{ReadsPairs}
use Rattle.report_reader.proofs.evidence.read_witnessed.Given as goal

abbrev pub invariant-loop-member : goal.invariant-loop-member
invariant-loop-member l = ReadsPairs l.model l.fn.cursor l.cursor l.members.items l.witnesses.items

abbrev pub decreases-loop-member : goal.decreases-loop-member
decreases-loop-member l = room l.cursor.ahead l.cursor.number
