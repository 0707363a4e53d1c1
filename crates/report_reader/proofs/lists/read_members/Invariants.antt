use Rattle.report_reader.specs.Things.{members}
use Rattle.report_reader.proofs.Passing.{Looping, room}
use Rattle.report_reader.proofs.lists.read_members.Given as goal

abbrev pub invariant-loop-member : goal.invariant-loop-member
invariant-loop-member l = Looping l.model (members l.model l.listing) l.fn.cursor l.cursor l.members.items

abbrev pub decreases-loop-member : goal.decreases-loop-member
decreases-loop-member l = room l.cursor.ahead l.cursor.number
