use Rattle.report_reader.specs.Things.{uses}
use Rattle.report_reader.proofs.Passing.{Looping, room}
use Rattle.report_reader.proofs.lists.read_shares.Given as goal

abbrev pub invariant-loop-share : goal.invariant-loop-share
invariant-loop-share l = Looping l.model (uses l.model) l.fn.cursor l.cursor l.shares.items

abbrev pub decreases-loop-share : goal.decreases-loop-share
decreases-loop-share l = room l.cursor.ahead l.cursor.number
