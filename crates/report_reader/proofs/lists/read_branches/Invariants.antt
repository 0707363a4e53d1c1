use Rattle.report_reader.specs.Things.{branches}
use Rattle.report_reader.proofs.Passing.{Looping, room}
use Rattle.report_reader.proofs.lists.read_branches.Given as goal

abbrev pub invariant-loop-branch : goal.invariant-loop-branch
invariant-loop-branch l = Looping l.model (branches l.model) l.fn.cursor l.cursor l.branches.items

abbrev pub decreases-loop-branch : goal.decreases-loop-branch
decreases-loop-branch l = room l.cursor.ahead l.cursor.number
