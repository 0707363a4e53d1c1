use Rattle.report_reader.specs.Things.{steps}
use Rattle.report_reader.proofs.Passing.{Looping, room}
use Rattle.report_reader.proofs.lists.read_steps.Given as goal

abbrev pub invariant-loop-step : goal.invariant-loop-step
invariant-loop-step l = Looping l.model (steps l.model) l.fn.cursor l.cursor l.steps.items

abbrev pub decreases-loop-step : goal.decreases-loop-step
decreases-loop-step l = room l.cursor.ahead l.cursor.number
