use Rattle.std.proofs.Common.{◌≡◌, map, take}
use Rattle.analysis.specs.Reduced.{by_rows}
use Rattle.analysis.proofs.reducing.steps_by.Given as goal

-- the steps passed are there with the rows at their places
abbrev pub invariant-loop-step : goal.invariant-loop-step
invariant-loop-step l = l.steps.items ≡ map (by_rows l.rows) (take l.step-index l.told)
