use Rattle.std.proofs.Common.{◌≡◌, drop}
use Rattle.analysis.specs.Reduced.{is_row_removed}
use Rattle.analysis.proofs.reducing.has_row_step.Given as goal

-- the steps that are still to come decide
abbrev pub invariant-loop-step : goal.invariant-loop-step
invariant-loop-step l = is_row_removed (drop l.step-index l.steps) l.row ≡ is_row_removed l.steps l.row
