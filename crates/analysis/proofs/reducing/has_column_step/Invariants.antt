use Rattle.std.proofs.Common.{◌≡◌, drop}
use Rattle.analysis.specs.Reduced.{is_removed}
use Rattle.analysis.proofs.reducing.has_column_step.Given as goal

-- the steps that are still to come decide
abbrev pub invariant-loop-step : goal.invariant-loop-step
invariant-loop-step l = is_removed (drop l.step-index l.steps) l.column ≡ is_removed l.steps l.column
