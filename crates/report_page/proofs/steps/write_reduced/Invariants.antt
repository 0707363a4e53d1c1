use Rattle.report_page.specs.Pieces.{IsMarkedUp}
use Rattle.report_page.proofs.steps.write_reduced.Given as goal

-- what was written so far is marked up
abbrev pub invariant-loop-step : goal.invariant-loop-step
invariant-loop-step l = IsMarkedUp l.fn.into.items l.into.items
