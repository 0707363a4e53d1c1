use Rattle.report_page.specs.Pieces.{IsMarkedUp}
use Rattle.report_page.proofs.points.write_fold.Given as goal

-- what was written so far is marked up
abbrev pub invariant-loop-column : goal.invariant-loop-column
invariant-loop-column l = IsMarkedUp l.fn.into.items l.into.items
