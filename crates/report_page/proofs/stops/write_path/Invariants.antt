use Rattle.report_page.specs.Pieces.{IsMarkedUp}
use Rattle.report_page.proofs.stops.write_path.Given as goal

-- what was written so far is marked up
abbrev pub invariant-loop-branch : goal.invariant-loop-branch
invariant-loop-branch l = IsMarkedUp l.fn.into.items l.into.items
