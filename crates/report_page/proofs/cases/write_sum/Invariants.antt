use Rattle.report_page.specs.Pieces.{IsMarkedUp}
use Rattle.report_page.proofs.cases.write_sum.Given as goal

-- what was written so far is marked up
abbrev pub invariant-loop-share : goal.invariant-loop-share
invariant-loop-share l = IsMarkedUp l.fn.into.items l.into.items
