use Rattle.report_page.specs.Pieces.{IsMarkedUp}
use Rattle.report_page.proofs.demands.write_sum.Given as goal

-- what was written so far is marked up
abbrev pub invariant-loop-term : goal.invariant-loop-term
invariant-loop-term l = IsMarkedUp l.fn.into.items l.into.items
