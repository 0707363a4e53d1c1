use Rattle.report_page.specs.Pieces.{IsMarkedUp}
use Rattle.report_page.proofs.families.write_each.Given as goal

-- what was written so far is marked up
abbrev pub invariant-loop-member : goal.invariant-loop-member
invariant-loop-member l = IsMarkedUp l.fn.into.items l.into.items
