use Rattle.report_page.specs.Pieces.{IsMarkedUp}
use Rattle.report_page.proofs.families.write_families.Given as goal

-- what was written so far is marked up
abbrev pub invariant-loop-family : goal.invariant-loop-family
invariant-loop-family l = IsMarkedUp l.fn.into.items l.into.items
