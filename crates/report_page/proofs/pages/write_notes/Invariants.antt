use Rattle.report_page.specs.Pieces.{IsMarkedUp}
use Rattle.report_page.proofs.pages.write_notes.Given as goal

-- what was written so far is marked up
abbrev pub invariant-loop-note : goal.invariant-loop-note
invariant-loop-note l = IsMarkedUp l.fn.into.items l.into.items
