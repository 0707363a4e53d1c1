use Rattle.report_page.specs.Pieces.{IsMarkedUp, IsSessionOf}
use Rattle.report_page.proofs.pages.write_verdicts.Given as goal

-- the session is one of the program, and what was written so far is marked up
abbrev pub invariant-loop-entry : goal.invariant-loop-entry
invariant-loop-entry l = record { at : IsSessionOf l.fn.session.model l.session; marked : IsMarkedUp l.fn.into.items l.into.items }
