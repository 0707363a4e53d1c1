use Rattle.std.proofs.Common.{vec_len}
use Rattle.report_page.specs.Pieces.{IsMarkedUp}
use Rattle.report_page.proofs.cases.write_next.Given as goal

-- what was written so far is marked up
abbrev pub invariant-loop-case : goal.invariant-loop-case
invariant-loop-case l = IsMarkedUp l.fn.into.items l.into.items

abbrev pub decreases-loop-case : goal.decreases-loop-case
decreases-loop-case l = vec_len l.path
