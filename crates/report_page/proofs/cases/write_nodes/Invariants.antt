use Rattle.std.proofs.Common.{vec_len}
use Rattle.report_page.specs.Pieces.{IsMarkedUp}
use Rattle.report_page.proofs.cases.write_nodes.Given as goal

-- what was written so far is marked up
abbrev pub invariant-loop-node : goal.invariant-loop-node
invariant-loop-node l = IsMarkedUp l.fn.into.items l.into.items

abbrev pub invariant-loop-into : goal.invariant-loop-into
invariant-loop-into l = IsMarkedUp l.fn.into.items l.into.items

abbrev pub decreases-loop-into : goal.decreases-loop-into
decreases-loop-into l = vec_len l.path
