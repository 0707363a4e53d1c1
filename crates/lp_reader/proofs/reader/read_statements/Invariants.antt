use Rattle.std.proofs.Common.{length}
use Rattle.lp_reader.proofs.Scripted.{Reading}
use Rattle.lp_reader.proofs.reader.read_statements.Given as goal

abbrev pub invariant-loop-section : goal.invariant-loop-section
invariant-loop-section l = Reading l.bytes l.reader l.cursor l.section

abbrev pub decreases-loop-section : goal.decreases-loop-section
decreases-loop-section l = length l.cursor
