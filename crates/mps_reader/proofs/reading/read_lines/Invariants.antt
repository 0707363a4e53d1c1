use Rattle.std.proofs.Common.{length, ◌-◌}
use Rattle.mps_reader.proofs.Runs.{Reading}
use Rattle.mps_reader.proofs.reading.read_lines.Given as goal

abbrev pub invariant-loop-line : goal.invariant-loop-line
invariant-loop-line l = Reading l.bytes l.at l.number l.reader l.context

abbrev pub decreases-loop-line : goal.decreases-loop-line
decreases-loop-line l = length l.bytes - l.at
