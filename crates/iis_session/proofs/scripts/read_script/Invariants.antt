use Rattle.std.proofs.Common.{length, ◌-◌}
use Rattle.iis_session.proofs.Fronts.{SoFar}
use Rattle.iis_session.proofs.scripts.read_script.Given as goal

abbrev pub invariant-loop-line : goal.invariant-loop-line
invariant-loop-line l = SoFar l.bytes l.at l.number l.commands.items

abbrev pub decreases-loop-line : goal.decreases-loop-line
decreases-loop-line l = length l.bytes - l.at
