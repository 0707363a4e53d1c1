use Rattle.std.proofs.Common.{◌-◌, ◌≤◌, length}
use Rattle.lane_scan.specs.Bits.{ShareNone}
use Rattle.lane_scan.proofs.bits.is_shared.Given as goal

abbrev pub invariant-loop-at : goal.invariant-loop-at
invariant-loop-at l = record {
  within : l.at ≤ length l.a;
  none : ShareNone l.a l.b l.turn 0 l.at;
}

abbrev pub decreases-loop-at : goal.decreases-loop-at
decreases-loop-at l = length l.a - l.at

abbrev pub invariant-loop-i : goal.invariant-loop-i
invariant-loop-i l = ShareNone l.a l.b l.turn 0 l.i
