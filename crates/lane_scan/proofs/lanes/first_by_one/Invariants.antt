use Rattle.std.proofs.Common.{◌≡◌, ℕ, ◌<◌, ◌≤◌, get_or, false}
use Rattle.lane_scan.proofs.lanes.first_by_one.Given as goal

abbrev pub invariant-loop-at : goal.invariant-loop-at
invariant-loop-at g l = (k : ℕ) → l.from ≤ k → k < l.at → g.K.Kind.kind (get_or l.bytes k 0) ≡ false
