use Rattle.std.proofs.Common.{◌≡◌, ◌≤◌, ◌*◌, take, sum_by, count_ones}
use Rattle.lane_scan.proofs.bits.count.Given as goal

abbrev pub invariant-loop-word : goal.invariant-loop-word
invariant-loop-word l = record {
  counted : l.total ≡ sum_by count_ones (take l.word-index l.a);
  bounded : l.total ≤ 64 * l.word-index;
}
