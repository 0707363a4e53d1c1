use Rattle.std.proofs.Common.{inl, inr, arith}
use Rattle.std.proofs.lemmas.Bool.{cases_lt}
use Rattle.lane_scan.proofs.Loads.{first-place}
use Rattle.lane_scan.proofs.scans.next_nonblank.Goals as goal

pub returns-then-first-near-clause-place : goal.returns-then-first-near-clause-place
returns-then-first-near-clause-place c =
    let near = c.first_by_one-first.ensures in
    first-place c.requires.in_order c.requires.within
    (record {
      low = near.low;
      high = omega arith;
      none = near.none;
      here = λ _. near.here c.if-first-near.true;
    })

pub returns-clause-place : goal.returns-clause-place
returns-clause-place c =
    let near = c.first_by_one-first.ensures in
    let far = c.first_of.ensures.first in
    first-place c.requires.in_order c.requires.within
    (record {
      low = omega arith;
      high = far.high;
      none = λ k low high. elim (cases_lt k c.min-near.result) [
        | inl l ↦ near.none k low (omega arith)
        | inr l ↦ far.none k l high
      ];
      here = far.here;
    })
