use Rattle.std.proofs.Common.{◌≡◌, ℕ, ◌+◌, ◌<◌, ◌≤◌, Bool, false, List, length, get_or, inl, inr, arith}
use Rattle.std.proofs.lemmas.Bool.{cases_lt}
use Rattle.std.proofs.lemmas.Simd.{run_in_chunk_le, run_in_chunk_fails, run_in_chunk_stops}
use Rattle.lane_scan.proofs.lanes.first_by_lanes.Goals as goal

-- none up to a place, and none from there up to another
more : (kind : ℕ → Bool) (bytes : List ℕ) (from at end : ℕ) → ((k : ℕ) → from ≤ k → k < at → kind (get_or bytes k 0) ≡ false)
    → ((k : ℕ) → at ≤ k → k < end → kind (get_or bytes k 0) ≡ false) → (k : ℕ) → from ≤ k → k < end → kind (get_or bytes k 0) ≡ false
more kind bytes from at end old new k low high = elim (cases_lt k at) [ inl l ↦ old k low l | inr m ↦ new k m high ]

pub returns-then-to-at : goal.returns-then-to-at
returns-then-to-at g c =
    let kind = g.K.Kind.kind in
    let bytes = c.args.bytes.now in
    let at = c.loop-at.at in
    let count = c.count_before-count.result in
    let room : at + 16 ≤ length bytes = omega arith in
    let fails = run_in_chunk_fails kind bytes at 16 count 0 room c.count_before-count.ensures in
    record {
      low = omega arith;
      high = omega arith;
      none = more kind bytes c.args.from at c.args.to c.loop-at.invariant.none (λ k low high. fails k low (omega arith));
      here = λ l. absurd (omega arith);
    }

pub returns-then-count-lt-LANES : goal.returns-then-count-lt-LANES
returns-then-count-lt-LANES g c =
    let kind = g.K.Kind.kind in
    let bytes = c.args.bytes.now in
    let at = c.loop-at.at in
    let count = c.count_before-count.result in
    let room : at + 16 ≤ length bytes = omega arith in
    let fails = run_in_chunk_fails kind bytes at 16 count 0 room c.count_before-count.ensures in
    record {
      low = omega arith;
      high = omega arith;
      none = more kind bytes c.args.from at (at + count) c.loop-at.invariant.none fails;
      here = λ l. run_in_chunk_stops kind bytes at 16 count 0 room c.count_before-count.ensures (omega arith);
    }

pub loop-at-preserved : goal.loop-at-preserved
loop-at-preserved g c =
    let kind = g.K.Kind.kind in
    let bytes = c.args.bytes.now in
    let at = c.loop-at.at in
    let count = c.count_before-count.result in
    let room : at + 16 ≤ length bytes = omega arith in
    let few : count ≤ 16 = run_in_chunk_le kind bytes at 16 count 0 room c.count_before-count.ensures in
    let fails = run_in_chunk_fails kind bytes at 16 count 0 room c.count_before-count.ensures in
    record {
      low = omega arith;
      high = omega arith;
      none = more kind bytes c.args.from at (at + 16) c.loop-at.invariant.none (λ k low high. fails k low (omega arith));
    }

pub returns : goal.returns
returns g c =
    let rest = c.first_by_one.ensures in
    record {
      low = (let a = rest.low in omega arith);
      high = rest.high;
      none = more g.K.Kind.kind c.args.bytes.now c.args.from c.loop-at.at c.first_by_one.result c.loop-at.invariant.none rest.none;
      here = rest.here;
    }
