use Rattle.std.proofs.Common.{◌/◌, inl, inr, arith}
use Rattle.std.proofs.lemmas.Bool.{cases_lt}
use Rattle.lane_scan.proofs.Words.{none_in_rest, first_in_rest}
use Rattle.lane_scan.proofs.bits.first_bit.Goals as goal

pub returns-then-rest-ne0 : goal.returns-then-rest-ne0
returns-then-rest-ne0 c =
    let at = c.loop-at.at in
    let here = first_in_rest c.args.words.now at (omega (arith, c.type_inv.words (at / 64))) c.loop-at-test.true c.if-rest-ne0.true in
    record {
      low = (let l = here.low in omega arith);
      high = here.high;
      none = λ k low high. elim (cases_lt k at) [
        | inl l ↦ c.loop-at.invariant.none k low l
        | inr l ↦ here.none k l high
      ];
      here = here.here;
    }

pub loop-at-preserved : goal.loop-at-preserved
loop-at-preserved c =
    record {
      low = omega arith;
      high = omega arith;
      none = λ k low high. elim (cases_lt k c.loop-at.at) [
        | inl l ↦ c.loop-at.invariant.none k low l
        | inr l ↦ none_in_rest c.args.words.now c.loop-at.at k l high c.if-rest-ne0.false
      ];
    }
