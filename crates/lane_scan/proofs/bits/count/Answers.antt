use Rattle.std.proofs.Common.{get_or, arith, count_ones}
use Rattle.std.proofs.lemmas.List.Sums.{sum_by_more}
use Rattle.lane_scan.proofs.Words.{few_ones}
use Rattle.lane_scan.proofs.bits.count.Goals as goal

pub loop-word-preserved : goal.loop-word-preserved
loop-word-preserved c =
    let more = sum_by_more count_ones c.args.a.now c.loop-word.word-index 0 c.loop-word-test.true in
    let few = few_ones (get_or c.args.a.now c.loop-word.word-index 0) (omega (arith, c.type_inv.a c.loop-word.word-index)) in
    let told = c.loop-word.invariant.counted in
    record {
      counted = omega (arith, more, told, c.from-total.ensures);
      bounded = omega (arith, few, c.from-total.ensures);
    }
