use Rattle.std.proofs.Common.{arith}
use Rattle.std.proofs.Math.Nat.{le_trans}
use Rattle.algebra.proofs.Gcd.{coprime_one}
use Rattle.frac128.proofs.raw.whole_within.Goals as goal

pub invariant_of-result : goal.invariant_of-result
invariant_of-result c =
    let f = le_trans (rw c.unsigned_abs.ensures.value at c.if-unsigned_abs-most.true) c.requires in
    record {
      positive = omega arith;
      num_fits = f;
      den_fits = omega arith;
      lowest = coprime_one _;
    }
