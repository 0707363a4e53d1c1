use Rattle.std.proofs.Common.{◌+◌}
use Rattle.frac128.proofs.Twos.{IsOddPair}
use Rattle.frac128.proofs.divisors.odd_divisor.Given as goal

abbrev pub invariant-loop-x : goal.invariant-loop-x
invariant-loop-x l = IsOddPair l.x l.y l.fn.a l.fn.b

abbrev pub decreases-loop-x : goal.decreases-loop-x
decreases-loop-x l = l.x + l.y
