use Rattle.std.proofs.Common.{◌≡◌, ◌++◌, replicate}
use Rattle.rational.specs.Rational.{zero_ℚ}
use Rattle.certs.proofs.packed.push_zeros.Given as goal

abbrev pub invariant-loop : goal.invariant-loop
invariant-loop l = l.values.items ≡ l.initial.values.items ++ replicate l.counter zero_ℚ
