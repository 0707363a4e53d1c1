use Rattle.std.specs.Int.{w64}
use Rattle.std.proofs.lemmas.Nat.Bits.{bit_at-trailing_zeros}
use Rattle.frac128.proofs.Twos.{twos_out}
use Rattle.frac128.proofs.divisors.odd_word_part.Goals as goal

pub returns-clause-odd : goal.returns-clause-odd
returns-clause-odd c = (bit_at-trailing_zeros w64 c.args.n c.requires c.ranges.n.fits).1

pub returns-clause-back : goal.returns-clause-back
returns-clause-back c = twos_out 64 c.args.n
