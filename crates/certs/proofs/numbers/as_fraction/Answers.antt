use Rattle.std.proofs.Common.{ap, sym, subst, ◌∙◌, Option, IfSome, ◌≤◌, unsigned_abs}
use Rattle.std.specs.Int.{w128, cast_signed, cast_unsigned}
use Rattle.std.specs.Option.{option_map}
use lib.IntN.{ℤ}
use Rattle.rational.specs.Rational.{whole}
use Rattle.frac128.specs.Limit.{limit}
use Rattle.frac128.proofs.Machine.{z_read}
use Rattle.certs.proofs.PathNumbers.{fraction_of}
use Rattle.certs.proofs.numbers.as_fraction.Goals as goal

pub returns-in-Some : goal.returns-in-Some
returns-in-Some c =
    let n = c.in-Some.number in
    let fits : unsigned_abs n ≤ limit = subst (λ (o : Option ℤ). IfSome o (λ n. unsigned_abs n ≤ limit)) c.in-Some.is c.requires in
    c.ok.ensures.value
    ∙ (fraction_of n (cast_signed w128 (cast_unsigned w128 n)) c.new.result (z_read n fits) c.new.ensures.zero_den c.new.ensures.wide c.new.ensures.value fits ∙ sym (ap (λ (o : Option ℤ). option_map whole o) c.in-Some.is))
