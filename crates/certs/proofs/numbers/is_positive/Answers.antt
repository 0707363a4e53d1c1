use Rattle.std.proofs.Common.{ap, ◌∙◌}
use Rattle.rational.specs.Rational.{ℚ, lt_q}
use Rattle.certs.proofs.numbers.is_positive.Goals as goal

pub returns : goal.returns
returns c = c.is_less.ensures ∙ ap (λ (z : ℚ). lt_q z c.args.number) c.whole.ensures
