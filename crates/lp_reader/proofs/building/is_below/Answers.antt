use Rattle.std.proofs.Common.{is_lt, sym, ap, ◌∙◌}
use Rattle.rational.specs.Rational.{cmp_ℚ, zero_ℚ}
use Rattle.rational.proofs.Compare.{lt_q-is}
use Rattle.lp_reader.proofs.building.is_below.Goals as goal

pub returns : goal.returns
returns c = c.lt.ensures ∙ ap (λ z. is_lt (cmp_ℚ c.args.value z)) c.whole.ensures ∙ sym (lt_q-is c.args.value zero_ℚ)
