use Rattle.std.proofs.Common.{◌∙◌, sym}
use Rattle.rational.specs.Rational.{zero_ℚ}
use Rattle.rational.proofs.Compare.{apart_from_test}
use Rattle.unit_tests.proofs.fractions.quotient.Goals as goal

pub over-requires : goal.over-requires
over-requires g c = λ e. apart_from_test c.widen.result c.whole.result zero_ℚ c.whole.ensures (sym c.eq.ensures ∙ c.if-eq.false) (c.widen.ensures.value ∙ e)
