use Rattle.std.proofs.Common.{◌≡◌, sym, ap, ◌∙◌, Bool, true, false, cond, Option, Some, None}
use Rattle.std.specs.Option.{option_and_then}
use Rattle.rational.specs.Rational.{ℚ, zero_ℚ, eq_ℚ}
use Rattle.phrase_reader.specs.Words.{nonzero}
use Rattle.phrase_reader.proofs.naming.nonzero_of.Goals as goal

tested : (o : Option ℚ) (v z : ℚ) (r b : Bool) → o ≡ Some v → r ≡ eq_ℚ v z → z ≡ zero_ℚ → r ≡ b → cond b None (Some v) ≡ option_and_then nonzero o
tested o v z r b e f g h = ap (λ t. cond t None (Some v)) (sym h ∙ f ∙ ap (eq_ℚ v) g) ∙ sym (ap (option_and_then nonzero) e)

pub returns-then-eq : goal.returns-then-eq
returns-then-eq c = tested _ c.in_ok-value.value c.whole.result c.eq.result true (sym c.printed_fraction.ensures ∙ c.in_ok-value.was) c.eq.ensures c.whole.ensures c.if-eq.true

pub returns : goal.returns
returns c = tested _ c.in_ok-value.value c.whole.result c.eq.result false (sym c.printed_fraction.ensures ∙ c.in_ok-value.was) c.eq.ensures c.whole.ensures c.if-eq.false
