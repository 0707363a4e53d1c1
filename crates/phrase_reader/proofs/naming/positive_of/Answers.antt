use Rattle.std.proofs.Common.{◌≡◌, sym, ap, ◌∙◌, is_lt, Bool, true, false, cond, Option, Some, None}
use Rattle.std.specs.Option.{option_and_then}
use Rattle.rational.specs.Rational.{ℚ, zero_ℚ, cmp_ℚ}
use Rattle.rational.proofs.Compare.{lt_q-is}
use Rattle.phrase_reader.specs.Words.{positive}
use Rattle.phrase_reader.proofs.naming.positive_of.Goals as goal

tested : (o : Option ℚ) (v z : ℚ) (r b : Bool) → o ≡ Some v → r ≡ is_lt (cmp_ℚ z v) → z ≡ zero_ℚ → r ≡ b → cond b (Some v) None ≡ option_and_then positive o
tested o v z r b e f g h = ap (λ t. cond t (Some v) None) (sym h ∙ f ∙ ap (λ y. is_lt (cmp_ℚ y v)) g ∙ sym (lt_q-is zero_ℚ v)) ∙ sym (ap (option_and_then positive) e)

pub returns-then-lt : goal.returns-then-lt
returns-then-lt c = tested _ c.in_ok-value.value c.whole.result c.lt.result true (sym c.printed_fraction.ensures ∙ c.in_ok-value.was) c.lt.ensures c.whole.ensures c.if-lt.true

pub returns : goal.returns
returns c = tested _ c.in_ok-value.value c.whole.result c.lt.result false (sym c.printed_fraction.ensures ∙ c.in_ok-value.was) c.lt.ensures c.whole.ensures c.if-lt.false
