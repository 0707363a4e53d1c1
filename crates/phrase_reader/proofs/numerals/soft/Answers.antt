use Rattle.std.proofs.Common.{sym, ap, ◌∙◌, cond, true, false, ◌≡◌, Bool, is_lt, Some, None}
use Rattle.rational.specs.Rational.{ℚ, zero_ℚ, lt_q, cmp_ℚ}
use Rattle.rational.proofs.Compare.{lt_q-is}
use Rattle.lp_model.specs.declared.parts.Weight.TheVariants.{Soft}
use Rattle.phrase_reader.proofs.numerals.soft.Goals as goal

tested : (w z : ℚ) (r b : Bool) → r ≡ is_lt (cmp_ℚ z w) → z ≡ zero_ℚ → r ≡ b → b ≡ lt_q zero_ℚ w
tested w z r b e f g = sym g ∙ e ∙ ap (λ y. is_lt (cmp_ℚ y w)) f ∙ sym (lt_q-is zero_ℚ w)

pub returns-then-lt : goal.returns-then-lt
returns-then-lt c = ap (λ b. cond b (Some (Soft c.args.value)) None) (tested c.args.value c.whole.result c.lt.result true c.lt.ensures c.whole.ensures c.if-lt.true)

pub returns : goal.returns
returns c = ap (λ b. cond b (Some (Soft c.args.value)) None) (tested c.args.value c.whole.result c.lt.result false c.lt.ensures c.whole.ensures c.if-lt.false)
