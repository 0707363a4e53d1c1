use Rattle.std.proofs.Common.{◌∙◌, sym, ap, inl, inr}
use Rattle.algebra.specs.Gcd.{gcd}
use Rattle.algebra.proofs.Gcd.{gcd-mod, gcd-zero_right}
use Rattle.frac128.proofs.Twos.{in_order, shifted_back}
use Rattle.frac128.proofs.divisors.word_divisor.Goals as goal
use Rattle.frac128.proofs.divisors.word_divisor.Goals.{then-a-b, else-a-b}

pub returns-then-less-eq0 : goal.returns-then-less-eq0
returns-then-less-eq0 c =
    sym (gcd-zero_right _) ∙ ap (gcd c.if-a-b.less.1) (sym c.if-less-eq0.true) ∙ in_order _ _ _ (elim c.if-a-b.branch [ then-a-b w ↦ inl w.less-is | else-a-b w ↦ inr w.less-is ])

pub returns-then-rest-eq0 : goal.returns-then-rest-eq0
returns-then-rest-eq0 c =
    sym (gcd-zero_right _) ∙ ap (gcd c.if-a-b.less.0) (sym c.if-rest-eq0.true) ∙ gcd-mod _ c.if-a-b.less.0 ∙ in_order _ _ _ (elim c.if-a-b.branch [ then-a-b w ↦ inl w.less-is | else-a-b w ↦ inr w.less-is ])

pub returns : goal.returns
returns c =
    shifted_back _ _ _ _ _ _ _ _ _ _ (elim c.if-a-b.branch [ then-a-b w ↦ inl w.less-is | else-a-b w ↦ inr w.less-is ]) c.ranges.a.fits c.ranges.b.fits c.if-less-eq0.false
    c.odd_word_part.ensures.odd c.odd_word_part-2.ensures.odd c.odd_word_part.ensures.back c.odd_word_part-2.ensures.back c.odd_word_divisor.ensures c.min-twos.ensures
