use Rattle.std.proofs.Common.{◌∙◌}
use Rattle.frac128.proofs.Twos.{step, at_end}
use Rattle.frac128.proofs.divisors.odd_divisor.Goals as goal

pub loop-x-preserved : goal.loop-x-preserved
loop-x-preserved c =
    step _ _ _ _ _ _ _ c.loop-x.invariant c.odd_part-x.ensures.odd (c.odd_part-x.ensures.back ∙ c.abs_diff-apart.ensures) c.min-y.ensures

pub returns-then-x-y : goal.returns-then-x-y
returns-then-x-y c = at_end _ _ _ _ c.loop-x.invariant c.if-x-y.true

pub returns : goal.returns
returns c = c.odd_word_divisor.ensures ∙ c.loop-x.invariant.same
