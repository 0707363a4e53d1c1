use Rattle.std.proofs.Common.{◌∙◌, sym, ap}
use Rattle.lp_statements.proofs.Steps.{signs_more, signs_end}
use Rattle.lp_statements.proofs.grammar.signs.Goals as goal

pub loop-minus-preserved : goal.loop-minus-preserved
loop-minus-preserved c = c.loop-minus.invariant ∙ signs_more c.loop-minus.cursor c.take_sign.new.cursor c.in-Some.minus c.loop-minus.negative c.in-Some.ensures.0 c.in-Some.ensures.1

pub returns : goal.returns
returns c = c.loop-minus.invariant ∙ (signs_end c.loop-minus.cursor c.loop-minus.negative c.in_default.ensures.0 ∙ ap (λ ps. (c.loop-minus.negative, ps)) (sym c.in_default.ensures.1))
