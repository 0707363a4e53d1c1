use Rattle.std.proofs.Common.{refl, subst}
use Rattle.std.proofs.lemmas.List.Elements.{All-more}
use Rattle.frac128.specs.Limit.{narrow_limit}
use Rattle.dictionary.specs.Starts.{FitLimits}
use Rattle.dictionary.proofs.Formed.{every_item_fits}
use Rattle.dictionary.proofs.fitting.all_limits_fit.Goals as goal

pub loop-one-preserved : goal.loop-one-preserved
loop-one-preserved c =
    All-more (FitLimits narrow_limit) c.args.limits.now c.loop-one.one-index c.one-item.result c.loop-one-test.true c.loop-one.invariant
    (subst (FitLimits narrow_limit) c.one-item.is (c.limits_fit.ensures.0 c.if-not-limits_fit.false))

pub returns : goal.returns
returns c = (λ _. every_item_fits (FitLimits narrow_limit) c.args.limits.now c.loop-one.one-index c.loop-one-test.false c.loop-one.invariant, λ _. refl)
