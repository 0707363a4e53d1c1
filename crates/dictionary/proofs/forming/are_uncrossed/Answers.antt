use Rattle.std.proofs.Common.{sym, subst, ◌∙◌}
use Rattle.std.proofs.lemmas.List.Elements.{All-more}
use Rattle.frac128.specs.Limit.{limit}
use Rattle.dictionary.specs.Starts.{FitLimits}
use Rattle.dictionary.specs.Forming.{uncrossed}
use Rattle.dictionary.proofs.Formed.{every_step, every_item_fits}
use Rattle.dictionary.proofs.forming.are_uncrossed.Goals as goal

pub loop-one-preserved : goal.loop-one-preserved
loop-one-preserved c =
    let i = c.loop-one.one-index in
    let ls = c.args.limits.now in
    let one = c.one-item.result in
    record {
      left = every_step uncrossed ls i one c.loop-one-test.true c.one-item.is (sym c.is_uncrossed.ensures.test ∙ c.if-not-is_uncrossed.false) ∙ c.loop-one.invariant.left;
      fits = All-more (FitLimits limit) ls i one c.loop-one-test.true c.loop-one.invariant.fits (subst (FitLimits limit) c.one-item.is c.is_uncrossed.ensures.fits);
    }

pub returns-clause-fits : goal.returns-clause-fits
returns-clause-fits c = λ _. every_item_fits (FitLimits limit) c.args.limits.now c.loop-one.one-index c.loop-one-test.false c.loop-one.invariant.fits
