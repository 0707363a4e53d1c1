use Rattle.std.proofs.Common.{◌∙◌, refl, subst}
use Rattle.std.proofs.lemmas.List.Elements.{All-more}
use Rattle.rational.specs.Linear.{Term}
use Rattle.frac128.specs.Limit.{narrow_limit}
use Rattle.dictionary.specs.Starts.{Fits}
use Rattle.dictionary.proofs.Formed.{every_item_fits}
use Rattle.dictionary.proofs.fitting.form_fits.Goals as goal

pub loop-term-preserved : goal.loop-term-preserved
loop-term-preserved c =
    All-more (λ (t : Term). Fits narrow_limit t.factor) c.args.terms.now c.loop-term.term-index c.term-item.result c.loop-term-test.true c.loop-term.invariant
    (subst (λ (t : Term). Fits narrow_limit t.factor) (c.term.view_is ∙ c.term-item.is) (c.fits.ensures.0 c.if-not-fits.false))

pub returns : goal.returns
returns c = (λ _. every_item_fits (λ (t : Term). Fits narrow_limit t.factor) c.args.terms.now c.loop-term.term-index c.loop-term-test.false c.loop-term.invariant, λ _. refl)
