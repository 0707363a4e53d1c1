use Rattle.std.proofs.Common.{◌≡◌, ◌+◌, drop, sym, subst, ◌∙◌, ap, true}
use Rattle.std.proofs.lemmas.List.Elements.{All-more}
use Rattle.frac128.specs.Limit.{limit}
use Rattle.rational.specs.Linear.{Term}
use Rattle.dictionary.specs.Starts.{Fits}
use Rattle.dictionary.specs.Forming.{ascends, follows}
use Rattle.dictionary.proofs.Formed.{ascends_step, every_item_fits}
use Rattle.dictionary.proofs.forming.is_form.Goals as goal

pub loop-term-preserved : goal.loop-term-preserved
loop-term-preserved c =
    let i = c.loop-term.term-index in
    let ts = c.args.terms.now in
    let t = c.term-item.result in
    let n = c.args.columns in
    let h : follows n c.loop-term.least t ≡ true = subst (λ (z : Term). follows n c.loop-term.least z ≡ true) c.term.view_is (sym c.is_next.ensures.test ∙ c.if-not-is_next.false) in
    record {
      left =
          ap (λ k. ascends n (k + 1) (drop (i + 1) ts)) (ap (λ (z : Term). z.column) c.term.view_is)
          ∙ ascends_step n c.loop-term.least ts i t c.loop-term-test.true c.term-item.is h ∙ c.loop-term.invariant.left;
      fits =
          All-more (λ (z : Term). Fits limit z.factor) ts i t c.loop-term-test.true c.loop-term.invariant.fits
          (subst (λ (z : Term). Fits limit z.factor) (c.term.view_is ∙ c.term-item.is) c.is_next.ensures.fits);
    }

pub returns-clause-fits : goal.returns-clause-fits
returns-clause-fits c = λ _. every_item_fits (λ (z : Term). Fits limit z.factor) c.args.terms.now c.loop-term.term-index c.loop-term-test.false c.loop-term.invariant.fits
