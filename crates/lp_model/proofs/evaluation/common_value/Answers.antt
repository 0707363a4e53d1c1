use Rattle.std.proofs.Common.{◌≡◌, ◌∙◌, ℕ, List, false, refl, sym, ap, subst}
use Rattle.rational.specs.Rational.{ℚ, ◌+ℚ◌, ◌*ℚ◌}
use Rattle.rational.specs.Sum.{sum_over}
use Rattle.rational.specs.Linear.{Term}
use Rattle.rational.proofs.Sums.{nothing_first, sum_over-step, sum_over-end}
use Rattle.frac128.specs.Limit.{limit}
use Rattle.frac128.specs.Calculation.{AddsProduct, first_wide, product_steps}
use Rattle.frac128.proofs.Calculations.{product_at-next, product_at-end}
use Rattle.lp_model.proofs.Values.{at, factor, read}
use Rattle.lp_model.proofs.evaluation.common_value.Goals as goal

pub loop-term-init : goal.loop-term-init
loop-term-init c =
    let ys : List ℚ = c.args.values.now in
    let xs : List Term = c.args.terms.now in
    record {
      value = ap (λ (z : ℚ). z +ℚ sum_over (λ t. factor t *ℚ at ys t) xs) c.new-sum.ensures ∙ nothing_first _;
      width = ap (λ (z : ℚ). first_wide limit (product_steps factor (at ys) z xs)) c.new-sum.ensures;
    }

pub loop-term-preserved : goal.loop-term-preserved
loop-term-preserved c =
    let ys : List ℚ = c.args.values.now in
    let xs : List Term = c.args.terms.now in
    let x : Term = c.term-item.result in
    let i = c.loop-term.invariant in
    let q = ap (λ (t : Term). t.factor) c.term.view_is in
    let y = read ys xs c.loop-term.term-index x c.term.inside.column c.index-values-term.result c.requires c.loop-term-test.true c.term-item.is (ap (λ (t : Term). t.column) c.term.view_is) c.index-values-term.is in
    let e = subst (λ (p : ℚ × ℚ). AddsProduct c.loop-term.sum p.0 p.1 c.in_ok-sum.sum) (λ k. (q k, y k)) c.in_ok-sum.ensures in
    record {
      value = sum_over-step (λ t. factor t *ℚ at ys t) xs c.loop-term.term-index x c.loop-term.sum c.in_ok-sum.sum _ c.loop-term-test.true c.term-item.is e.is i.value;
      width = sym (product_at-next limit factor c.loop-term.sum (at ys) xs c.loop-term.term-index x c.loop-term-test.true c.term-item.is _ refl e.times c.in_ok-sum.sum e.is e.plus) ∙ i.width;
    }

pub returns : goal.returns
returns c =
    let ys : List ℚ = c.args.values.now in
    let xs : List Term = c.args.terms.now in
    let i = c.loop-term.invariant in (
      c.value.ensures ∙ sum_over-end (λ t. factor t *ℚ at ys t) xs c.loop-term.term-index c.loop-term.sum _ c.loop-term-test.false i.value,
      sym i.width ∙ product_at-end limit factor c.loop-term.sum (at ys) xs c.loop-term.term-index c.loop-term-test.false,
    )
