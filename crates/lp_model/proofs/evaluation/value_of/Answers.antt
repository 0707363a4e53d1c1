use Rattle.std.proofs.Common.{◌≡◌, ◌∙◌, ◌<◌, ℕ, List, length, get_or, false, sym, ap, subst, refl}
use Rattle.std.proofs.lemmas.Result.{err_from_is_err_and}
use Rattle.rational.specs.Rational.{ℚ, ◌+ℚ◌, ◌*ℚ◌, zero_ℚ}
use Rattle.rational.specs.Sum.{sum_over}
use Rattle.rational.specs.Linear.{Term}
use Rattle.rational.proofs.Sums.{nothing_first, sum_over-step, sum_over-end}
use Rattle.frac128.specs.declared.Op.TheVariants.{Times}
use Rattle.frac128.specs.Limit.{limit}
use Rattle.frac128.specs.Width.{operation, is_wide}
use Rattle.frac128.specs.Calculation.{first_wide, product_steps}
use Rattle.frac128.proofs.Calculations.{product_at-wide, product_at-sum_wide, product_at-next, product_at-end}
use Rattle.lp_model.proofs.Values.{at, factor, read}
use Rattle.lp_model.proofs.evaluation.value_of.Goals as goal

pub loop-term-init : goal.loop-term-init
loop-term-init c =
    let ys : List ℚ = c.args.values.now in
    let xs : List Term = c.args.terms.now in
    record {
      value = ap (λ (z : ℚ). z +ℚ sum_over (λ t. factor t *ℚ at ys t) xs) c.whole-sum.ensures ∙ nothing_first _;
      width = ap (λ (z : ℚ). first_wide limit (product_steps factor (at ys) z xs)) c.whole-sum.ensures;
    }

pub returns-in_err-product : goal.returns-in_err-product
returns-in_err-product c =
    let ys : List ℚ = c.args.values.now in
    let xs : List Term = c.args.terms.now in
    let x : Term = c.term-item.result in
    let e = c.in_err-product.ensures in
    let q = ap (λ (t : Term). t.factor) c.term.view_is in
    let y = read ys xs c.loop-term.term-index x c.term.inside.column c.index-values-term.result c.requires c.loop-term-test.true c.term-item.is (ap (λ (t : Term). t.column) c.term.view_is) c.index-values-term.is in
    let p = err_from_is_err_and c.from_residual.result c.from_residual.ensures.1 in
    rw (p.1, p.2)
    (sym c.loop-term.invariant.width
    ∙ product_at-wide limit factor c.loop-term.sum (at ys) xs c.loop-term.term-index x c.loop-term-test.true c.term-item.is _
    (e.0 ∙ (ap (λ (z : ℚ). operation Times z c.index-values-term.result) q ∙ ap (λ (z : ℚ). operation Times x.factor z) y)) e.1)

pub returns-in_err-sum : goal.returns-in_err-sum
returns-in_err-sum c =
    let ys : List ℚ = c.args.values.now in
    let xs : List Term = c.args.terms.now in
    let x : Term = c.term-item.result in
    let e = c.in_err-sum.ensures in
    let f = c.in_ok-product.ensures in
    let q = ap (λ (t : Term). t.factor) c.term.view_is in
    let y = read ys xs c.loop-term.term-index x c.term.inside.column c.index-values-term.result c.requires c.loop-term-test.true c.term-item.is (ap (λ (t : Term). t.column) c.term.view_is) c.index-values-term.is in
    let product = f.0 ∙ (ap (λ (z : ℚ). z *ℚ c.index-values-term.result) q ∙ ap (λ (z : ℚ). x.factor *ℚ z) y) in
    let fits = subst (λ (z : ℚ). is_wide limit (operation Times x.factor z) ≡ false) y (subst (λ (z : ℚ). is_wide limit (operation Times z c.index-values-term.result) ≡ false) q f.1) in
    let p = err_from_is_err_and c.from_residual-in_err-sum.result c.from_residual-in_err-sum.ensures.1 in
    rw (p.1, p.2)
    (sym c.loop-term.invariant.width
    ∙ product_at-sum_wide limit factor c.loop-term.sum (at ys) xs c.loop-term.term-index x c.loop-term-test.true c.term-item.is c.in_ok-product.product product fits _ e.0 e.1)

pub loop-term-preserved : goal.loop-term-preserved
loop-term-preserved c =
    let ys : List ℚ = c.args.values.now in
    let xs : List Term = c.args.terms.now in
    let x : Term = c.term-item.result in
    let i = c.loop-term.invariant in
    let f = c.in_ok-product.ensures in
    let e = c.in_ok-sum.ensures in
    let q = ap (λ (t : Term). t.factor) c.term.view_is in
    let y = read ys xs c.loop-term.term-index x c.term.inside.column c.index-values-term.result c.requires c.loop-term-test.true c.term-item.is (ap (λ (t : Term). t.column) c.term.view_is) c.index-values-term.is in
    let product = f.0 ∙ (ap (λ (z : ℚ). z *ℚ c.index-values-term.result) q ∙ ap (λ (z : ℚ). x.factor *ℚ z) y) in
    let fits = subst (λ (z : ℚ). is_wide limit (operation Times x.factor z) ≡ false) y (subst (λ (z : ℚ). is_wide limit (operation Times z c.index-values-term.result) ≡ false) q f.1) in
    record {
      value = sum_over-step (λ t. factor t *ℚ at ys t) xs c.loop-term.term-index x c.loop-term.sum c.in_ok-sum.sum _ c.loop-term-test.true c.term-item.is (e.0 ∙ ap (λ (z : ℚ). c.loop-term.sum +ℚ z) product) i.value;
      width = sym (product_at-next limit factor c.loop-term.sum (at ys) xs c.loop-term.term-index x c.loop-term-test.true c.term-item.is c.in_ok-product.product product fits c.in_ok-sum.sum e.0 e.1) ∙ i.width;
    }

pub returns : goal.returns
returns c =
    let ys : List ℚ = c.args.values.now in
    let xs : List Term = c.args.terms.now in
    let i = c.loop-term.invariant in (
      sum_over-end (λ t. factor t *ℚ at ys t) xs c.loop-term.term-index c.loop-term.sum _ c.loop-term-test.false i.value,
      sym i.width ∙ product_at-end limit factor c.loop-term.sum (at ys) xs c.loop-term.term-index c.loop-term-test.false,
    )
