use Rattle.std.proofs.Common.{◌≡◌, ◌∙◌, ◌<◌, ℕ, List, length, get_or, sym, ap, subst, refl}
use Rattle.std.specs.Prelude.{All}
use Rattle.std.proofs.lemmas.List.{get_or_read_under}
use Rattle.std.proofs.lemmas.List.Elements.{All-get_or}
use Rattle.std.proofs.lemmas.Result.{err_from_is_err_and}
use Rattle.rational.specs.Rational.{ℚ, ◌+ℚ◌, ◌*ℚ◌, zero_ℚ}
use Rattle.rational.specs.Sum.{sum_over}
use Rattle.rational.specs.Linear.{Term}
use Rattle.rational.proofs.Sums.{nothing_first, sum_over-step, sum_over-end}
use Rattle.lp_model.specs.declared.members.Side.{Side}
use Rattle.frac128.specs.Limit.{limit}
use Rattle.frac128.specs.Calculation.{first_wide, product_steps}
use Rattle.frac128.proofs.Calculations.{product_at-end}
use Rattle.lp_model.specs.Satisfaction.{values_at}
use Rattle.certs.specs.Combination.{signed}
use Rattle.price_checks.proofs.Products.{next_wide, next_value, next_fits, signed_steps, signed_sum}
use Rattle.price_checks.proofs.sums.signed_value.Goals as goal

-- the factor of a term on a side, and the value of its column
abbrev factor : Side → Term → ℚ
factor side t = signed side t.factor

abbrev at : List ℚ → Term → ℚ
at ys t = values_at ys t.column

-- what the index reads
read : (ys : List ℚ) (xs : List Term) (i : ℕ) (x : Term) (j : ℕ) (y : ℚ) → All (λ t. t.column < length ys) xs → i < length xs → x ≡ get_or xs i x → j ≡ x.column → y ≡ get_or ys j y → y ≡ at ys x
read ys xs i x j y all h is e f =
    get_or_read_under ys x.column (length ys) y zero_ℚ (subst (λ (n : ℕ). y ≡ get_or ys n y) e f) (subst (λ (z : Term). z.column < length ys) (sym is) (All-get_or (λ (z : Term). z.column < length ys) xs i x h all)) refl

pub loop-term-init : goal.loop-term-init
loop-term-init c =
    let side = c.args.side in
    let ys : List ℚ = c.args.values.now in
    let xs : List Term = c.args.terms.now in
    record {
      value = ap (λ (q : ℚ). q +ℚ sum_over (λ t. factor side t *ℚ at ys t) xs) c.whole-sum.ensures ∙ nothing_first _ ∙ signed_sum side xs (values_at ys);
      width = ap (λ (q : ℚ). first_wide limit (product_steps (factor side) (at ys) q xs)) c.whole-sum.ensures ∙ sym (ap (first_wide limit) (signed_steps side xs (values_at ys)));
    }

pub returns-in_err-sum : goal.returns-in_err-sum
returns-in_err-sum c =
    let side = c.args.side in
    let ys : List ℚ = c.args.values.now in
    let xs : List Term = c.args.terms.now in
    let x : Term = c.term-item.result in
    let a = c.signed-factor.ensures ∙ ap (λ (t : Term). factor side t) c.term.view_is in
    let b = read ys xs c.loop-term.term-index x c.term.inside.column c.index-values-term.result c.requires c.loop-term-test.true c.term-item.is (ap (λ (t : Term). t.column) c.term.view_is) c.index-values-term.is in
    let p = err_from_is_err_and c.from_residual.result c.from_residual.ensures.1 in
    rw (p.1, p.2)
    (sym c.loop-term.invariant.width
    ∙ next_wide (factor side) (at ys) c.loop-term.sum xs c.loop-term.term-index x c.loop-term-test.true c.term-item.is c.signed-factor.result c.index-values-term.result a b _ c.in_err-sum.ensures)

pub loop-term-preserved : goal.loop-term-preserved
loop-term-preserved c =
    let side = c.args.side in
    let ys : List ℚ = c.args.values.now in
    let xs : List Term = c.args.terms.now in
    let x : Term = c.term-item.result in
    let i = c.loop-term.term-index in
    let sum = c.loop-term.sum in
    let next = c.in_ok-sum.sum in
    let e = c.in_ok-sum.ensures in
    let a = c.signed-factor.ensures ∙ ap (λ (t : Term). factor side t) c.term.view_is in
    let b = read ys xs i x c.term.inside.column c.index-values-term.result c.requires c.loop-term-test.true c.term-item.is (ap (λ (t : Term). t.column) c.term.view_is) c.index-values-term.is in
    record {
      value = sum_over-step (λ (t : Term). factor side t *ℚ at ys t) xs i x sum next _ c.loop-term-test.true c.term-item.is
          (next_value (factor side) (at ys) sum xs i x c.loop-term-test.true c.term-item.is c.signed-factor.result c.index-values-term.result a b next e.0) c.loop-term.invariant.value;
      width = next_fits (factor side) (at ys) sum xs i x c.loop-term-test.true c.term-item.is c.signed-factor.result c.index-values-term.result a b next e.0 e.1 ∙ c.loop-term.invariant.width;
    }

pub returns : goal.returns
returns c =
    let side = c.args.side in
    let ys : List ℚ = c.args.values.now in
    let xs : List Term = c.args.terms.now in
    let i = c.loop-term.term-index in (
      sum_over-end (λ (t : Term). factor side t *ℚ at ys t) xs i c.loop-term.sum _ c.loop-term-test.false c.loop-term.invariant.value,
      sym c.loop-term.invariant.width ∙ product_at-end limit (factor side) c.loop-term.sum (at ys) xs i c.loop-term-test.false,
    )
