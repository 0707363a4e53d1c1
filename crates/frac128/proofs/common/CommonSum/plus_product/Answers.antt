use Rattle.std.proofs.Common.{◌≡◌, ◌*◌, ◌/◌, ◌<◌, ◌≤◌, ℤ, pos, ◌*ℤ◌, ◌+ℤ◌, unsigned_abs, to_z, ◌∙◌, ap, sym, subst, arith}
use Rattle.std.specs.Int.{w128}
use Rattle.std.proofs.Math.Nat.{div-mul_cancel, mul-pos}
use Rattle.rational.specs.Rational.{frac}
use Rattle.frac128.specs.Calculation.{AddsProduct}
use Rattle.frac128.specs.Limit.{limit}
use Rattle.frac128.proofs.Commons.{adds_nothing, adds_product}
use Rattle.frac128.proofs.Machine.{z_read}
use Rattle.frac128.proofs.Open.{opened}
use Rattle.frac128.proofs.common.CommonSum.plus_product.Goals as goal

pub returns-then-top-eq0 : goal.returns-then-top-eq0
returns-then-top-eq0 c =
    let f = opened _ _ _ c.factor.invariant c.factor.view_is in
    let v = opened _ _ _ c.value.invariant c.value.view_is in
    let zf = z_read c.factor.inside.num c.factor.invariant.num_fits in
    let zv = z_read c.value.inside.num c.value.invariant.num_fits in
    let top = c.in_ok-top.ensures.1 ∙ (λ i. (zf ∙ f.0) i *ℤ (zv ∙ v.0) i) in
    adds_nothing c.args.self c.args.factor c.args.value c.self.inside.num c.self.inside.den (sym c.self.view_is) c.self.invariant.positive c.self.invariant.den_fits c.self.invariant.num_fits (sym top ∙ sym (z_read c.in_ok-top.top (subst (λ z. unsigned_abs z ≤ limit) (sym c.in_ok-top.ensures.1) c.in_ok-top.ensures.0)) ∙ ap (to_z w128) c.if-top-eq0.true)

pub over-requires-2-clause-some : goal.over-requires-2-clause-some
over-requires-2-clause-some c =
    let bottom = c.in_ok-bottom.ensures.1 ∙ (λ i. c.in_ok-word.ensures i * c.in_ok-word-2.ensures i) in
    subst (λ n. 0 < n) (sym bottom) (mul-pos c.factor.invariant.positive c.value.invariant.positive)

pub returns : goal.returns
returns c =
    let f = opened _ _ _ c.factor.invariant c.factor.view_is in
    let v = opened _ _ _ c.value.invariant c.value.view_is in
    let zf = z_read c.factor.inside.num c.factor.invariant.num_fits in
    let zv = z_read c.value.inside.num c.value.invariant.num_fits in
    let zn = z_read c.self.inside.num c.self.invariant.num_fits in
    let n = c.self.inside.num in
    let d = c.self.inside.den in
    let t = c.in_ok-top.top in
    let b = c.in_ok-bottom.bottom in
    let all = c.in_ok-common.common in
    let common = c.in_ok-common.ensures in
    let top = c.in_ok-top.ensures in
    let is_top = top.1 ∙ (λ i. (zf ∙ f.0) i *ℤ (zv ∙ v.0) i) in
    let is_bottom = c.in_ok-bottom.ensures.1 ∙ (λ i. (c.in_ok-word.ensures ∙ f.1) i * (c.in_ok-word-2.ensures ∙ v.1) i) in
    let left : c.in_ok-left.left ≡ n *ℤ pos (all / d) = c.in_ok-left.ensures.is ∙ ap (λ z. z *ℤ pos (all / d)) zn in
    let small : unsigned_abs t ≤ limit = subst (λ z. unsigned_abs z ≤ limit) (sym top.1) top.0 in
    let right : c.in_ok-right.right ≡ t *ℤ pos (all / b) = c.in_ok-right.ensures.is ∙ ap (λ z. z *ℤ pos (all / b)) (z_read t small) in
    let sum = c.in_ok-sum_within.ensures in
    let both : c.in_ok-sum_within.field-0 ≡ n *ℤ pos (all / d) +ℤ t *ℤ pos (all / b) = sum.1 ∙ (λ i. (z_read c.in_ok-left.left c.in_ok-left.ensures.fits ∙ left) i +ℤ (z_read c.in_ok-right.right c.in_ok-right.ensures.fits ∙ right) i) in
    let fits : unsigned_abs c.in_ok-sum_within.field-0 ≤ limit = subst (λ z. unsigned_abs z ≤ limit) (sym sum.1) sum.0 in
    let word = common.fits in
    subst (λ z. AddsProduct c.args.self c.args.factor c.args.value (frac z all)) (sym both ∙ sym (z_read c.in_ok-sum_within.field-0 fits))
    (adds_product c.args.self c.args.factor c.args.value n d t b all (all / d) (all / b) (sym c.self.view_is) c.self.invariant.positive (sym is_top) (sym is_bottom)
    common.positive (omega (arith, word)) (div-mul_cancel d common.left) (div-mul_cancel b common.right) small
    (subst (λ z. unsigned_abs z ≤ limit) left c.in_ok-left.ensures.fits) (subst (λ z. unsigned_abs z ≤ limit) right c.in_ok-right.ensures.fits)
    (subst (λ z. unsigned_abs z ≤ limit) both fits))
