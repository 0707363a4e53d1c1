use Rattle.std.proofs.Common.{refl, sym, ◌∙◌, ap}
use Rattle.std.proofs.lemmas.Result.{err_from_is_err_and}
use Rattle.rational.specs.Rational.{ℚ, ◌+ℚ◌, ◌*ℚ◌}
use Rattle.rational.proofs.Sums.{nothing_first, sum_over-step, sum_over-end}
use Rattle.lp_model.specs.Program.{Program}
use Rattle.frac128.specs.Limit.{limit}
use Rattle.frac128.specs.Calculation.{first_wide, product_steps}
use Rattle.frac128.proofs.Calculations.{product_at-end}
use Rattle.certs.specs.declared.evidence.Share.{Share}
use Rattle.certs.specs.Alternative.{cost, source_cost}
use Rattle.price_checks.proofs.Products.{next_wide, next_value, next_fits}
use Rattle.price_checks.proofs.costs.cost.Goals as goal

-- what the source of a share costs, and its weight
abbrev costs : Program → Share → ℚ
costs model s = source_cost model s.source

abbrev weighs : Share → ℚ
weighs s = s.weight

pub loop-share-init : goal.loop-share-init
loop-share-init c =
    let model = c.args.model.now in
    let shares = c.args.shares.now in
    record {
      value = ap (λ (q : ℚ). q +ℚ cost model shares) c.whole-sum.ensures ∙ nothing_first _;
      width = ap (λ (q : ℚ). first_wide limit (product_steps (costs model) weighs q shares)) c.whole-sum.ensures;
    }

pub returns-in_err-sum : goal.returns-in_err-sum
returns-in_err-sum c =
    let s = c.share-item.result in
    let p = err_from_is_err_and c.from_residual.result c.from_residual.ensures.1 in
    rw (p.1, p.2)
    (sym c.loop-share.invariant.width
    ∙ next_wide (costs c.args.model.now) weighs c.loop-share.sum c.args.shares.now c.loop-share.share-index s c.loop-share-test.true c.share-item.is c.source_cost-cost.result s.weight c.source_cost-cost.ensures refl _ c.in_err-sum.ensures)

pub loop-share-preserved : goal.loop-share-preserved
loop-share-preserved c =
    let f = costs c.args.model.now in
    let sum = c.loop-share.sum in
    let shares = c.args.shares.now in
    let i = c.loop-share.share-index in
    let s = c.share-item.result in
    let next = c.in_ok-sum.sum in
    let e = c.in_ok-sum.ensures in
    record {
      value = sum_over-step (λ (t : Share). f t *ℚ weighs t) shares i s sum next _ c.loop-share-test.true c.share-item.is
          (next_value f weighs sum shares i s c.loop-share-test.true c.share-item.is c.source_cost-cost.result s.weight c.source_cost-cost.ensures refl next e.0) c.loop-share.invariant.value;
      width = next_fits f weighs sum shares i s c.loop-share-test.true c.share-item.is c.source_cost-cost.result s.weight c.source_cost-cost.ensures refl next e.0 e.1 ∙ c.loop-share.invariant.width;
    }

pub returns : goal.returns
returns c =
    let f = costs c.args.model.now in
    let shares = c.args.shares.now in
    let i = c.loop-share.share-index in (
      sum_over-end (λ (t : Share). f t *ℚ weighs t) shares i c.loop-share.sum _ c.loop-share-test.false c.loop-share.invariant.value,
      sym c.loop-share.invariant.width ∙ product_at-end limit f c.loop-share.sum weighs shares i c.loop-share-test.false,
    )
