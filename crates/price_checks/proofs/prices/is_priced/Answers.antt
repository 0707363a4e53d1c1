use Rattle.std.proofs.Common.{sym, ◌∙◌, ap, Bool, cond}
use Rattle.std.proofs.lemmas.Result.{err_from_is_err_and}
use Rattle.rational.specs.Rational.{ℚ, le_q}
use Rattle.lp_model.specs.declared.members.Side.{Side}
use Rattle.lp_model.specs.Members.{number}
use Rattle.lp_model.specs.Satisfaction.{values_at}
use Rattle.certs.specs.declared.evidence.Checked.TheVariants.{Yes, No}
use Rattle.certs.specs.Combination.{signed}
use Rattle.certs.proofs.Held.{told}
use Rattle.price_checks.proofs.Member.{sum_wide, product_wide, difference_wide, decided}
use Rattle.price_checks.proofs.prices.is_priced.Goals as goal

pub returns-in_err-value : goal.returns-in_err-value
returns-in_err-value c =
    let model = c.args.model.now in
    let m = c.args.member in
    let p = err_from_is_err_and c.from_residual.result c.from_residual.ensures.1 in
    rw (p.1, p.2) (sum_wide model c.args.total (values_at c.args.values.now) m (number model m) c.in-Some.number c.in-Some.ensures _ c.in_err-value.ensures)

pub returns-in_err-product : goal.returns-in_err-product
returns-in_err-product c =
    let model = c.args.model.now in
    let m = c.args.member in
    let v = c.in_ok-value.ensures in
    let a = c.signed.ensures ∙ ap (λ (side : Side). signed side c.in-Some.number) c.side.ensures in
    let e = c.in_err-product.ensures in
    let p = err_from_is_err_and c.from_residual-in_err-product.result c.from_residual-in_err-product.ensures.1 in
    rw (p.1, p.2)
    (product_wide model c.args.total (values_at c.args.values.now) m (number model m) c.in-Some.number c.in-Some.ensures c.in_ok-value.value c.signed.result v.0 a v.1 _ e.0 e.1)

pub returns-in_err-left : goal.returns-in_err-left
returns-in_err-left c =
    let model = c.args.model.now in
    let m = c.args.member in
    let v = c.in_ok-value.ensures in
    let a = c.signed.ensures ∙ ap (λ (side : Side). signed side c.in-Some.number) c.side.ensures in
    let f = c.in_ok-product.ensures in
    let e = c.in_err-left.ensures in
    let p = err_from_is_err_and c.from_residual-in_err-left.result c.from_residual-in_err-left.ensures.1 in
    rw (p.1, p.2)
    (difference_wide model c.args.total (values_at c.args.values.now) m (number model m) c.in-Some.number c.in-Some.ensures c.in_ok-value.value c.signed.result v.0 a v.1 c.in_ok-product.product f.0 f.1 _ e.0 e.1)

pub returns : goal.returns
returns c =
    let model = c.args.model.now in
    let m = c.args.member in
    let v = c.in_ok-value.ensures in
    let a = c.signed.ensures ∙ ap (λ (side : Side). signed side c.in-Some.number) c.side.ensures in
    let f = c.in_ok-product.ensures in
    let e = c.in_ok-left.ensures in
    told c.is_at_most.result
    ∙ (ap (λ (t : Bool). cond t Yes No) (c.is_at_most.ensures ∙ ap (λ (q : ℚ). le_q c.in_ok-left.left q) c.member_cost.ensures)
    ∙ sym (decided model c.args.total (values_at c.args.values.now) m (number model m) c.in-Some.number c.in-Some.ensures c.in_ok-value.value c.signed.result v.0 a v.1 c.in_ok-product.product f.0 f.1 c.in_ok-left.left e.0 e.1))
