use Rattle.std.proofs.Common.{ap, sym, ◌∙◌, Bool, cond}
use Rattle.std.proofs.lemmas.Result.{err_from_is_err_and}
use Rattle.rational.specs.Rational.{ℚ, eq_ℚ}
use Rattle.lp_model.specs.Satisfaction.{values_at}
use Rattle.certs.specs.declared.evidence.Checked.TheVariants.{Yes, No}
use Rattle.certs.proofs.Held.{told}
use Rattle.bound_checks.proofs.Apart.{wide_value, value_decided}
use Rattle.bound_checks.proofs.values.is_value.Goals as goal

pub returns-in_err-sum : goal.returns-in_err-sum
returns-in_err-sum c =
    let p = err_from_is_err_and c.from_residual.result c.from_residual.ensures.1 in
    rw (p.1, p.2)
    (wide_value c.args.model.now (values_at c.args.point.now.values) c.args.value _ c.in_err-sum.ensures)

pub returns : goal.returns
returns c =
    let e = c.in_ok-sum.ensures in
    told c.eq.result
    ∙ (ap (λ (t : Bool). cond t Yes No) (c.eq.ensures ∙ ap (λ (r : ℚ). eq_ℚ r c.args.value) e.0)
    ∙ sym (value_decided c.args.model.now (values_at c.args.point.now.values) c.args.value e.1))
