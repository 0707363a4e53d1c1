use Rattle.std.proofs.Common.{ap, sym, ◌∙◌, Bool, cond}
use Rattle.std.proofs.lemmas.Result.{err_from_is_err_and}
use Rattle.rational.specs.Rational.{ℚ, eq_ℚ}
use Rattle.certs.specs.declared.evidence.Checked.TheVariants.{Yes, No}
use Rattle.certs.specs.Bound.{directed}
use Rattle.certs.proofs.Held.{told}
use Rattle.bound_checks.proofs.Apart.{unusable_right, wide_right_side, right_decided}
use Rattle.bound_checks.proofs.parts.is_right_side.Goals as goal

pub returns-then-not-are_usable : goal.returns-then-not-are_usable
returns-then-not-are_usable c = unusable_right c.args.model.now c.args.set.now.members c.args.shares.now c.args.bound (sym c.are_usable.ensures ∙ c.if-not-are_usable.true)

pub returns-in_err-right : goal.returns-in_err-right
returns-in_err-right c =
    let p = err_from_is_err_and c.from_residual.result c.from_residual.ensures.1 in
    rw (p.1, p.2)
    (wide_right_side c.args.model.now c.args.set.now.members c.args.shares.now c.args.bound (sym c.are_usable.ensures ∙ c.if-not-are_usable.false) _ c.in_err-right.ensures)

pub returns : goal.returns
returns c =
    let model = c.args.model.now in
    let f = c.in_ok-right.ensures in
    let test = c.eq.ensures ∙ (ap (λ (z : ℚ). eq_ℚ c.in_ok-right.right z) c.directed.ensures ∙ ap (λ (r : ℚ). eq_ℚ r (directed model c.args.bound)) f.0) in
    told c.eq.result
    ∙ (ap (λ (t : Bool). cond t Yes No) test
    ∙ sym (right_decided model c.args.set.now.members c.args.shares.now c.args.bound (sym c.are_usable.ensures ∙ c.if-not-are_usable.false) f.1))
