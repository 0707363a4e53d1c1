use Rattle.std.proofs.Common.{sym, ◌∙◌, ap}
use Rattle.rational.specs.Rational.{◌-ℚ◌, ◌*ℚ◌}
use Rattle.certs.specs.Rows.{row_of}
use Rattle.certs.specs.System.{Limits}
use Rattle.reductions.specs.Limited.{is_narrow, map_limits}
use Rattle.presolve.specs.Eliminated.{sides_steps, terms_steps, terms_with}
use Rattle.presolve.proofs.Rows.{row_times_wide, row_sides_wide, row_terms_wide, row_made}
use Rattle.presolve.proofs.eliminating.row_with.Goals as goal

pub returns-in_default : goal.returns-in_default
returns-in_default c = row_times_wide c.args.elimination.now (row_of c.args.row.now) c.args.factor c.requires.factor c.in_default.ensures

pub returns-in_default-sides_less : goal.returns-in_default-sides_less
returns-in_default-sides_less c =
    let r = row_of c.args.row.now in
    let t = c.in-Some.times in
    row_sides_wide c.args.elimination.now r c.args.factor c.requires.factor t c.in-Some.ensures.0 c.in-Some.ensures.1
    (ap (λ z. is_narrow (sides_steps t z r.limits)) (sym c.value.ensures) ∙ c.in_default-sides_less.ensures)

pub returns-in_default-made : goal.returns-in_default-made
returns-in_default-made c =
    let e = c.args.elimination.now in
    let r = row_of c.args.row.now in
    let t = c.in-Some.times in
    let wide = rw c.in_default-made.is at c.in_ok-made.ensures in
    row_terms_wide e r c.args.factor c.requires.factor t c.in-Some.ensures.0 c.in-Some.ensures.1
    (ap (λ z. is_narrow (terms_steps e t z)) (sym c.as_slice.ensures) ∙ wide)

pub returns : goal.returns
returns c =
    let e = c.args.elimination.now in
    let r = row_of c.args.row.now in
    let t = c.in-Some.times in
    let terms = c.in-Some-made.terms in
    let sides : Limits = record { lower = c.sides.inside.lo; upper = c.sides.inside.up } in
    let made = rw c.in-Some-made.is at c.in_ok-made.ensures in
    let all = row_made e r c.args.factor c.requires.factor t c.in-Some.ensures.0 c.in-Some.ensures.1 terms sides
    (made.0 ∙ ap (terms_with e t) c.as_slice.ensures)
    (ap (λ z. is_narrow (terms_steps e t z)) (sym c.as_slice.ensures) ∙ made.1)
    (c.sides.view_is ∙ c.in-Some-sides_less.ensures.0 ∙ ap (λ z. map_limits (λ s. s -ℚ t *ℚ z) r.limits) c.value.ensures)
    (ap (λ z. is_narrow (sides_steps t z r.limits)) (sym c.value.ensures) ∙ c.in-Some-sides_less.ensures.1) in
    ((all.0.0, ap row_of c.new-row.ensures ∙ all.0.1), all.1)
