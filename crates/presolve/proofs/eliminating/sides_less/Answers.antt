use Rattle.std.proofs.Common.{sym, ◌∙◌, ap}
use Rattle.std.specs.Option.{option_map}
use Rattle.rational.specs.Rational.{◌-ℚ◌, ◌*ℚ◌}
use Rattle.frac128.specs.Limit.{limit}
use Rattle.frac128.specs.Width.{is_wide}
use Rattle.certs.specs.System.{Limits}
use Rattle.reductions.specs.Limited.{is_narrow}
use Rattle.presolve.specs.Eliminated.{one_steps}
use Rattle.presolve.proofs.Shifted.{minus_steps, product_wide, sides_lower_wide, sides_upper_wide, sides_narrow, sides_are}
use Rattle.presolve.proofs.eliminating.sides_less.Goals as goal

pub returns-in_default : goal.returns-in_default
returns-in_default c =
    product_wide c.args.left c.args.right (c.args.left *ℚ c.args.right) c.args.sides (λ i. c.args.left *ℚ c.args.right)
    (ap (is_wide limit) (sym c.in_default.ensures.0) ∙ c.in_default.ensures.1)

pub returns-in_default-side_less : goal.returns-in_default-side_less
returns-in_default-side_less c =
    let p = c.in-Ok.product in
    sides_lower_wide c.args.left c.args.right p c.args.sides c.in-Ok.ensures.0 c.in-Ok.ensures.1
    (ap (λ (m : Limits). is_narrow (one_steps (minus_steps p) m.lower)) (sym c.sides.view_is) ∙ c.in_default-side_less.ensures)

pub returns-in_default-side_less-2 : goal.returns-in_default-side_less-2
returns-in_default-side_less-2 c =
    let p = c.in-Ok.product in
    sides_upper_wide c.args.left c.args.right p c.args.sides c.in-Ok.ensures.0 c.in-Ok.ensures.1
    (ap (λ (m : Limits). is_narrow (one_steps (minus_steps p) m.lower)) (sym c.sides.view_is) ∙ c.in-Some.ensures.1)
    (ap (λ (m : Limits). is_narrow (one_steps (minus_steps p) m.upper)) (sym c.sides.view_is) ∙ c.in_default-side_less-2.ensures)

pub returns : goal.returns
returns c =
    let p = c.in-Ok.product in (
      sides_are c.args.left c.args.right p c.args.sides c.in-Ok.ensures.0 c.in-Some.lo c.in-Some-side_less.up
          (c.in-Some.ensures.0 ∙ ap (λ (m : Limits). option_map (λ s. s -ℚ p) m.lower) c.sides.view_is)
          (c.in-Some-side_less.ensures.0 ∙ ap (λ (m : Limits). option_map (λ s. s -ℚ p) m.upper) c.sides.view_is),
      sides_narrow c.args.left c.args.right p c.args.sides c.in-Ok.ensures.0 c.in-Ok.ensures.1
          (ap (λ (m : Limits). is_narrow (one_steps (minus_steps p) m.lower)) (sym c.sides.view_is) ∙ c.in-Some.ensures.1)
          (ap (λ (m : Limits). is_narrow (one_steps (minus_steps p) m.upper)) (sym c.sides.view_is) ∙ c.in-Some-side_less.ensures.1),
    )
