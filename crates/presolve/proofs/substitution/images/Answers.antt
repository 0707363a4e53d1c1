use Rattle.std.proofs.Common.{sym, ◌∙◌, ap}
use Rattle.std.specs.Option.{option_map}
use Rattle.certs.specs.System.{Limits}
use Rattle.reductions.specs.Limited.{is_narrow}
use Rattle.presolve.specs.Eliminated.{image_by, image_steps, one_steps}
use Rattle.presolve.proofs.Shifted.{lower_wide, upper_wide, both_narrow, both_mapped}
use Rattle.presolve.proofs.substitution.images.Goals as goal

pub returns-in_default : goal.returns-in_default
returns-in_default c =
    let f = image_steps c.args.equation.now in
    lower_wide f c.args.limits (ap (λ (m : Limits). is_narrow (one_steps f m.lower)) (sym c.limits.view_is) ∙ c.in_default.ensures)

pub returns-in_default-image_of : goal.returns-in_default-image_of
returns-in_default-image_of c =
    let f = image_steps c.args.equation.now in
    upper_wide f c.args.limits
    (ap (λ (m : Limits). is_narrow (one_steps f m.lower)) (sym c.limits.view_is) ∙ c.in-Some.ensures.1)
    (ap (λ (m : Limits). is_narrow (one_steps f m.upper)) (sym c.limits.view_is) ∙ c.in_default-image_of.ensures)

pub returns : goal.returns
returns c =
    let f = image_steps c.args.equation.now in
    let g = image_by c.args.equation.now in (
      both_mapped g c.args.limits c.in-Some.lo c.in-Some-image_of.up
          (c.in-Some.ensures.0 ∙ ap (λ (m : Limits). option_map g m.lower) c.limits.view_is)
          (c.in-Some-image_of.ensures.0 ∙ ap (λ (m : Limits). option_map g m.upper) c.limits.view_is),
      both_narrow f c.args.limits
          (ap (λ (m : Limits). is_narrow (one_steps f m.lower)) (sym c.limits.view_is) ∙ c.in-Some.ensures.1)
          (ap (λ (m : Limits). is_narrow (one_steps f m.upper)) (sym c.limits.view_is) ∙ c.in-Some-image_of.ensures.1),
    )
