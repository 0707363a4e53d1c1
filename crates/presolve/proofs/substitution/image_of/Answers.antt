use Rattle.std.proofs.Common.{◌≡◌, Option, Some, None, true, false, refl, subst, sym, ◌∙◌, ap}
use Rattle.std.specs.Option.{option_map}
use Rattle.rational.specs.Rational.{ℚ, ◌-ℚ◌, ◌*ℚ◌, ◌/ℚ◌}
use Rattle.rational.specs.Linear.{Term}
use Rattle.frac128.specs.Limit.{limit}
use Rattle.frac128.specs.Width.{operation, is_wide}
use Rattle.frac128.specs.declared.Op.TheVariants.{Over}
use Rattle.reductions.specs.Limited.{is_narrow}
use Rattle.presolve.specs.declared.eliminating.Equation.{Equation as PairEquation}
use Rattle.presolve.specs.Eliminated.{image_by, image_steps, less_steps, one_steps}
use Rattle.presolve.proofs.Narrow.{narrow_nil}
use Rattle.presolve.proofs.Shifted.{image_rest_wide, image_wide, image_narrow}
use Rattle.presolve.proofs.substitution.image_of.Goals as goal

-- what is answered for a limit
abbrev IsImage : PairEquation → Option ℚ → Option ℚ → Type 0
IsImage q image side = (image ≡ option_map (image_by q) side) × (is_narrow (one_steps (image_steps q) side) ≡ true)

pub returns-in_default : goal.returns-in_default
returns-in_default c = subst (IsImage c.args.equation.now None) (sym c.in_default.is) (refl, narrow_nil)

pub returns-in_default-less_product : goal.returns-in_default-less_product
returns-in_default-less_product c =
    let q = c.args.equation.now in
    let l = c.in-Some.limit in
    subst (λ (side : Option ℚ). is_narrow (one_steps (image_steps q) side) ≡ false) (sym c.in-Some.is)
    (image_rest_wide q l (ap (λ (t : Term). is_narrow (less_steps q.value t.factor l)) (sym c.gone.view_is) ∙ c.in_default-less_product.ensures))

pub returns-in-Ok : goal.returns-in-Ok
returns-in-Ok c =
    let q = c.args.equation.now in
    let l = c.in-Some.limit in
    let e = c.in-Some-less_product.ensures in
    let rest : c.in-Some-less_product.rest ≡ q.value -ℚ q.gone.factor *ℚ l = e.0 ∙ ap (λ (t : Term). q.value -ℚ t.factor *ℚ l) c.gone.view_is in
    subst (IsImage q (Some c.in-Ok.image)) (sym c.in-Some.is) (
      ap (λ (z : ℚ). Some z) (c.in-Ok.ensures.0 ∙ ap (λ (t : Term). c.in-Some-less_product.rest /ℚ t.factor) c.kept.view_is ∙ ap (λ z. z /ℚ q.kept.factor) rest),
      image_narrow q l c.in-Some-less_product.rest rest (ap (λ (t : Term). is_narrow (less_steps q.value t.factor l)) (sym c.gone.view_is) ∙ e.1)
          (ap (λ (t : Term). is_wide limit (operation Over c.in-Some-less_product.rest t.factor)) (sym c.kept.view_is) ∙ c.in-Ok.ensures.1),
    )

pub returns-in-Err : goal.returns-in-Err
returns-in-Err c =
    let q = c.args.equation.now in
    let l = c.in-Some.limit in
    let e = c.in-Some-less_product.ensures in
    let rest : c.in-Some-less_product.rest ≡ q.value -ℚ q.gone.factor *ℚ l = e.0 ∙ ap (λ (t : Term). q.value -ℚ t.factor *ℚ l) c.gone.view_is in
    subst (λ (side : Option ℚ). is_narrow (one_steps (image_steps q) side) ≡ false) (sym c.in-Some.is)
    (image_wide q l c.in-Some-less_product.rest rest (ap (λ (t : Term). is_narrow (less_steps q.value t.factor l)) (sym c.gone.view_is) ∙ e.1)
    (ap (λ (t : Term). is_wide limit (operation Over c.in-Some-less_product.rest t.factor)) (sym c.kept.view_is) ∙ ap (is_wide limit) (sym c.in-Err.ensures.0) ∙ c.in-Err.ensures.1))
