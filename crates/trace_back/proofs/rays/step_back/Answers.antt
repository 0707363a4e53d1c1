use Rattle.std.proofs.Common.{◌≡◌, refl, sym, ◌∙◌, ap, subst, length, set, inl, inr}
use Rattle.frac128.specs.Limit.{limit}
use Rattle.frac128.proofs.Calculations.{first_wide-nil}
use Rattle.rational.specs.Linear.{Assignment}
use Rattle.lp_model.specs.Satisfaction.{values_at}
use Rattle.reductions.specs.declared.steps.Step.{Step}
use Rattle.reductions.specs.Back.{with_value}
use Rattle.reductions.specs.Known.{IsKnownStep}
use Rattle.trace_back.proofs.Works.{AreNarrow}
use Rattle.trace_back.proofs.Writes.{set_at}
use Rattle.trace_back.specs.Back.{ray_before, ray_step_work}
use Rattle.trace_back.proofs.rays.step_back.Goals as goal

-- the values x are those before the step where y are those after it, and no operation is too wide
abbrev AreBefore : Assignment → Assignment → Step → Type 0
AreBefore x y step = (y ≡ ray_before step x) × AreNarrow (ray_step_work step x)

pub returns-in-Fixed : goal.returns-in-Fixed
returns-in-Fixed c =
    let values = c.args.values.now in
    let j = c.in-Fixed.fixed.column in
    let known = subst (λ (s : Step). IsKnownStep (length values) c.requires.0 s) c.in-Fixed.is c.requires.1 in
    subst (AreBefore (values_at values) (values_at (set values j c.whole.result))) (sym c.in-Fixed.is)
    ((λ i. λ k. set_at values j k c.whole.result known.0 i) ∙ ap (λ z. with_value j z (values_at values)) c.whole.ensures, first_wide-nil limit)

pub returns-in-Empty : goal.returns-in-Empty
returns-in-Empty c =
    let x = values_at c.args.values.now in
    elim c.in-Empty.is [
      | inl e ↦ subst (AreBefore x x) (sym e.1) (refl, first_wide-nil limit)
      | inr h ↦ elim h [
        | inl e ↦ subst (AreBefore x x) (sym e.1) (refl, first_wide-nil limit)
        | inr k ↦ elim k [
          | inl e ↦ subst (AreBefore x x) (sym e.1) (refl, first_wide-nil limit)
          | inr e ↦ subst (AreBefore x x) (sym e.1) (refl, first_wide-nil limit)
        ]
      ]
    ]
