use Rattle.std.proofs.Common.{refl, inl, inr}
use Rattle.frac128.specs.Limit.{limit}
use Rattle.frac128.proofs.Calculations.{first_wide-nil}
use Rattle.lp_model.specs.Satisfaction.{values_at}
use Rattle.trace_back.proofs.Values.{fixed_before, same_before}
use Rattle.trace_back.proofs.points.step_back.Goals as goal

pub returns-in-Fixed : goal.returns-in-Fixed
returns-in-Fixed c = fixed_before c.args.step.now c.in-Fixed.fixed c.args.values.now c.requires.0 c.in-Fixed.is c.requires.1

pub returns-in-Empty : goal.returns-in-Empty
returns-in-Empty c =
    let x = values_at c.args.values.now in
    elim c.in-Empty.is [
      | inl e ↦ same_before c.args.step.now _ x e.1 (refl, first_wide-nil limit)
      | inr h ↦ elim h [
        | inl e ↦ same_before c.args.step.now _ x e.1 (refl, first_wide-nil limit)
        | inr k ↦ elim k [
          | inl e ↦ same_before c.args.step.now _ x e.1 (refl, first_wide-nil limit)
          | inr e ↦ same_before c.args.step.now _ x e.1 (refl, first_wide-nil limit)
        ]
      ]
    ]
