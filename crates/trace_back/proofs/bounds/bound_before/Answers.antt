use Rattle.std.proofs.Common.{◌≡◌, refl, sym, subst, inl, inr}
use Rattle.rational.specs.Rational.{ℚ}
use Rattle.frac128.specs.Limit.{limit}
use Rattle.frac128.proofs.Calculations.{first_wide-nil}
use Rattle.reductions.specs.declared.steps.Step.{Step}
use Rattle.trace_back.proofs.Works.{AreNarrow}
use Rattle.trace_back.specs.Back as back
use Rattle.trace_back.proofs.bounds.bound_before.Goals as goal

-- the bound stays, with no operation
abbrev DoesStay : ℚ → Step → Type 0
DoesStay b step = (b ≡ back.bound_before step b) × AreNarrow (back.bound_step_work step b)

pub returns-in-Empty : goal.returns-in-Empty
returns-in-Empty c =
    let b = c.args.bound in
    elim c.in-Empty.is [
      | inl e ↦ subst (DoesStay b) (sym e.1) (refl, first_wide-nil limit)
      | inr h ↦ elim h [
        | inl e ↦ subst (DoesStay b) (sym e.1) (refl, first_wide-nil limit)
        | inr k ↦ elim k [
          | inl e ↦ subst (DoesStay b) (sym e.1) (refl, first_wide-nil limit)
          | inr e ↦ subst (DoesStay b) (sym e.1) (refl, first_wide-nil limit)
        ]
      ]
    ]
