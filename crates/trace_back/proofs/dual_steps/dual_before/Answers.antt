use Rattle.std.proofs.Common.{◌≡◌, sym, subst, inl, inr, None}
use Rattle.std.specs.Prelude.{MatchResult}
use Rattle.frac128.specs.Limit.{limit}
use Rattle.frac128.specs.Calculation.{first_wide}
use Rattle.reductions.specs.declared.steps.Step.{Step}
use Rattle.reductions.specs.Back.{weights_before, weights_step_work}
use Rattle.trace_back.specs.declared.weights.Weights.{Weights as Held}
use Rattle.trace_back.specs.Ends.{IsBackStop}
use Rattle.trace_back.specs.Held.{IsNow, weights_in}
use Rattle.trace_back.specs.Back.{dual_before as before, dual_step_work}
use Rattle.trace_back.proofs.dual_steps.dual_before.Goals as goal

-- the weights are those before the step, and no operation was too wide
abbrev IsBack : Held → Held → Step → Type 0
IsBack old new step = IsNow old new (before old.columns step (weights_in old)) × (first_wide limit (dual_step_work old.columns step (weights_in old)) ≡ None)

pub returns-in_ok-fixed_before-in-Fixed : goal.returns-in_ok-fixed_before-in-Fixed
returns-in_ok-fixed_before-in-Fixed c = subst (IsBack c.args.weights.now c.fixed_before.new.weights) (sym c.in-Fixed.is) c.in_ok-fixed_before-in-Fixed.ensures

pub returns-in_ok-pair_before-in-Doubleton : goal.returns-in_ok-pair_before-in-Doubleton
returns-in_ok-pair_before-in-Doubleton c = subst (IsBack c.args.weights.now c.pair_before.new.weights) (sym c.in-Doubleton.is) c.in_ok-pair_before-in-Doubleton.ensures

pub returns-in-Empty : goal.returns-in-Empty
returns-in-Empty c =
    let old = c.args.weights.now in
    let n = old.columns in
    let w = weights_in old in
    let r = c.step_back.result in
    let new = c.step_back.new.weights in
    let Passes = λ (s : Step).
    MatchResult r (λ done. IsNow old new (weights_before n s w) × (first_wide limit (weights_step_work n s w) ≡ None)) (IsBackStop (weights_step_work n s w))
    → MatchResult r (λ done. IsBack old new s) (IsBackStop (dual_step_work n s w)) in
    elim c.in-Empty.is [
      | inl e ↦ subst Passes (sym e.1) (λ h. h) c.step_back.ensures
      | inr h ↦ elim h [
        | inl e ↦ subst Passes (sym e.1) (λ h. h) c.step_back.ensures
        | inr k ↦ elim k [
          | inl e ↦ subst Passes (sym e.1) (λ h. h) c.step_back.ensures
          | inr e ↦ subst Passes (sym e.1) (λ h. h) c.step_back.ensures
        ]
      ]
    ]
