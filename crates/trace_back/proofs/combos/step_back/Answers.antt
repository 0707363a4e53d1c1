use Rattle.std.proofs.Common.{◌≡◌, sym, subst, inl, inr, None}
use Rattle.std.specs.Prelude.{MatchResult}
use Rattle.frac128.specs.Limit.{limit}
use Rattle.frac128.specs.Calculation.{first_wide}
use Rattle.frac128.proofs.Calculations.{first_wide-nil}
use Rattle.reductions.specs.declared.steps.Step.{Step}
use Rattle.reductions.specs.Back.{weights_before, weights_step_work}
use Rattle.trace_back.specs.declared.weights.Weights.{Weights as Held}
use Rattle.trace_back.specs.Ends.{IsBackStop}
use Rattle.trace_back.specs.Held.{IsNow, weights_in}
use Rattle.trace_back.proofs.Writes.{now_same}
use Rattle.trace_back.proofs.combos.step_back.Goals as goal

-- the weights are those before the step, and no operation was too wide
abbrev IsBack : Held → Held → Step → Type 0
IsBack old new step =
    IsNow old new (weights_before old.columns step (weights_in old)) × (first_wide limit (weights_step_work old.columns step (weights_in old)) ≡ None)

pub returns-in_ok-single_back-in-Singleton : goal.returns-in_ok-single_back-in-Singleton
returns-in_ok-single_back-in-Singleton c =
    subst (IsBack c.args.weights.now c.single_back.new.weights) (sym c.in-Singleton.is) c.in_ok-single_back-in-Singleton.ensures

pub returns-in_ok-fixed_back-in-Fixed : goal.returns-in_ok-fixed_back-in-Fixed
returns-in_ok-fixed_back-in-Fixed c =
    subst (IsBack c.args.weights.now c.fixed_back.new.weights) (sym c.in-Fixed.is) c.in_ok-fixed_back-in-Fixed.ensures

pub returns-in-Forcing : goal.returns-in-Forcing
returns-in-Forcing c =
    let old = c.args.weights.now in
    subst (λ (s : Step). MatchResult c.forcing_back.result (λ done. IsBack old c.forcing_back.new.weights s) (IsBackStop (weights_step_work old.columns s (weights_in old)))) (sym c.in-Forcing.is) c.forcing_back.ensures

pub returns-in_ok-pair_back-in-Doubleton : goal.returns-in_ok-pair_back-in-Doubleton
returns-in_ok-pair_back-in-Doubleton c =
    subst (IsBack c.args.weights.now c.pair_back.new.weights) (sym c.in-Doubleton.is) c.in_ok-pair_back-in-Doubleton.ensures

pub returns-in-Empty : goal.returns-in-Empty
returns-in-Empty c =
    let old = c.args.weights.now in
    elim c.in-Empty.is [
      | inl e ↦ subst (IsBack old old) (sym e.1) (now_same old c.requires.held, first_wide-nil limit)
      | inr e ↦ subst (IsBack old old) (sym e.1) (now_same old c.requires.held, first_wide-nil limit)
    ]
