-- Values of columns, after a step that gives one of them a value.
use Rattle.std.proofs.Common.{◌≡◌, sym, subst, ℕ, List, length, set}
use Rattle.rational.specs.Rational.{ℚ}
use Rattle.rational.specs.Linear.{Assignment}
use Rattle.frac128.specs.Limit.{limit}
use Rattle.frac128.proofs.Calculations.{first_wide-nil}
use Rattle.lp_model.specs.Satisfaction.{values_at}
use Rattle.reductions.specs.declared.steps.Step.{Step}
use Rattle.reductions.specs.declared.steps.Step.TheVariants.{Fixed}
use Rattle.reductions.specs.declared.steps.Fixed.{Fixed as Value}
use Rattle.reductions.specs.Back.{point_before, point_step_work}
use Rattle.reductions.specs.Known.{IsKnownStep}
use Rattle.trace_back.proofs.Works.{AreNarrow}
use Rattle.trace_back.proofs.Writes.{set_at}

-- the values x are those before the step where y are those after it, and no operation is too wide
abbrev pub AreBefore : Step → Assignment → Assignment → Type 0
AreBefore step x y = (y ≡ point_before step x) × AreNarrow (point_step_work step x)

pub fixed_before : (step : Step) (f : Value) (values : List ℚ) (rows : ℕ) → step ≡ Fixed f → IsKnownStep (length values) rows step → AreBefore step (values_at values) (values_at (set values f.column f.value))
fixed_before step f values rows is known =
    let h = subst (λ (s : Step). IsKnownStep (length values) rows s) is known in
    subst (λ (s : Step). AreBefore s (values_at values) (values_at (set values f.column f.value))) (sym is)
    (λ i. λ k. set_at values f.column k f.value h.0 i, first_wide-nil limit)

-- a step that removes no column
pub same_before : (step kept : Step) (x : Assignment) → step ≡ kept → AreBefore kept x x → AreBefore step x x
same_before step kept x is h = subst (λ (s : Step). AreBefore s x x) (sym is) h
