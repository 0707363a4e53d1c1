use Rattle.std.proofs.Common.{◌++◌, ℕ, sym, ◌∙◌, ap, subst, List, Some}
use Rattle.std.proofs.lemmas.Result.{err_from_is_err_and}
use Rattle.std.proofs.lemmas.List.{nil_from_length}
use Rattle.std.proofs.lemmas.List.Elements.{All-pop}
use Rattle.frac128.specs.Limit.{limit}
use Rattle.frac128.specs.Calculation.{first_wide}
use Rattle.frac128.proofs.Calculations.{first_wide-past, first_wide-nil}
use Rattle.reductions.specs.declared.steps.Step.{Step}
use Rattle.reductions.specs.Back.{Weights, weights_back, weights_before, weights_step_work, weights_work}
use Rattle.reductions.specs.Known.{IsKnownStep}
use Rattle.trace_back.specs.Ends.{IsBackStop}
use Rattle.trace_back.specs.Held.{weights_in}
use Rattle.trace_back.proofs.LastSteps.{weights_back-last, weights_work-last}
use Rattle.trace_back.proofs.Works.{AreNarrow, stop_as, stop_here}
use Rattle.trace_back.proofs.combos.all_back.Goals as goal

pub returns-in_err-step_back : goal.returns-in_err-step_back
returns-in_err-step_back c =
    let n = c.args.weights.now.columns in
    let steps = c.args.steps.now in
    let first = weights_in c.args.weights.now in
    let x = weights_in c.loop-step.weights in
    let front = c.in-Some.front.now in
    let step = c.in-Some.step.now in
    let rest = c.loop-step.rest.now in
    let stop = c.in_err-step_back.field-0.0 in
    let here : IsBackStop (weights_step_work n step x) stop = subst (λ (k : ℕ). IsBackStop (weights_step_work k step x) stop) c.loop-step.invariant.columns c.in_err-step_back.ensures in
    let p = err_from_is_err_and c.from_residual.result c.from_residual.ensures.1 in
    rw (p.1, p.2)
    (stop_as (weights_step_work n step x ++ weights_work n front (weights_before n step x)) (weights_work n steps first) stop
    (sym (ap (first_wide limit) (weights_work-last n front step x)) ∙ sym (ap (λ (l : List Step). first_wide limit (weights_work n l x)) c.in-Some.ensures.cases.0) ∙ c.loop-step.invariant.work)
    (stop_here (weights_step_work n step x) _ stop here))

pub loop-step-preserved : goal.loop-step-preserved
loop-step-preserved c =
    let n = c.args.weights.now.columns in
    let x = weights_in c.loop-step.weights in
    let front = c.in-Some.front.now in
    let step = c.in-Some.step.now in
    let is = c.in-Some.ensures.cases.0 in
    let so = c.loop-step.invariant in
    let done = c.in_ok-step_back.ensures in
    let now = done.0.weights_are ∙ ap (λ (k : ℕ). weights_before k step x) so.columns in
    let narrow : AreNarrow (weights_step_work n step x) = subst (λ (k : ℕ). AreNarrow (weights_step_work k step x)) so.columns done.1 in
    record {
      columns = done.0.columns ∙ so.columns;
      rows = done.0.rows ∙ so.rows;
      held = done.0.held;
      known = (All-pop (IsKnownStep n c.args.weights.now.rows) c.loop-step.rest.now front (Some step) is so.known).0;
      back = ap (λ (z : Weights). weights_back n front z) now ∙ sym (weights_back-last n front step x) ∙ sym (ap (λ (l : List Step). weights_back n l x) is) ∙ so.back;
      work =
          ap (λ (z : Weights). first_wide limit (weights_work n front z)) now
          ∙ sym (first_wide-past limit (weights_step_work n step x) _ narrow)
          ∙ sym (ap (first_wide limit) (weights_work-last n front step x))
          ∙ sym (ap (λ (l : List Step). first_wide limit (weights_work n l x)) is)
          ∙ so.work;
    }

pub returns : goal.returns
returns c =
    let n = c.args.weights.now.columns in
    let x = weights_in c.loop-step.weights in
    let so = c.loop-step.invariant in
    let none = nil_from_length c.loop-step.rest.now c.in_default.ensures.cases in (
      record {
        columns = so.columns;
        rows = so.rows;
        held = so.held;
        weights_are = sym (ap (λ (l : List Step). weights_back n l x) none) ∙ so.back;
      },
      sym so.work ∙ ap (λ (l : List Step). first_wide limit (weights_work n l x)) none ∙ first_wide-nil limit,
    )
