use Rattle.std.proofs.Common.{◌++◌, ℕ, sym, ◌∙◌, ap, subst, List, Some}
use Rattle.std.proofs.lemmas.Result.{err_from_is_err_and}
use Rattle.std.proofs.lemmas.List.{nil_from_length}
use Rattle.std.proofs.lemmas.List.Elements.{All-pop}
use Rattle.frac128.specs.Limit.{limit}
use Rattle.frac128.specs.Calculation.{first_wide}
use Rattle.frac128.proofs.Calculations.{first_wide-past, first_wide-nil}
use Rattle.reductions.specs.declared.steps.Step.{Step}
use Rattle.reductions.specs.Back.{Weights}
use Rattle.reductions.specs.Known.{IsKnownStep}
use Rattle.trace_back.specs.Ends.{IsBackStop}
use Rattle.trace_back.specs.Held.{weights_in}
use Rattle.trace_back.proofs.Works.{AreNarrow, first_here, first_past, narrow_both, stop_as, stop_here}
use Rattle.trace_back.specs.Back.{dual_before as weights_before, dual_step_work, duals_back, bound_before as number_before, bound_step_work, bound_back, duals_work}
use Rattle.trace_back.proofs.LastOnes.{bound_back-last, duals_back-last, duals_work-last}
use Rattle.trace_back.proofs.duals.all_back.Goals as goal

pub returns-in_err-dual_before : goal.returns-in_err-dual_before
returns-in_err-dual_before c =
    let n = c.args.weights.now.columns in
    let steps = c.args.steps.now in
    let first = weights_in c.args.weights.now in
    let x = weights_in c.loop-step.weights in
    let b = c.loop-step.so_far in
    let front = c.in-Some.front.now in
    let step = c.in-Some.step.now in
    let stop = c.in_err-dual_before.field-0.0 in
    let here : IsBackStop (dual_step_work n step x) stop = subst (λ (k : ℕ). IsBackStop (dual_step_work k step x) stop) c.loop-step.invariant.columns c.in_err-dual_before.ensures in
    let p = err_from_is_err_and c.from_residual.result c.from_residual.ensures.1 in
    rw (p.1, p.2)
    (stop_as ((dual_step_work n step x ++ bound_step_work step b) ++ duals_work n front (weights_before n step x) (number_before step b)) (duals_work n steps first c.args.bound) stop
    (sym (ap (first_wide limit) (duals_work-last n front step x b)) ∙ sym (ap (λ (l : List Step). first_wide limit (duals_work n l x b)) c.in-Some.ensures.cases.0) ∙ c.loop-step.invariant.work)
    (stop_here (dual_step_work n step x ++ bound_step_work step b) _ stop (stop_here (dual_step_work n step x) _ stop here)))

pub returns-in_err-so_far : goal.returns-in_err-so_far
returns-in_err-so_far c =
    let n = c.args.weights.now.columns in
    let x = weights_in c.loop-step.weights in
    let b = c.loop-step.so_far in
    let front = c.in-Some.front.now in
    let step = c.in-Some.step.now in
    let narrow : AreNarrow (dual_step_work n step x) = subst (λ (k : ℕ). AreNarrow (dual_step_work k step x)) c.loop-step.invariant.columns c.in_ok-dual_before.ensures.1 in
    let p = err_from_is_err_and c.from_residual-in_err-so_far.result c.from_residual-in_err-so_far.ensures.1 in
    rw (p.1, p.2)
    (sym c.loop-step.invariant.work
    ∙ ap (λ (l : List Step). first_wide limit (duals_work n l x b)) c.in-Some.ensures.cases.0
    ∙ ap (first_wide limit) (duals_work-last n front step x b)
    ∙ first_here (dual_step_work n step x ++ bound_step_work step b) _ _ (first_past (dual_step_work n step x) (bound_step_work step b) _ narrow c.in_err-so_far.ensures))

pub loop-step-preserved : goal.loop-step-preserved
loop-step-preserved c =
    let n = c.args.weights.now.columns in
    let x = weights_in c.loop-step.weights in
    let b = c.loop-step.so_far in
    let front = c.in-Some.front.now in
    let step = c.in-Some.step.now in
    let is = c.in-Some.ensures.cases.0 in
    let so = c.loop-step.invariant in
    let done = c.in_ok-dual_before.ensures in
    let number = c.in_ok-so_far.ensures in
    let now = done.0.weights_are ∙ ap (λ (k : ℕ). weights_before k step x) so.columns in
    let narrow : AreNarrow (dual_step_work n step x) = subst (λ (k : ℕ). AreNarrow (dual_step_work k step x)) so.columns done.1 in
    record {
      columns = done.0.columns ∙ so.columns;
      rows = done.0.rows ∙ so.rows;
      held = done.0.held;
      known = (All-pop (IsKnownStep n c.args.weights.now.rows) c.loop-step.rest.now front (Some step) is so.known).0;
      back = ap (λ (z : Weights). duals_back n front z) now ∙ sym (duals_back-last n front step x) ∙ sym (ap (λ (l : List Step). duals_back n l x) is) ∙ so.back;
      bound = ap (bound_back front) number.0 ∙ sym (bound_back-last front step b) ∙ sym (ap (λ (l : List Step). bound_back l b) is) ∙ so.bound;
      work =
          ap (λ (z : Weights). first_wide limit (duals_work n front z c.in_ok-so_far.so_far)) now
          ∙ ap (λ z. first_wide limit (duals_work n front (weights_before n step x) z)) number.0
          ∙ sym (first_wide-past limit (dual_step_work n step x ++ bound_step_work step b) _ (narrow_both (dual_step_work n step x) (bound_step_work step b) narrow number.1))
          ∙ sym (ap (first_wide limit) (duals_work-last n front step x b))
          ∙ sym (ap (λ (l : List Step). first_wide limit (duals_work n l x b)) is)
          ∙ so.work;
    }

pub returns : goal.returns
returns c =
    let n = c.args.weights.now.columns in
    let x = weights_in c.loop-step.weights in
    let b = c.loop-step.so_far in
    let so = c.loop-step.invariant in
    let none = nil_from_length c.loop-step.rest.now c.in_default.ensures.cases in (
      sym (ap (λ (l : List Step). bound_back l b) none) ∙ so.bound,
      (
        record {
          columns = so.columns;
          rows = so.rows;
          held = so.held;
          weights_are = sym (ap (λ (l : List Step). duals_back n l x) none) ∙ so.back;
        },
        sym so.work ∙ ap (λ (l : List Step). first_wide limit (duals_work n l x b)) none ∙ first_wide-nil limit,
      ),
    )
