use Rattle.std.proofs.Common.{sym, ◌∙◌, ap, length, List, Some}
use Rattle.std.proofs.lemmas.Result.{err_from_is_err_and}
use Rattle.std.proofs.lemmas.List.{nil_from_length}
use Rattle.std.proofs.lemmas.List.Elements.{All-pop}
use Rattle.rational.specs.Linear.{Assignment}
use Rattle.frac128.specs.Limit.{limit}
use Rattle.frac128.specs.Calculation.{first_wide}
use Rattle.frac128.proofs.Calculations.{first_wide-before, first_wide-past, first_wide-nil}
use Rattle.lp_model.specs.Satisfaction.{values_at}
use Rattle.reductions.specs.declared.steps.Step.{Step}
use Rattle.trace_back.specs.Back.{ray_back as before_all, ray_step_work, ray_work}
use Rattle.reductions.specs.Known.{IsKnownStep}
use Rattle.trace_back.proofs.LastOnes.{ray_back-last, ray_work-last}
use Rattle.trace_back.proofs.rays.all_back.Goals as goal

pub returns-in_err-step_back : goal.returns-in_err-step_back
returns-in_err-step_back c =
    let x = values_at c.loop-step.values in
    let front = c.in-Some.front.now in
    let step = c.in-Some.step.now in
    let p = err_from_is_err_and c.from_residual.result c.from_residual.ensures.1 in
    rw (p.1, p.2)
    (sym c.loop-step.invariant.work
    ∙ ap (λ (l : List Step). first_wide limit (ray_work l x)) c.in-Some.ensures.cases.0
    ∙ ap (first_wide limit) (ray_work-last front step x)
    ∙ first_wide-before limit (ray_step_work step x) _ _ c.in_err-step_back.ensures)

pub loop-step-preserved : goal.loop-step-preserved
loop-step-preserved c =
    let x = values_at c.loop-step.values in
    let y = values_at c.step_back.new.values in
    let front = c.in-Some.front.now in
    let step = c.in-Some.step.now in
    let is = c.in-Some.ensures.cases.0 in
    let k = c.loop-step.invariant.known in
    let done = c.in_ok-step_back.ensures in
    record {
      known = (k.0, (All-pop (IsKnownStep (length c.args.values.now) k.0) c.loop-step.rest.now front (Some step) is k.1).0);
      back = ap (λ (z : Assignment). before_all front z) done.0 ∙ sym (ray_back-last front step x) ∙ sym (ap (λ (l : List Step). before_all l x) is) ∙ c.loop-step.invariant.back;
      work =
          ap (λ (z : Assignment). first_wide limit (ray_work front z)) done.0
          ∙ sym (first_wide-past limit (ray_step_work step x) _ done.1)
          ∙ sym (ap (first_wide limit) (ray_work-last front step x))
          ∙ sym (ap (λ (l : List Step). first_wide limit (ray_work l x)) is)
          ∙ c.loop-step.invariant.work;
    }

pub returns : goal.returns
returns c =
    let x = values_at c.loop-step.values in
    let none = nil_from_length c.loop-step.rest.now c.in_default.ensures.cases in
    record {
      count = c.loop-step.auto.values;
      values_are = λ j l. sym (ap (λ (s : List Step). before_all s x j) none) ∙ ap (λ (z : Assignment). z j) c.loop-step.invariant.back;
      narrow = sym c.loop-step.invariant.work ∙ ap (λ (s : List Step). first_wide limit (ray_work s x)) none ∙ first_wide-nil limit;
    }
