use Rattle.std.proofs.Common.{◌≡◌, List, [], ◌∷◌, Some, sym, ◌∙◌, ap, subst}
use Rattle.rational.specs.Linear.{Term}
use Rattle.lp_model.specs.declared.members.Side.TheVariants.{Lo, Up}
use Rattle.certs.specs.System.{Limits, no_limits}
use Rattle.reductions.specs.declared.steps.Step.{Step}
use Rattle.reductions.specs.declared.steps.Step.TheVariants.{Doubleton}
use Rattle.reductions.specs.Limited.{is_narrow, map_limits, tightened_by}
use Rattle.reductions.specs.Rules.{limit_steps, pair_with}
use Rattle.reductions.specs.Stage.{limits_in}
use Rattle.presolve.specs.Next.{IsNext}
use Rattle.presolve.specs.Plans.{At, PlanValue}
use Rattle.presolve.specs.declared.plans.Next.TheVariants.{Plan}
use Rattle.presolve.specs.Eliminated.{image_by, image_on, image_steps, made_by}
use Rattle.presolve.proofs.Substituted.{pair_wide_limits, pair_wide_parts, pair_plan, pair_next}
use Rattle.presolve.proofs.substitution.pair_with.Goals as goal

pub returns-in_default : goal.returns-in_default
returns-in_default c =
    let system = c.args.system.now in
    let q = c.args.equation.now in
    let gone : c.column_limits-limits.result ≡ limits_in system q.gone.column = c.column_limits-limits.ensures ∙ ap (λ (t : Term). limits_in system t.column) c.gone.view_is in
    pair_wide_limits system q (ap (λ (m : Limits). is_narrow (limit_steps (image_steps q) m)) (sym gone) ∙ c.in_default.ensures)

pub returns-in_default-made : goal.returns-in_default-made
returns-in_default-made c =
    let system = c.args.system.now in
    let q = c.args.equation.now in
    let gone : c.column_limits-limits.result ≡ limits_in system q.gone.column = c.column_limits-limits.ensures ∙ ap (λ (t : Term). limits_in system t.column) c.gone.view_is in
    let wide = rw c.in_default-made.is at c.in_ok-made.ensures in
    pair_wide_parts system q (ap (λ (m : Limits). is_narrow (limit_steps (image_steps q) m)) (sym gone) ∙ c.in-Some.ensures.1) wide

pub returns : goal.returns
returns c =
    let system = c.args.system.now in
    let q = c.args.equation.now in
    let p = c.in-Some-made.parts in
    let images = c.in-Some.images in
    let gone : c.column_limits-limits.result ≡ limits_in system q.gone.column = c.column_limits-limits.ensures ∙ ap (λ (t : Term). limits_in system t.column) c.gone.view_is in
    let kept : c.column_limits-limits-2.result ≡ limits_in system q.kept.column = c.column_limits-limits-2.ensures ∙ ap (λ (t : Term). limits_in system t.column) c.kept.view_is in
    let parts = rw c.in-Some-made.is at c.in_ok-made.ensures in
    let step_of : Limits → Step = λ m. Doubleton (record {
      row = q.row;
      x = q.kept.column;
      y = q.gone.column;
      a = q.kept.factor;
      b = q.gone.factor;
      c = q.value;
      lower = made_by q m images Lo;
      upper = made_by q m images Up;
      changes = p.changes.items;
      objective = p.times;
    }) in
    let columns_of : Limits → List (At Limits) = λ m. record { number = q.kept.column; item = tightened_by (image_on q images) m } ∷ (record { number = q.gone.column; item = no_limits } ∷ []) in
    let step : c.pair_step-step.result ≡ step_of (limits_in system q.kept.column) = c.pair_step-step.ensures ∙ ap step_of kept in
    let columns : c.in_ok-columns.columns.items ≡ columns_of (limits_in system q.kept.column) = c.in_ok-columns.ensures ∙ ap columns_of kept in
    let plan : (let made : PlanValue = record { step = c.pair_step-step.result; columns = c.in_ok-columns.columns.items; rows = p.rows.items; objective = p.terms } in made ≡ pair_plan system q images p.changes.items p.rows.items p.times p.terms) =
    λ i. record { step = step i; columns = columns i; rows = p.rows.items; objective = p.terms } in
    subst (λ (z : PlanValue). IsNext system (pair_with system q.row q.kept q.gone (Some q.value)) (Some (Plan z))) (sym plan)
    (pair_next system q images p.changes.items p.rows.items p.times p.terms (c.in-Some.ensures.0 ∙ ap (map_limits (image_by q)) gone)
    (ap (λ (m : Limits). is_narrow (limit_steps (image_steps q) m)) (sym gone) ∙ c.in-Some.ensures.1) parts.0 parts.1)
