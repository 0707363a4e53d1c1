-- The laws of all steps, put together.
use Rattle.std.proofs.Common.{◌≡◌, sym, ◌∙◌, ap, subst, List, Option, Some, is_some, length}
use Rattle.rational.specs.Linear.{Term, form_value}
use Rattle.lp_model.specs.Satisfaction.{values_at}
use Rattle.reductions.specs.declared.steps.Step.{Step}
use Rattle.reductions.specs.Stage.{Stage}
use Rattle.reductions.specs.Back.{weights_of}
use Rattle.reductions.proofs.WeightOrder.{shares_in_order}
use Rattle.trace_back.specs.Back.{duals_back, ray_back, bound_back}
use Rattle.trace_back.proofs.Once.{taken_once}
use Rattle.simplex.specs.Duals.{IsVariableDual, objective_multiple}
use Rattle.trace_back.specs.Laws.{IsTraceFor, ObjectiveStaysLaw, PointValueLaw, DualBackLaw, OrderLaw, OnceLaw, OptimalOnceLaw, RayBackLaw, dual_shares}
use Rattle.trace_back.proofs.Directions.{ray_direction, same_direction, direction_ray}
use Rattle.trace_back.proofs.DualShares.{dual_weights, dual_from}
use Rattle.trace_back.proofs.Twice.{ordered_once}
use Rattle.trace_back.proofs.Traces.{ObjectiveTrace, objective_trace}

trace_of : (stage last : Stage) (steps : List Step) (terms : List Term) → IsTraceFor stage steps last terms → ObjectiveTrace stage.system steps last.system terms
trace_of stage last steps terms h = objective_trace stage last steps terms h.formed h.lives h.reduces h.objective

same_terms : (a b : List Term) → ◌≡◌ {A = Option (List Term)} (Some a) (Some b) → a ≡ b
same_terms a b e = cc

pub objective_stays_law : ObjectiveStaysLaw
objective_stays_law stage last steps terms h = ap is_some (trace_of stage last steps terms h).objective

pub point_value_law : PointValueLaw
point_value_law stage last steps terms after h e x =
    let t = trace_of stage last steps terms h in
    t.value x ∙ ap (λ z. bound_back steps (form_value z x)) (same_terms t.after after (sym t.objective ∙ e))

pub dual_back_law : DualBackLaw
dual_back_law stage last steps terms after h e shares b dual =
    let t = trace_of stage last steps terms h in
    let same = same_terms after t.after (sym e ∙ t.objective) in
    dual_from stage.system terms (bound_back steps b) (duals_back (length stage.system.columns) steps (weights_of shares))
    (t.dual (weights_of shares) b (dual_weights last.system t.after b shares (subst (λ z. IsVariableDual last.system shares z b) same dual)))

pub order_law : OrderLaw
order_law system steps shares = shares_in_order (length system.columns) (length system.rows) (duals_back (length system.columns) steps (weights_of shares))

pub once_law : OnceLaw
once_law system steps shares = ordered_once (length system.columns) (dual_shares system steps shares) (order_law system steps shares)

pub optimal_once_law : OptimalOnceLaw
optimal_once_law system t = taken_once (objective_multiple t) (length system.columns) (length system.rows)

pub ray_back_law : RayBackLaw
ray_back_law stage last steps terms h values back ray e =
    let t = trace_of stage last steps terms h in
    let last_way = ray_direction last.system t.after ray.ray t.objective ray.keeps in
    let way = same_direction last.system t.after t.formed t.objective ray.ray (values_at values) (λ k l. sym (ray.same k l)) last_way in
    direction_ray stage.system terms h.formed h.objective (ray_back steps (values_at values)) (t.ray (values_at values) way) back e
