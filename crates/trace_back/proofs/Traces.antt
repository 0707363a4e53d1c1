-- Values of the objective, duals and rays come back over each step, and over all of them.
use Rattle.std.proofs.Common.{◌≡◌, ◌≢◌, ◌<◌, refl, sym, ◌∙◌, ap, subst, ℕ, List, [], ◌∷◌, length, Some, arith}
use Rattle.std.specs.Option.{option_map}
use Rattle.std.proofs.lemmas.List.Elements.{All-head}
use Rattle.rational.specs.Rational.{ℚ, ◌+ℚ◌, ◌*ℚ◌, ◌/ℚ◌, zero_ℚ}
use Rattle.rational.specs.Linear.{Term, Assignment, form_value, factor_of}
use Rattle.lp_model.specs.Program.{IsForm}
use Rattle.lp_model.specs.declared.members.Side.{Side}
use Rattle.certs.specs.System.{LinearSystem}
use Rattle.reductions.specs.declared.steps.Step.{Step}
use Rattle.reductions.specs.declared.steps.Step.TheVariants.{Empty, Singleton, Fixed, Redundant, Forcing, Doubleton}
use Rattle.reductions.specs.Limited.{opposite, taken_value}
use Rattle.reductions.specs.Stage.{Stage, row_in, limits_in, with_limits}
use Rattle.reductions.specs.Rules.{fixed_value, fixed_step, pair_of, pair_step, single_step, forcing_step, objective_factor}
use Rattle.reductions.specs.Reduction.{without_column, forced_limits, pair_terms, reduced_by, after_step, Reduces}
use Rattle.reductions.specs.Back.{Weights, point_before, point_back, weights_before}
use Rattle.reductions.specs.Laws.{IsFormed, IsAsLarge, IsFound}
use Rattle.reductions.proofs.Formed.{row_form, formed_after, large_after, lives_after}
use Rattle.reductions.proofs.Next.{next}
use Rattle.reductions.proofs.Origins.{Origin, origin}
use Rattle.reductions.proofs.PairPoints.{pair_value_of}
use Rattle.reductions.proofs.Points.{equal_limits}
use Rattle.reductions.proofs.StepPoints.{known_step}
use Rattle.reductions.proofs.Terms.{value_with}
use Rattle.reductions.proofs.WeightFound.{weight_laws}
use Rattle.reductions.proofs.WeightSystems.{WeightLaws}
use Rattle.trace_back.specs.Back.{ray_before, ray_back, dual_before, duals_back, bound_before, bound_back}
use Rattle.trace_back.proofs.Directions.{IsDirection}
use Rattle.trace_back.proofs.DualSteps.{AreDualWeights, same_dual, fixed_dual, pair_dual}
use Rattle.trace_back.proofs.RaySteps.{empty_direction, redundant_direction, single_direction, forced_direction, fixed_direction, pair_direction}

-- the objective's terms after a step
abbrev pub terms_after : Step → List Term → List Term
terms_after (Fixed f) terms = without_column f.column terms
terms_after (Doubleton d) terms = pair_terms d terms
terms_after step terms = terms

-- what holds of a step of a system with this objective
pub record ObjectiveStep (stage : Stage) (step : Step) (terms : List Term) : Type 0 where
  pub objective : (reduced_by step stage.system).objective ≡ Some (terms_after step terms)
  pub value : (x : Assignment) → form_value terms (point_before step x) ≡ bound_before step (form_value (terms_after step terms) x)
  pub dual : (w : Weights) (b : ℚ) → AreDualWeights (reduced_by step stage.system) (terms_after step terms) w b
      → AreDualWeights stage.system terms (dual_before (length stage.system.columns) step w) (bound_before step b)
  pub ray : (x : Assignment) → IsDirection (reduced_by step stage.system) (terms_after step terms) x → IsDirection stage.system terms (ray_before step x)

forced_objective : (system : LinearSystem) (sum : Side) (terms : List Term) → (forced_limits system sum terms).objective ≡ system.objective
forced_objective system sum [] = refl
forced_objective system sum (t ∷ terms) = forced_objective (with_limits t.column (record { lower = Some (taken_value system sum t); upper = Some (taken_value system sum t) }) system) sum terms

module _ (stage : Stage) (terms : List Term) (formed : IsFormed stage.system) (lives : length stage.live ≡ length stage.system.rows) (is : stage.system.objective ≡ Some terms) where
  abbrev system : LinearSystem
  system = stage.system

  abbrev n : ℕ
  n = length system.columns

  laws : (step : Step) → IsFound stage step → WeightLaws system (reduced_by step system) (weights_before n step)
  laws step found = weight_laws stage step formed lives found (large_after step system)

  fixed_objective : (j : ℕ) (v : ℚ) → fixed_value (limits_in system j) ≡ Some v → IsFound stage (fixed_step system j v) → ObjectiveStep stage (fixed_step system j v) terms
  fixed_objective j v equal found =
      let step = fixed_step system j v in
      let factor : objective_factor system.objective j ≡ factor_of terms j = ap (λ o. objective_factor o j) is in
      let known = known_step stage step formed lives (origin stage step found) in
      record {
        objective = ap (option_map (without_column j)) is;
        value = λ x. value_with j v x terms ∙ ap (λ z. form_value (without_column j terms) x +ℚ z *ℚ v) (sym factor);
        dual = λ w b h. fixed_dual system (reduced_by step system) (large_after step system) w _ terms b known.0 (equal_limits (limits_in system j) v equal) (laws step found) factor h;
        ray = λ x h. fixed_direction j x system v terms h;
      }

  pair_objective : (i : ℕ) (s t : Term) (c : ℚ) → (row_in system i).terms ≡ s ∷ t ∷ [] → fixed_value (row_in system i).limits ≡ Some c → IsFound stage (pair_step system i s t c) → ObjectiveStep stage (pair_step system i s t c) terms
  pair_objective i s t c own equal found =
      let step = pair_step system i s t c in
      let d = pair_of system i s t c in
      let factor : objective_factor system.objective t.column /ℚ t.factor ≡ factor_of terms t.column /ℚ t.factor = ap (λ o. objective_factor o t.column /ℚ t.factor) is in
      let known = known_step stage step formed lives (origin stage step found) in
      let some_a = known.1.1.1.0 in
      let some_b = known.1.1.1.1.0 in
      let form : IsForm n (s ∷ t ∷ []) = subst (IsForm n) own (row_form system i formed) in
      let before : s.column < t.column = form.ascending 0 1 s (omega arith) (omega arith) in
      let apart : s.column ≢ t.column = λ e. absurd (omega (arith, e, before)) in
      record {
        objective = ap (option_map (pair_terms d)) is;
        value = λ x. pair_value_of d x apart some_b terms ∙ ap (λ z. form_value (pair_terms d terms) x +ℚ z *ℚ c) (sym factor);
        dual = λ w b h. pair_dual system (reduced_by step system) (large_after step system) w d terms b known.0 apart some_b own (equal_limits (row_in system i).limits c equal) (laws step found) factor h;
        ray = λ x h. pair_direction system d terms x apart some_a some_b known.1.0 own h;
      }

  pub objective_step : (step : Step) → IsFound stage step → Origin stage step → ObjectiveStep stage step terms
  objective_step (Empty i) found o = record {
    objective = is;
    value = λ x. refl;
    dual = λ w b h. same_dual system (reduced_by (Empty i) system) (large_after (Empty i) system) w (weights_before n (Empty i)) terms b (laws (Empty i) found) h;
    ray = λ x h. empty_direction system i terms x o.terms h;
  }
  objective_step (Singleton s) found o =
      let step = single_step (limits_in system o.term.column) (row_in system o.row).limits o.row o.term in
      let form : IsForm n (o.term ∷ []) = subst (IsForm n) o.terms (row_form system o.row formed) in
      subst (λ s. ObjectiveStep stage s terms) (sym o.step_is) (record {
        objective = is;
        value = λ x. refl;
        dual = λ w b h. same_dual system (reduced_by step system) (large_after step system) w (weights_before n step) terms b (laws step (subst (IsFound stage) o.step_is found)) h;
        ray = λ x h. single_direction system o.row o.term terms x (All-head (λ (t : Term). t.column < n) o.term [] form.known) (All-head (λ t. t.factor ≢ zero_ℚ) o.term [] form.nonzero) o.terms h;
      })
  objective_step (Fixed f) found o = subst (λ s. ObjectiveStep stage s terms) (sym o.step_is) (fixed_objective o.column o.value o.equal (subst (IsFound stage) o.step_is found))
  objective_step (Redundant i) found o = record {
    objective = is;
    value = λ x. refl;
    dual = λ w b h. same_dual system (reduced_by (Redundant i) system) (large_after (Redundant i) system) w (weights_before n (Redundant i)) terms b (laws (Redundant i) found) h;
    ray = λ x h. redundant_direction system i terms x (row_form system i formed).nonzero o.lower o.upper h;
  }
  objective_step (Forcing f) found o =
      let step = forcing_step system o.row o.side in
      let form = row_form system o.row formed in
      subst (λ s. ObjectiveStep stage s terms) (sym o.step_is) (record {
        objective = forced_objective system (opposite o.side) (row_in system o.row).terms ∙ is;
        value = λ x. refl;
        dual = λ w b h. same_dual system (reduced_by step system) (large_after step system) w (weights_before n step) terms b (laws step (subst (IsFound stage) o.step_is found)) h;
        ray = λ x h. forced_direction system o.row (opposite o.side) terms x form.nonzero form.known h;
      })
  objective_step (Doubleton d) found o =
      subst (λ s. ObjectiveStep stage s terms) (sym o.step_is) (pair_objective o.row o.first o.second o.value o.terms o.equal (subst (IsFound stage) o.step_is found))

-- ---- all steps
pub record ObjectiveTrace (system : LinearSystem) (steps : List Step) (last : LinearSystem) (terms : List Term) : Type 0 where
  pub after : List Term
  pub objective : last.objective ≡ Some after
  pub formed : IsFormed last
  pub large : IsAsLarge system last
  pub value : (x : Assignment) → form_value terms (point_back steps x) ≡ bound_back steps (form_value after x)
  pub dual : (w : Weights) (b : ℚ) → AreDualWeights last after w b → AreDualWeights system terms (duals_back (length system.columns) steps w) (bound_back steps b)
  pub ray : (x : Assignment) → IsDirection last after x → IsDirection system terms (ray_back steps x)

pub objective_trace : (stage last : Stage) (steps : List Step) (terms : List Term) → IsFormed stage.system → length stage.live ≡ length stage.system.rows → Reduces stage steps last → stage.system.objective ≡ Some terms
    → ObjectiveTrace stage.system steps last.system terms
objective_trace stage last [] terms formed lives e is =
    subst (λ (s : Stage). ObjectiveTrace stage.system [] s.system terms) e (record {
      after = terms;
      objective = is;
      formed = formed;
      large = record { columns = refl; rows = refl };
      value = λ x. refl;
      dual = λ w b h. h;
      ray = λ x h. h;
    })
objective_trace stage last (step ∷ steps) terms formed lives r is =
    let found = next stage step r.0 in
    let from = origin stage step found in
    let large = large_after step stage.system in
    let other = reduced_by step stage.system in
    let own = objective_step stage terms formed lives is step found from in
    let rest = objective_trace (after_step step stage) last steps (terms_after step terms) (formed_after stage step formed from) (lives_after step stage ∙ lives ∙ sym large.rows) r.1 own.objective in
    record {
      after = rest.after;
      objective = rest.objective;
      formed = rest.formed;
      large = record { columns = rest.large.columns ∙ large.columns; rows = rest.large.rows ∙ large.rows };
      value = λ x. own.value (point_back steps x) ∙ ap (bound_before step) (rest.value x);
      dual = λ w b h. own.dual (duals_back (length stage.system.columns) steps w) (bound_back steps b)
          (subst (λ k. AreDualWeights other (terms_after step terms) (duals_back k steps w) (bound_back steps b)) large.columns (rest.dual w b h));
      ray = λ x h. own.ray (ray_back steps x) (rest.ray x h);
    }
