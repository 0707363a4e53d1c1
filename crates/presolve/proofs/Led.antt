-- What the loop of a reduction makes of a plan, and what it answers.
use Rattle.std.proofs.Common.{◌≡◌, refl, sym, ◌∙◌, ap, subst, ◌+◌, ◌^◌, ◌<◌, true, List, [], ◌∷◌, ◌++◌, length, map, Option, Some, None}
use Rattle.std.specs.Prelude.{All}
use Rattle.std.proofs.lemmas.List.{length-map}
use Rattle.certs.specs.declared.evidence.Share.{Share}
use Rattle.certs.specs.Named.{named}
use Rattle.certs.specs.System.{LinearSystem, VariableShare}
use Rattle.reductions.specs.declared.steps.Step.{Step}
use Rattle.reductions.specs.declared.steps.Trace.{Trace}
use Rattle.reductions.specs.Known.{IsKnownStep}
use Rattle.reductions.specs.Laws.{IsFormed, TraceLaws}
use Rattle.reductions.specs.Reduction.{next_found, after_step, left_without, removed_row, reduced_by, Reduces, IsReduced, IsDecidedBy}
use Rattle.reductions.specs.Rules.{Found}
use Rattle.reductions.specs.Rules.Found.{Goes, Decides}
use Rattle.reductions.specs.Stage.{Stage, start_stage}
use Rattle.reductions.proofs.Whole.{trace_law}
use Rattle.presolve.specs.declared.plans.Next.TheVariants.{Plan, Contradiction}
use Rattle.presolve.specs.Next.{IsNext}
use Rattle.presolve.specs.Plans.{PlanValue, planned}
use Rattle.presolve.specs.Reduced.{LeadsTo}
use Rattle.presolve.proofs.Reached.{one_more, lives_last, falls}
use Rattle.presolve.proofs.Remaining.{remaining}

-- ---- a plan
-- its step comes next
plan_goes : (system : LinearSystem) (found : Option Found) (plan : PlanValue) → IsNext system found (Some (Plan plan))
    → (found ≡ Some (Goes plan.step)) × (planned plan system ≡ reduced_by plan.step system)
plan_goes system None plan h = absurd h
plan_goes system (Some (Goes step)) plan h = (ap (λ s. Some (Goes s)) (sym h.0), h.1 ∙ ap (λ s. reduced_by s system) (sym h.0))
plan_goes system (Some (Decides of)) plan h = absurd h

module _ (stage after : Stage) (plan : PlanValue) (h : IsNext stage.system (next_found stage) (Some (Plan plan)))
    (s : after.system ≡ planned plan stage.system) (l : after.live ≡ left_without (removed_row plan.step) stage.live) where
  -- the stage that is made of it is the one after the step
  made : after ≡ after_step plan.step stage
  made = λ i. record { system = (s ∙ (plan_goes stage.system (next_found stage) plan h).1) i; live = l i }

  pub reached : (first : Stage) (steps now : List Step) (step : Step) → step ≡ plan.step → now ≡ steps ++ step ∷ [] → Reduces first steps stage → Reduces first now after
  reached first steps now step e n reduces =
      subst (λ (z : Stage). Reduces first now z) (sym made)
      (subst (λ (z : List Step). Reduces first z (after_step plan.step stage)) (sym (n ∙ ap (λ (z : Step). steps ++ z ∷ []) e))
      (one_more first stage steps plan.step reduces (plan_goes stage.system (next_found stage) plan h).0))

  pub less_left : remaining after < remaining stage
  less_left = subst (λ (z : Stage). remaining z < remaining stage) (sym made) (falls stage plan.step (plan_goes stage.system (next_found stage) plan h).0)

-- ---- a contradiction
pub decides : (system : LinearSystem) (found : Option Found) (shares : List Share) → IsNext system found (Some (Contradiction shares))
    → (of : List VariableShare) × ((shares ≡ map (named (length system.columns)) of) × (found ≡ Some (Decides of)))
decides system None shares h = absurd h
decides system (Some (Goes step)) shares h = absurd h
decides system (Some (Decides of)) shares h = (of, (h, refl))

-- ---- a stage that is reached
module _ (system : LinearSystem) (formed : IsFormed system) (small : length system.columns + length system.rows < 2 ^ 31) (steps : List Step) (stage : Stage)
    (reduces : Reduces (start_stage system) steps stage) where
  marks : length (start_stage system).live ≡ length system.rows
  marks = length-map system.rows (λ r. true)

  laws : TraceLaws system steps stage
  laws = trace_law (start_stage system) stage steps formed marks reduces

  pub formed_there : IsFormed stage.system
  formed_there = laws.formed

  pub small_there : length stage.system.columns + length stage.system.rows < 2 ^ 31
  small_there =
      subst (λ n. n + length stage.system.rows < 2 ^ 31) (sym laws.large.columns) (subst (λ n. length system.columns + n < 2 ^ 31) (sym laws.large.rows) small)

  pub lives_there : length stage.live ≡ length stage.system.rows
  lives_there = lives_last (start_stage system) stage steps reduces ∙ marks ∙ sym laws.large.rows

  pub leads : (trace : Trace) → trace.columns ≡ length system.columns → trace.rows ≡ length system.rows → trace.steps ≡ steps → LeadsTo system trace stage
  leads trace c r s = record {
    known = record { columns_are = c; rows_are = r; few = small; steps = subst (λ (z : List Step). All (IsKnownStep (length system.columns) (length system.rows)) z) (sym s) laws.known };
    reduces = subst (λ (z : List Step). Reduces (start_stage system) z stage) (sym s) reduces;
  }

  -- nothing more is found
  pub ends : next_found stage ≡ None → (trace : Trace) → LeadsTo system trace stage → (left : LinearSystem) → left ≡ stage.system
      → (last : Stage) × (LeadsTo system trace last × ((left ≡ last.system) × IsReduced last))
  ends none trace h left e = (stage, (h, (e, none)))

  -- a contradiction is found
  pub contradicted : (shares : List Share) → IsNext stage.system (next_found stage) (Some (Contradiction shares)) → (trace : Trace) → LeadsTo system trace stage
      → (last : Stage) × (LeadsTo system trace last × ((of : List VariableShare) × ((shares ≡ map (named (length system.columns)) of) × IsDecidedBy last of)))
  contradicted shares next trace h =
      let d = decides stage.system (next_found stage) shares next in
      (stage, (h, (d.0, (d.1.0 ∙ ap (λ n. map (named n) d.0) laws.large.columns, d.1.1))))
