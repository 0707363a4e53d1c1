-- Runs of reduced systems.
use Rattle.std.proofs.Common.{◌≡◌, ◌≢◌, ◌<◌, ◌^◌, refl, sym, ◌∙◌, ap, subst, ℕ, cond, List, [], length, None, is_some, arith}
use Rattle.lp_model.specs.declared.members.Member.{Member}
use Rattle.lp_model.specs.Program.{Program, IsWellFormed}
use Rattle.certs.specs.Runs.{End}
use Rattle.certs.specs.Runs.End.{TooWide, Spent}
use Rattle.certs.specs.Solves.{RunEnds, StartRun}
use Rattle.certs.specs.System.{LinearSystem}
use Rattle.certs.specs.Tableau.{IsTableauOf, IsWellFormedSystem, variables}
use Rattle.dictionary.specs.Value.{DictionaryValue, tableau_of}
use Rattle.simplex.specs.declared.settling.RunStop.{RunStop}
use Rattle.simplex.specs.declared.settling.RunStop.TheVariants.{Wide, Pivots, Memory}
use Rattle.two_widths.specs.Ends.{IsStopOf}
use Rattle.linear_oracle.specs.Ended.{HasEnded}
use Rattle.reductions.specs.declared.steps.Step.{Step}
use Rattle.reductions.specs.declared.steps.Trace.{Trace}
use Rattle.reductions.specs.Known.{IsTraceOf}
use Rattle.reductions.specs.Reduction.{IsReduced, Reduces}
use Rattle.reductions.specs.Stage.{Stage, start_stage}
use Rattle.presolve.specs.Reduced.{LeadsTo}
use Rattle.presolve_laws.specs.Answers.{set_system}
use Rattle.presolve_laws.specs.Eased.{IsEased}
use Rattle.presolve_laws.proofs.Ends.{spent_not_eased, start_trace, wide_not_eased}
use Rattle.presolve_laws.proofs.Systems.{apart_formed, no_objective, reduced_apart, set_formed}

module _ (model : Program) (set : List Member) (trace : Trace) (last : Stage) (formed : IsWellFormed model) (leads : LeadsTo (set_system model set) trace last) where
  abbrev whole : LinearSystem
  whole = set_system model set

  -- what is left of a set's plain system, where no rule finds anything, is well formed
  pub formed_left : IsReduced last → IsWellFormedSystem last.system
  formed_left reduced = apart_formed last.system (reduced_apart last reduced) (start_trace whole last trace.steps (set_formed model set formed) leads.reduces).formed

  -- and has as few variables
  pub few_left : (system : LinearSystem) → system ≡ last.system → variables system < 2 ^ 31
  few_left system is =
      let large = (start_trace whole last trace.steps (set_formed model set formed) leads.reduces).large in
      let none = no_objective (start_stage whole) last trace.steps refl leads.reduces in
      let few = leads.known.few in
      let c = large.columns in
      let r = large.rows in
      let o : ◌≡◌ {A = ℕ} (cond (is_some last.system.objective) 1 0) 0 = ap (λ o. cond (is_some o) 1 0) none in
      subst (λ (s : LinearSystem). variables s < 2 ^ 31) (sym is) (omega (arith, few, c, r, o))

  -- the trace is one of as many columns as a dictionary of it
  pub trace_left : (system : LinearSystem) (columns : ℕ) → system ≡ last.system → columns ≡ length system.columns → IsTraceOf columns trace.rows trace
  trace_left system columns is count =
      let large = (start_trace whole last trace.steps (set_formed model set formed) leads.reduces).large in
      let all : columns ≡ length whole.columns = count ∙ ap (λ (s : LinearSystem). length s.columns) is ∙ large.columns in
      subst (λ (a : ℕ). IsTraceOf a trace.rows trace) (sym all) (subst (λ (b : ℕ). IsTraceOf (length whole.columns) b trace) (sym leads.known.rows_are) leads.known)

  -- and has no objective
  pub none_left : (system : LinearSystem) → system ≡ last.system → system.objective ≡ None
  none_left system is = ap (λ (s : LinearSystem). s.objective) is ∙ no_objective (start_stage whole) last trace.steps refl leads.reduces

-- ---- the run of what is left
module _ (system : LinearSystem) (last : Stage) (is : system ≡ last.system) (pivots : ℕ) where
  -- where it stops, the system before the steps is not eased
  pub stop_excludes : (whole : LinearSystem) (trace : Trace) → LeadsTo whole trace last → IsReduced last → (stop : RunStop) → IsStopOf system pivots stop → stop ≢ Memory → IsEased whole pivots → ⊥
  stop_excludes whole trace leads reduced (Wide turn operation) h other =
      wide_not_eased whole pivots trace.steps last leads.reduces reduced turn operation (subst (λ (s : LinearSystem). RunEnds s pivots (TooWide turn operation)) is h)
  stop_excludes whole trace leads reduced Pivots h other =
      spent_not_eased whole pivots trace.steps last leads.reduces reduced (subst (λ (s : LinearSystem). RunEnds s pivots Spent) is h)
  stop_excludes whole trace leads reduced Memory h other = absurd (other refl)

  -- where nothing was reduced it is the stop of the system's own run
  pub stop_own : (whole : LinearSystem) (trace : Trace) → LeadsTo whole trace last → trace.steps ≡ [] → (stop : RunStop) → IsStopOf system pivots stop → IsStopOf whole pivots stop
  stop_own whole trace leads none stop h =
      let same : start_stage whole ≡ last = subst (λ (steps : List Step). Reduces (start_stage whole) steps last) none leads.reduces in
      subst (λ (s : LinearSystem). IsStopOf s pivots stop) (is ∙ sym (ap (λ (s : Stage). s.system) same)) h

  -- where it ends, the dictionary stands at its end
  pub ended : (end : End) (now : DictionaryValue) → StartRun system pivots end now.basis → IsTableauOf system (tableau_of now) → now.columns ≡ length system.columns → HasEnded last.system pivots now end
  ended end now run of columns = subst (λ (s : LinearSystem). HasEnded s pivots now end) is (record { run = run; is_of = of; columns = columns })
