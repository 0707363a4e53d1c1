-- A system that is eased by one way back is not stopped on another: its reduction has one end, and the run there has one.
use Rattle.std.proofs.Common.{◌≡◌, refl, sym, ◌∙◌, ap, subst, ℕ, true, false, true≢false, List, length, None, Some, is_some, inl, inr}
use Rattle.std.specs.Prelude.{IsSome}
use Rattle.std.proofs.lemmas.List.{length-map}
use Rattle.rational.specs.Rational.{ℚ}
use Rattle.frac128.specs.Calculation.{Calculation, first_wide}
use Rattle.frac128.specs.Limit.{limit}
use Rattle.frac128.specs.declared.Wide.{Wide as Operation}
use Rattle.lp_model.specs.Satisfaction.{values_at}
use Rattle.certs.specs.Runs.{End}
use Rattle.certs.specs.Runs.End.{Feasible, Infeasible, TooWide, Spent}
use Rattle.certs.specs.Solves.{BlocksWith, RunEnds, SettlesAt}
use Rattle.certs.specs.System.{LinearSystem, VariableShare}
use Rattle.branch_proof.proofs.Cuts.{blocks_same, one_run, values_same}
use Rattle.reductions.specs.declared.steps.Step.{Step}
use Rattle.reductions.specs.Back.{point_work, weights_of, weights_work}
use Rattle.reductions.specs.Laws.{IsFormed, TraceLaws}
use Rattle.reductions.specs.Reduction.{IsDecidedBy, IsReduced, Reduces, next_found}
use Rattle.reductions.specs.Rules.Found.{Decides, Goes}
use Rattle.reductions.specs.Stage.{Stage, start_stage}
use Rattle.reductions.proofs.Next.{goes_decides, none_some, one_reduction}
use Rattle.reductions.proofs.Whole.{trace_law}
use Rattle.presolve_laws.specs.Eased.{IsEased}
use Rattle.presolve_laws.specs.Laws.{StoppedLaw}

-- the laws of the steps from the start of a system
pub start_trace : (system : LinearSystem) (last : Stage) (steps : List Step) → IsFormed system → Reduces (start_stage system) steps last → TraceLaws system steps last
start_trace system last steps formed reduces = trace_law (start_stage system) last steps formed (length-map system.rows (λ r. _)) reduces

-- ---- one end
-- where no rule finds anything, or one decides, no step comes next
reduced_stays : (last : Stage) → IsReduced last → (step : Step) → next_found last ≡ Some (Goes step) → ⊥
reduced_stays last reduced step e = none_some (sym reduced ∙ e)

decided_stays : (last : Stage) (of : List VariableShare) → IsDecidedBy last of → (step : Step) → next_found last ≡ Some (Goes step) → ⊥
decided_stays last of decided step e = goes_decides (sym decided ∙ e)

-- where no rule finds anything none decides
reduced_decides : (last : Stage) (of : List VariableShare) → IsReduced last → IsDecidedBy last of → ⊥
reduced_decides last of reduced decided = none_some (sym reduced ∙ decided)

decides_same : {of other : List VariableShare} → Some (Decides of) ≡ Some (Decides other) → of ≡ other
decides_same {of} {other} e = ap (λ o. elim o [ None ↦ of | Some f ↦ elim f [ Goes s ↦ of | Decides q ↦ q ] ]) e

-- an operation that is too wide
wide_narrow : (work : Calculation) → IsSome (first_wide limit work) → first_wide limit work ≡ None → ⊥
wide_narrow work wide narrow = true≢false (sym (sym (ap (λ o. is_some o) narrow) ∙ wide))

-- ---- the ends of a run
-- which of the ways it goes
data Way : Type 0 where
  Settles : Way
  Blocks : Way
  Stops : Way

abbrev way : End → Way
way Feasible = Settles
way (Infeasible v) = Blocks
way (TooWide step operation) = Stops
way Spent = Stops

settles_blocks : Settles ≡ Blocks → ⊥
settles_blocks e = true≢false (ap (λ w. elim w [ Settles ↦ true | Blocks ↦ false | Stops ↦ false ]) e)

stops_settles : Stops ≡ Settles → ⊥
stops_settles e = true≢false (ap (λ w. elim w [ Settles ↦ false | Blocks ↦ false | Stops ↦ true ]) e)

stops_blocks : Stops ≡ Blocks → ⊥
stops_blocks e = true≢false (ap (λ w. elim w [ Settles ↦ false | Blocks ↦ false | Stops ↦ true ]) e)

module _ (system : LinearSystem) (pivots : ℕ) where
  settled_way : (end : End) → RunEnds system pivots end → (values : List ℚ) → SettlesAt system pivots values → way end ≡ Settles
  settled_way end run values s = ap way (one_run system pivots end Feasible run.last s.last run.run s.run).0

  blocked_way : (end : End) → RunEnds system pivots end → (of : List VariableShare) → BlocksWith system pivots of → way end ≡ Blocks
  blocked_way end run of b = ap way (one_run system pivots end (Infeasible b.variable) run.last b.last run.run b.run).0

  settled_run : (values : List ℚ) → SettlesAt system pivots values → RunEnds system pivots Feasible
  settled_run values s = record { last = s.last; run = s.run }

  blocked_run : (of : List VariableShare) (b : BlocksWith system pivots of) → RunEnds system pivots (Infeasible b.variable)
  blocked_run of b = record { last = b.last; run = b.run }

-- ---- what is not eased
module _ (system : LinearSystem) (pivots : ℕ) (steps : List Step) (last : Stage) (reduces : Reduces (start_stage system) steps last) where
  abbrev columns : ℕ
  columns = length system.columns

  -- ---- a rule decides
  module _ (of : List VariableShare) (decided : IsDecidedBy last of) where
    -- where no rule finds anything the end would be another
    not_reduced : (others : List Step) (other : Stage) → Reduces (start_stage system) others other → IsReduced other → ⊥
    not_reduced others other leads reduced =
        let same = one_reduction (start_stage system) last other steps others reduces leads (decided_stays last of decided) (reduced_stays other reduced) in
        reduced_decides other of reduced (subst (λ (s : Stage). IsDecidedBy s of) same.1 decided)

    pub decided_not_eased : IsSome (first_wide limit (weights_work columns steps (weights_of of))) → IsEased system pivots → ⊥
    decided_not_eased wide (inl (back, e)) = not_reduced e.steps e.last e.reduces e.reduced
    decided_not_eased wide (inr (back, inr e)) = not_reduced e.steps e.last e.reduces e.reduced
    decided_not_eased wide (inr (back, inl d)) =
        let same = one_reduction (start_stage system) last d.last steps d.steps reduces d.reduces (decided_stays last of decided) (decided_stays d.last d.of d.decided) in
        let shares : of ≡ d.of = decides_same (sym decided ∙ ap next_found same.1 ∙ d.decided) in
        wide_narrow (weights_work columns steps (weights_of of)) wide
        (ap (λ (o : List VariableShare). first_wide limit (weights_work columns steps (weights_of o))) shares
        ∙ ap (λ (l : List Step). first_wide limit (weights_work columns l (weights_of d.of))) same.0
        ∙ d.comes.narrow)

  -- ---- no rule finds anything
  module _ (reduced : IsReduced last) where
    -- where nothing comes back from the one end of the run
    none_back : ((values : List ℚ) → SettlesAt last.system pivots values → first_wide limit (point_work steps (values_at values)) ≡ None → ⊥)
        → ((of : List VariableShare) → BlocksWith last.system pivots of → first_wide limit (weights_work columns steps (weights_of of)) ≡ None → ⊥) → IsEased system pivots → ⊥
    none_back no_point no_shares (inl (back, e)) =
        let same = one_reduction (start_stage system) last e.last steps e.steps reduces e.reduces (reduced_stays last reduced) (reduced_stays e.last e.reduced) in
        no_point e.values (subst (λ (s : Stage). SettlesAt s.system pivots e.values) (sym same.1) e.settles)
        (ap (λ (l : List Step). first_wide limit (point_work l (values_at e.values))) same.0 ∙ e.comes.narrow)
    none_back no_point no_shares (inr (back, inr e)) =
        let same = one_reduction (start_stage system) last e.last steps e.steps reduces e.reduces (reduced_stays last reduced) (reduced_stays e.last e.reduced) in
        no_shares e.of (subst (λ (s : Stage). BlocksWith s.system pivots e.of) (sym same.1) e.blocks)
        (ap (λ (l : List Step). first_wide limit (weights_work columns l (weights_of e.of))) same.0 ∙ e.comes.narrow)
    none_back no_point no_shares (inr (back, inl d)) =
        let same = one_reduction (start_stage system) last d.last steps d.steps reduces d.reduces (reduced_stays last reduced) (decided_stays d.last d.of d.decided) in
        reduced_decides last d.of reduced (subst (λ (s : Stage). IsDecidedBy s d.of) (sym same.1) d.decided)

    -- its run is stopped
    stopped_not_eased : (end : End) → way end ≡ Stops → RunEnds last.system pivots end → IsEased system pivots → ⊥
    stopped_not_eased end stops run =
        none_back
        (λ values s narrow. stops_settles (sym stops ∙ settled_way last.system pivots end run values s))
        (λ of b narrow. stops_blocks (sym stops ∙ blocked_way last.system pivots end run of b))

    pub wide_not_eased : (turn : ℕ) (operation : Operation) → RunEnds last.system pivots (TooWide turn operation) → IsEased system pivots → ⊥
    wide_not_eased turn operation run = stopped_not_eased (TooWide turn operation) refl run

    pub spent_not_eased : RunEnds last.system pivots Spent → IsEased system pivots → ⊥
    spent_not_eased run = stopped_not_eased Spent refl run

    -- it settles, and the way back of its values is too wide
    pub point_not_eased : (values : List ℚ) → SettlesAt last.system pivots values → IsSome (first_wide limit (point_work steps (values_at values))) → IsEased system pivots → ⊥
    point_not_eased values settles wide =
        none_back
        (λ others s narrow. wide_narrow (point_work steps (values_at values)) wide
        (ap (λ (l : List ℚ). first_wide limit (point_work steps (values_at l))) (values_same last.system pivots values others settles s) ∙ narrow))
        (λ of b narrow. settles_blocks (blocked_way last.system pivots Feasible (settled_run last.system pivots values settles) of b))

    -- it is blocked, and the way back of its shares is too wide
    pub shares_not_eased : (of : List VariableShare) → BlocksWith last.system pivots of → IsSome (first_wide limit (weights_work columns steps (weights_of of))) → IsEased system pivots → ⊥
    shares_not_eased of blocks wide =
        none_back
        (λ values s narrow. settles_blocks (sym (settled_way last.system pivots (Infeasible blocks.variable) (blocked_run last.system pivots of blocks) values s)))
        (λ other b narrow. wide_narrow (weights_work columns steps (weights_of of)) wide
        (ap (λ (o : List VariableShare). first_wide limit (weights_work columns steps (weights_of o))) (blocks_same last.system pivots of other blocks b) ∙ narrow))

-- ---- the law of its stops
pub stopped_law : StoppedLaw
stopped_law system pivots steps last reduces reduced (inl (turn, (operation, run))) = wide_not_eased system pivots steps last reduces reduced turn operation run
stopped_law system pivots steps last reduces reduced (inr run) = spent_not_eased system pivots steps last reduces reduced run
