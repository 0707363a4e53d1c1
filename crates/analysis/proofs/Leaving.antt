-- What a reduction leaves, and its steps by the numbers of the program.
use Rattle.std.proofs.Common.{◌≡◌, ◌<◌, refl, sym, ◌∙◌, ap, subst, ℕ, get_or, Bool, true, false, cond, not, ◌&&◌, ◌||◌, List, [], ◌∷◌, map, length, filter, Option, Some, None, arith, inl, inr, eq-eqb, ne_eqb}
use Rattle.std.specs.Prelude.{All, IsSome, slice_index, slice_set}
use Rattle.std.proofs.lemmas.Bool.{cases_eq}
use Rattle.std.proofs.lemmas.List.{ext_get_or, get_or-map, get_or-set_same, get_or-set_other, length-map, length-set}
use Rattle.std.proofs.lemmas.List.Elements.{All-filter, All-from_get_or, All-get_or, All-map, All-weaker}
use Rattle.lp_model.specs.declared.members.Member.{Member}
use Rattle.lp_model.specs.Members.{active_members}
use Rattle.lp_model.specs.MemberSets.{SetValue, active_set}
use Rattle.lp_model.specs.Program.{Program, IsWellFormed}
use Rattle.certs.specs.declared.evidence.Combo.{Combo}
use Rattle.certs.specs.declared.evidence.Proof.{Proof}
use Rattle.certs.specs.Ended.{numbers_from}
use Rattle.certs.specs.Order.{AreLeavesInOrder}
use Rattle.certs.specs.Proof.{IsFittingNode, IsProof}
use Rattle.frac128.specs.Calculation.{first_wide}
use Rattle.frac128.specs.Limit.{limit}
use Rattle.reductions.specs.Back.{weights_of, weights_work}
use Rattle.certs.specs.Plain.{has_row, rows_in}
use Rattle.certs.specs.System.{LinearSystem, VariableShare, IsVariableCombination, empty_system_row}
use Rattle.certs.proofs.Translated.{length_numbers, mapped_at, number_at}
use Rattle.linear_oracle.proofs.Shares.{columns_are, rows_are}
use Rattle.reductions.specs.declared.steps.Step.{Step}
use Rattle.reductions.specs.declared.steps.Step.TheVariants.{Empty as EmptyStep, Singleton as SingleStep, Fixed as FixedStep, Redundant as RedundantStep, Forcing as ForcingStep, Doubleton as PairStep}
use Rattle.reductions.specs.declared.steps.ReduceStep.{ReduceStep}
use Rattle.reductions.specs.declared.steps.Trace.{Trace}
use Rattle.reductions.specs.Known.{IsKnownStep as IsKnownIn}
use Rattle.reductions.specs.Reduction.{Reduces, after_step, left_without, removed_row}
use Rattle.reductions.specs.Stage.{Stage, start_stage}
use Rattle.presolve.specs.Reduced.{IsReductionOf, LeadsTo}
use Rattle.presolve.specs.declared.reduction.Reduction.TheVariants.{Decided}
use Rattle.presolve_laws.specs.Answers.{IsLeafOf, set_system}
use Rattle.presolve_laws.specs.Eased.{DecidesBy}
use Rattle.presolve_laws.proofs.Ends.{start_trace}
use Rattle.presolve_laws.proofs.PresolveAnswers.{cut_combination, cut_ordered, leaf_fits, leaf_ordered, leaf_proves}
use Rattle.presolve_laws.proofs.Systems.{set_formed}
use Rattle.presolve_oracle.specs.Easing.{IsCutBack}
use Rattle.presolve_oracle.proofs.Returning.{decided_limits}
use Rattle.trace_back.specs.Ends.{AreLimitShares}
use Rattle.trace_back.specs.Listed.{told}
use Rattle.report_printer.specs.Printing.{IsKnownStep}
use Rattle.analysis.specs.Reduced.{EndsThere, IsReducedTo, IsStepIn, by_rows, in_program, is_number, is_removed, is_row_removed}

-- ---- rows that are left
-- a row is live after a step where it was so before and the step does not remove it
both : (l a b : Bool) → ((l && not a) && not b) ≡ (l && not (a || b))
both true true b = refl
both true false b = refl
both false a b = refl

kept : (b : Bool) → b ≡ (b && true)
kept true = refl
kept false = refl

none : (b : Bool) → false ≡ (b && false)
none true = refl
none false = refl

without : (row : Option ℕ) (live : List Bool) (i : ℕ) → i < length live → get_or (left_without row live) i false ≡ (get_or live i false && not (is_number row i))
without None live i l = kept (get_or live i false)
without (Some k) live i l =
    elim (cases_eq i k) [
      | inl e ↦
          (let here : get_or (slice_set live k false) i false ≡ false = ap (λ n. get_or (slice_set live n false) i false) (sym e) ∙ get_or-set_same live i false false l in
          here ∙ none (get_or live i false) ∙ sym (ap (λ b. get_or live i false && not b) (eq-eqb k i (sym e))))
      | inr e ↦
          (let there : get_or (slice_set live k false) i false ≡ get_or live i false = get_or-set_other live k i false false e in
          there ∙ kept (get_or live i false) ∙ sym (ap (λ b. get_or live i false && not b) (ne_eqb k i (λ q. e (sym q)))))
    ]

same_length : (row : Option ℕ) (live : List Bool) → length (left_without row live) ≡ length live
same_length None live = refl
same_length (Some k) live = length-set live k false

live_length : (stage last : Stage) (steps : List Step) → Reduces stage steps last → length last.live ≡ length stage.live
live_length stage last [] r = sym (ap (λ (s : Stage). length s.live) r)
live_length stage last (step ∷ steps) r = live_length (after_step step stage) last steps r.1 ∙ same_length (removed_row step) stage.live

live_at : (stage last : Stage) (steps : List Step) → Reduces stage steps last → (i : ℕ) → i < length stage.live → get_or last.live i false ≡ (get_or stage.live i false && not (is_row_removed steps i))
live_at stage last [] r i l = sym (ap (λ (s : Stage). get_or s.live i false) r) ∙ kept (get_or stage.live i false)
live_at stage last (step ∷ steps) r i l =
    live_at (after_step step stage) last steps r.1 i (subst (λ n. i < n) (sym (same_length (removed_row step) stage.live)) l)
    ∙ ap (λ b. b && not (is_row_removed steps i)) (without (removed_row step) stage.live i l)
    ∙ both (get_or stage.live i false) (is_number (removed_row step) i) (is_row_removed steps i)

-- as many pass a test as its answers are true
count_same : (p : ℕ → Bool) (xs : List ℕ) → length (filter (λ b. b) (map p xs)) ≡ length (filter p xs)
count_same p [] = refl
count_same p (x ∷ xs) = by (p x) (count_same p xs)
  where
    by : (b : Bool) → length (filter (λ b. b) (map p xs)) ≡ length (filter p xs) → length (cond b (b ∷ filter (λ b. b) (map p xs)) (filter (λ b. b) (map p xs))) ≡ length (cond b (x ∷ filter p xs) (filter p xs))
    by true e = omega (arith, e)
    by false e = e

-- the rows that are live at the end are those that no step removes
pub rows_left : (system : LinearSystem) (last : Stage) (steps : List Step) → Reduces (start_stage system) steps last → length (filter (λ i. not (is_row_removed steps i)) (numbers_from 0 (length system.rows))) ≡ length (filter (λ live. live) last.live)
rows_left system last steps r =
    let n : ℕ = length system.rows in
    let p : ℕ → Bool = λ i. not (is_row_removed steps i) in
    let size : length last.live ≡ n = live_length (start_stage system) last steps r ∙ length-map system.rows (λ r. true) in
    let whole : last.live ≡ map p (numbers_from 0 n) =
    ext_get_or false last.live (map p (numbers_from 0 n)) (size ∙ sym (length-map (numbers_from 0 n) p ∙ length_numbers 0 n))
    (λ i l.
    let within : i < n = subst (λ m. i < m) size l in
    let start : get_or (map (λ r. true) system.rows) i false ≡ true = get_or-map (λ r. true) system.rows i empty_system_row false within in
    live_at (start_stage system) last steps r i (subst (λ m. i < m) (sym (length-map system.rows (λ r. true))) within)
    ∙ ap (λ b. b && p i) start ∙ sym (mapped_at p n i false within)) in
    sym (ap (λ (live : List Bool). length (filter (λ b. b) live)) whole ∙ count_same p (numbers_from 0 n))

-- ---- steps by the numbers of the program
step_in : (columns rows : ℕ) (step : Step) → IsKnownIn columns rows step → IsStepIn rows (told step)
step_in columns rows (EmptyStep i) h = h
step_in columns rows (SingleStep s) h = h.0
step_in columns rows (FixedStep f) h = tt
step_in columns rows (RedundantStep i) h = h
step_in columns rows (ForcingStep f) h = h.0
step_in columns rows (PairStep d) h = h.0

pub steps_in : (model : Program) (set : List Member) (steps : List Step) → All (IsKnownIn (length (set_system model set).columns) (length (set_system model set).rows)) steps → All (λ s. IsStepIn (length (rows_in model set)) (told s)) steps
steps_in model set steps h =
    subst (λ n. All (λ s. IsStepIn n (told s)) steps) (rows_are model set [])
    (All-weaker (IsKnownIn (length (set_system model set).columns) (length (set_system model set).rows)) (λ s. IsStepIn (length (set_system model set).rows) (told s))
    (step_in (length (set_system model set).columns) (length (set_system model set).rows)) steps h)

-- the rows of a set are rows of the program
row_of_program : (model : Program) (set : List Member) (k : ℕ) → k < length (rows_in model set) → slice_index (rows_in model set) k < length model.rows
row_of_program model set k l =
    All-get_or (λ i. i < length model.rows) (rows_in model set) k 0 l
    (All-filter (has_row set) (λ i. i < length model.rows) (numbers_from 0 (length model.rows))
    (All-from_get_or (λ i. i < length model.rows) (numbers_from 0 (length model.rows)) 0
    (λ i h. let within : i < length model.rows = subst (λ n. i < n) (length_numbers 0 (length model.rows)) h in
    let number = number_at 0 (length model.rows) i 0 within in
    omega (arith, within, number))))

known_step : (model : Program) (set : List Member) (step : Step) → IsKnownIn (length model.columns) (length (rows_in model set)) step → IsKnownStep model (in_program model set (told step))
known_step model set (EmptyStep i) h = row_of_program model set i h
known_step model set (SingleStep s) h = row_of_program model set s.row h.0
known_step model set (FixedStep f) h = h.0
known_step model set (RedundantStep i) h = row_of_program model set i h
known_step model set (ForcingStep f) h = row_of_program model set f.row h.0
known_step model set (PairStep d) h = (row_of_program model set d.row h.0, h.1.1.0)

-- of the steps that lead on from the start
pub known_steps : (model : Program) (set : List Member) (last : Stage) (made : List Step) → IsWellFormed model → Reduces (start_stage (set_system model set)) made last → All (IsKnownStep model) (map (λ s. in_program model set (told s)) made)
known_steps model set last made formed reduces =
    let laws = start_trace (set_system model set) last made (set_formed model set formed) reduces in
    All-map (IsKnownStep model) (λ s. in_program model set (told s)) made
    (All-weaker (IsKnownIn (length model.columns) (length (rows_in model set))) (λ s. IsKnownStep model (in_program model set (told s))) (known_step model set) made
    (subst (λ n. All (IsKnownIn n (length (rows_in model set))) made) (columns_are model set [])
    (subst (λ n. All (IsKnownIn (length (set_system model set).columns) n) made) (rows_are model set []) laws.known)))

-- ---- the answer
pub reduced_to : (model : Program) (trace : Trace) (last : Stage) (steps : List ReduceStep) (rows columns : ℕ) → LeadsTo (set_system model (active_members model)) trace last → EndsThere model trace.steps last
    → steps ≡ map (λ s. in_program model (active_members model) (told s)) trace.steps
    → rows ≡ length (filter (λ i. not (is_row_removed trace.steps i)) (numbers_from 0 trace.rows))
    → columns ≡ length (filter (λ j. not (is_removed trace.steps j)) (numbers_from 0 trace.columns)) → IsReducedTo model steps rows columns
reduced_to model trace last steps rows columns leads ends steps_are rows_is columns_is =
    let active : List Member = active_members model in
    record {
      made = trace.steps;
      last = last;
      reduces = leads.reduces;
      ends = ends;
      steps_are = steps_are;
      rows_are =
          rows_is ∙ ap (λ n. length (filter (λ i. not (is_row_removed trace.steps i)) (numbers_from 0 n))) leads.known.rows_are
          ∙ rows_left (set_system model active) last trace.steps leads.reduces;
      columns_are =
          columns_is ∙ ap (λ n. length (filter (λ j. not (is_removed trace.steps j)) (numbers_from 0 n))) (leads.known.columns_are ∙ columns_are model active []);
    }

-- its steps are told one after another
pub told_steps : (model : Program) (set : List Member) (rows : List ℕ) (short : List ReduceStep) (steps : List ReduceStep) (made : List Step) → rows ≡ rows_in model set → short ≡ map told made → steps ≡ map (by_rows rows) short
    → steps ≡ map (λ s. in_program model set (told s)) made
told_steps model set rows short steps made rows_is short_is e =
    e ∙ ap (λ (l : List ℕ). map (by_rows l) short) rows_is ∙ ap (map (in_program model set)) short_is ∙ twice made
  where
    twice : (made : List Step) → map (in_program model set) (map told made) ≡ map (λ s. in_program model set (told s)) made
    twice [] = refl
    twice (s ∷ made) = ap (λ (l : List ReduceStep). in_program model set (told s) ∷ l) (twice made)

-- ---- what decides
-- the proof is a leaf whose shares come back from what decides
pub record IsDecidedLeaf (model : Program) (proof : Proof) : Type 0 where
  pub of : List VariableShare
  pub decides : DecidesBy (set_system model (active_members model)) of
  pub leaf : IsLeafOf model (active_members model) proof of

module _ (model : Program) (set : SetValue) (combo : Combo) (trace : Trace) (formed : IsWellFormed model) (whole : set ≡ active_set model) (h : IsReductionOf (set_system model (active_members model)) (Decided combo trace)) where
  abbrev active : List Member
  active = active_members model

  -- the shares name limits of such a system
  abbrev AreLimitsOf : List Member → List VariableShare → Type 0
  AreLimitsOf members of = AreLimitShares (length (set_system model members).columns) (length (set_system model members).rows) of combo.shares

  -- those that decide do
  active_limits : AreLimitsOf active h.1.1.0
  active_limits = decided_limits model active trace h.0 h.1.0 h.1.1.0 combo.shares formed h.1.1.1.1 h.1.1.1.0

  pub limits_given : (of : List VariableShare) × AreLimitsOf set.members of
  limits_given = (h.1.1.0, subst (λ (s : SetValue). AreLimitsOf s.members h.1.1.0) (sym whole) active_limits)

  -- what comes back of them
  cut_given : (found : Option Proof) → ((of : List VariableShare) → AreLimitsOf set.members of → IsCutBack model set.members trace.steps of found) → IsCutBack model active trace.steps h.1.1.0 found
  cut_given found cut = subst (λ (s : SetValue). (of : List VariableShare) → AreLimitsOf s.members of → IsCutBack model s.members trace.steps of found) whole cut h.1.1.0 active_limits

  pub decided_leaf : (proof : Proof) → ((of : List VariableShare) → AreLimitsOf set.members of → IsCutBack model set.members trace.steps of (Some proof)) → IsDecidedLeaf model proof
  decided_leaf proof cut =
      let (back, (comes, leaf)) = cut_given (Some proof) cut in
      record {
        of = back;
        decides = record { steps = trace.steps; last = h.0; reduces = h.1.0.reduces; of = h.1.1.0; decided = h.1.1.1.1; comes = comes };
        leaf = leaf;
      }

  -- or the reduction ends there
  pub decided_ends : ((of : List VariableShare) → AreLimitsOf set.members of → IsCutBack model set.members trace.steps of None) → (last : Stage) × (LeadsTo (set_system model active) trace last × EndsThere model trace.steps last)
  decided_ends cut =
      let wide = cut_given None cut in
      (h.0, (h.1.0, inr (h.1.1.0, (h.1.1.1.1, subst (λ n. IsSome (first_wide limit (weights_work n trace.steps (weights_of h.1.1.0)))) (columns_are model active []) wide))))

module _ (model : Program) (proof : Proof) (formed : IsWellFormed model) (h : IsDecidedLeaf model proof) where
  abbrev system : LinearSystem
  system = set_system model (active_members model)

  combination : IsVariableCombination system h.of
  combination = cut_combination system 0 (set_formed model (active_members model) formed) h.of (inl h.decides)

  pub decided_proves : IsProof model (active_members model) proof.nodes
  decided_proves = leaf_proves model (active_members model) formed proof h.of combination h.leaf

  pub decided_ordered : AreLeavesInOrder proof.nodes
  decided_ordered = leaf_ordered model (active_members model) formed proof h.of combination (cut_ordered system 0 (set_formed model (active_members model) formed) h.of (inl h.decides)) h.leaf

  pub decided_fits : All IsFittingNode proof.nodes
  decided_fits = leaf_fits model (active_members model) formed proof h.of h.leaf
