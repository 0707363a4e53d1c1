-- Ends of reduced systems, as verdicts that come back or as systems that are not eased.
use Rattle.std.proofs.Common.{◌≡◌, ◌+◌, ◌<◌, refl, sym, ◌∙◌, ap, subst, ℕ, List, [], ◌∷◌, ◌++◌, map, length, Option, Some, None, Result, Ok, Err, arith, inl, inr}
use Rattle.std.specs.Prelude.{All, IfOk, IsSome, flat_map}
use Rattle.std.proofs.lemmas.List.Elements.{All-append, All-weaker}
use Rattle.rational.specs.Rational.{ℚ}
use Rattle.frac128.specs.Calculation.{Calculation, first_wide}
use Rattle.frac128.specs.Limit.{limit}
use Rattle.lp_model.specs.declared.members.Member.{Member}
use Rattle.lp_model.specs.declared.members.Side.{Side}
use Rattle.lp_model.specs.declared.members.Side.TheVariants.{Lo, Up}
use Rattle.lp_model.specs.Program.{Program, IsWellFormed}
use Rattle.lp_model.specs.Satisfaction.{values_at}
use Rattle.certs.specs.declared.evidence.Combo.{Combo}
use Rattle.certs.specs.declared.evidence.Node.TheVariants.{Leaf}
use Rattle.certs.specs.declared.evidence.Proof.{Proof}
use Rattle.certs.specs.declared.evidence.Share.{Share}
use Rattle.certs.specs.declared.solving.Verdict.{Verdict}
use Rattle.std.specs.Option.{option_map}
use Rattle.certs.specs.declared.solving.Verdict.TheVariants.{Infeasible}
use Rattle.certs.specs.Ended.{blocked_shares, numbers_from}
use Rattle.certs.specs.Named.{IsOfSystem, named, program_shares}
use Rattle.certs.specs.Plain.{rows_in}
use Rattle.certs.specs.Runs.End.{Feasible as IsFeasible, Infeasible as IsInfeasible}
use Rattle.certs.specs.Solves.{BlocksWith, SettlesAt}
use Rattle.certs.specs.System.{LinearSystem, VariableShare}
use Rattle.certs.specs.Tableau.{value_of}
use Rattle.certs.specs.Turns.{settle_choice}
use Rattle.certs.specs.Turns.Choice.{Blocked}
use Rattle.dictionary.specs.Value.{DictionaryValue, tableau_of}
use Rattle.linear_oracle.specs.Ended.{HasEnded}
use Rattle.linear_oracle.proofs.Shares.{all_known, columns_are, rows_are}
use Rattle.reductions.specs.declared.steps.Step.{Step}
use Rattle.reductions.specs.declared.steps.Trace.{Trace}
use Rattle.reductions.specs.Back.{Weights, point_work, share_of, shares_of, weights_back, weights_of, weights_work}
use Rattle.reductions.specs.Known.{IsTraceOf}
use Rattle.reductions.specs.Reduction.{IsDecidedBy, IsReduced, Reduces}
use Rattle.reductions.specs.Stage.{Stage, start_stage}
use Rattle.reductions.proofs.WeightShares.{IsShareOf, flat_all, share_known}
use Rattle.reductions.proofs.WeightDeciding.{deciding_law}
use Rattle.presolve.specs.Reduced.{LeadsTo}
use Rattle.trace_back.specs.declared.stops.BackStop.{BackStop}
use Rattle.trace_back.specs.Ends.{AreLimitShares, AreSharesBack, IsBackStop, IsPointBack}
use Rattle.trace_back.proofs.Deciding.{deciding_once}
use Rattle.trace_back.proofs.Once.{end_law}
use Rattle.presolve_laws.specs.Answers.{IsLeafOf, set_system}
use Rattle.presolve_laws.specs.Eased.{EasesAt, IsEased, SharesComeBack}
use Rattle.presolve_laws.proofs.Ends.{decided_not_eased, point_not_eased, shares_not_eased, start_trace}
use Rattle.presolve_laws.proofs.PresolveAnswers.{blocked_combination}
use Rattle.presolve_laws.proofs.Systems.{set_formed}
use Rattle.presolve_oracle.specs.Easing.{IsCutBack, IsEasing}

-- ---- shares that come back
-- they are of variables of a system of so many columns and rows
module _ (n m : ℕ) (w : Weights) where
  abbrev IsKnown : VariableShare → Type 0
  IsKnown s = s.variable < n + m

  one_known : (side : Side) (v : ℕ) → v < n + m → All IsKnown (share_of w side v)
  one_known side v l = All-weaker (IsShareOf w side v) IsKnown (λ s h. subst (λ z. z < n + m) (sym h.variable) l) (share_of w side v) (share_known w side v)

  shares_known : All IsKnown (shares_of n m w)
  shares_known =
      All-append IsKnown (flat_map (λ v. share_of w Lo v ++ share_of w Up v) (numbers_from n m)) (flat_map (share_of w Lo) (numbers_from 0 n) ++ flat_map (share_of w Up) (numbers_from 0 n))
      (flat_all IsKnown (λ v. share_of w Lo v ++ share_of w Up v) n m
      (λ r l. All-append IsKnown (share_of w Lo (n + r)) (share_of w Up (n + r)) (one_known Lo (n + r) (omega (arith, l))) (one_known Up (n + r) (omega (arith, l)))))
      (All-append IsKnown (flat_map (share_of w Lo) (numbers_from 0 n)) (flat_map (share_of w Up) (numbers_from 0 n))
      (flat_all IsKnown (share_of w Lo) 0 n (λ r l. one_known Lo (0 + r) (omega (arith, l)))) (flat_all IsKnown (share_of w Up) 0 n (λ r l. one_known Up (0 + r) (omega (arith, l)))))

-- a trace of a system has its counts
pub given_shares : (trace : Trace) (n m : ℕ) (of : List VariableShare) (shares : List Share) → IsTraceOf n m trace → AreLimitShares n m of shares → AreLimitShares trace.columns trace.rows of shares
given_shares trace n m of shares t h =
    subst (λ (a : ℕ). AreLimitShares a trace.rows of shares) (sym t.columns_are) (subst (λ (b : ℕ). AreLimitShares n b of shares) (sym t.rows_are) h)

pub given_back : (trace : Trace) (n m : ℕ) (of : List VariableShare) (back : List Share) → IsTraceOf n m trace → AreSharesBack trace.columns trace.rows trace.steps of back → AreSharesBack n m trace.steps of back
given_back trace n m of back t h =
    subst (λ (a : ℕ). AreSharesBack a m trace.steps of back) t.columns_are (subst (λ (b : ℕ). AreSharesBack trace.columns b trace.steps of back) t.rows_are h)

pub given_wide : (trace : Trace) (n m : ℕ) (of : List VariableShare) → IsTraceOf n m trace → IsSome (first_wide limit (weights_work trace.columns trace.steps (weights_of of))) → IsSome (first_wide limit (weights_work n trace.steps (weights_of of)))
given_wide trace n m of t h = subst (λ (a : ℕ). IsSome (first_wide limit (weights_work a trace.steps (weights_of of)))) t.columns_are h

-- ---- of a set
module _ (model : Program) (set : List Member) where
  abbrev system : LinearSystem
  system = set_system model set

  abbrev columns : ℕ
  columns = length system.columns

  abbrev rows : ℕ
  rows = length system.rows

  -- the shares that come back name limits of the set's plain system
  pub back_of_system : (steps : List Step) (of : List VariableShare) (back : List Share) → AreSharesBack columns rows steps of back → All (λ (s : Share). IsOfSystem (length model.columns) (length (rows_in model set)) s.source) back
  back_of_system steps of back h =
      subst (λ n. All (λ (s : Share). IsOfSystem n (length (rows_in model set)) s.source) back) (columns_are model set [])
      (subst (λ n. All (λ (s : Share). IsOfSystem columns n s.source) back) (rows_are model set [])
      (subst (All (λ (s : Share). IsOfSystem columns rows s.source)) (sym h.shares_are)
      (all_known columns rows (shares_of columns rows (weights_back columns steps (weights_of of))) (shares_known columns rows (weights_back columns steps (weights_of of))))))

  -- as those of the program they are those of the leaf
  pub leaf_back : (steps : List Step) (of : List VariableShare) (back : List Share) (combo : Combo) (proof : Proof) → AreSharesBack columns rows steps of back
      → combo.shares ≡ program_shares model set [] back → proof.nodes ≡ Leaf combo ∷ [] → IsCutBack model set steps of (Some proof)
  leaf_back steps of back combo proof h shares nodes =
      let came : List VariableShare = shares_of columns rows (weights_back columns steps (weights_of of)) in
      let comes : SharesComeBack system steps of came = record { back_is = refl; narrow = h.narrow } in
      let leaf : IsLeafOf model set proof came = record {
        combo = combo;
        leaf = nodes;
        shares_are = shares ∙ ap (program_shares model set []) (h.shares_are ∙ ap (λ n. map (named n) came) (columns_are model set []));
      } in
      (came, (comes, leaf))

  -- ---- what comes back of an end
  module _ (pivots : ℕ) (steps : List Step) (last : Stage) (reduces : Reduces (start_stage system) steps last) where
    -- of the run of a reduced system
    pub blocked_back : IsReduced last → (of : List VariableShare) → BlocksWith last.system pivots of → (found : Option Proof) → IsCutBack model set steps of found → IsEasing model set pivots (option_map (λ p. Infeasible p) found)
    blocked_back reduced of blocks (Some proof) (back, (comes, leaf)) =
        (back, (inr (record { steps = steps; last = last; reduces = reduces; reduced = reduced; of = of; blocks = blocks; comes = comes }), leaf))
    blocked_back reduced of blocks None wide = shares_not_eased system pivots steps last reduces reduced of blocks wide

    -- of what decides
    pub decided_back : (of : List VariableShare) → IsDecidedBy last of → (found : Option Proof) → IsCutBack model set steps of found → IsEasing model set pivots (option_map (λ p. Infeasible p) found)
    decided_back of decided (Some proof) (back, (comes, leaf)) =
        (back, (inl (record { steps = steps; last = last; reduces = reduces; of = of; decided = decided; comes = comes }), leaf))
    decided_back of decided None wide = decided_not_eased system pivots steps last reduces of decided wide

-- nothing, or want of memory
pub none_given : {E : Type 0} (P : Option Verdict → Type 0) (stop : BackStop) (result : Result (Option Verdict) E)
    → IfOk result (λ found. (found ≡ None) × ((work : Calculation) → IsBackStop work stop → IsSome (first_wide limit work)))
    → (((work : Calculation) → IsBackStop work stop → IsSome (first_wide limit work)) → P None) → IfOk result P
none_given P stop (Ok found) h p = subst P (sym h.0) (p h.1)
none_given P stop (Err e) h p = tt

-- ---- ends of runs in code
module _ (system : LinearSystem) (pivots : ℕ) (now : DictionaryValue) where
  -- values that are those of the columns at the end of a run that settles
  pub settles_at : (values : List ℚ) → HasEnded system pivots now IsFeasible → length values ≡ now.columns → ((v : ℕ) → v < now.columns → values_at values v ≡ value_of (tableau_of now) v) → SettlesAt system pivots values
  settles_at values h count values_are = record {
    last = now.basis;
    run = h.run;
    here = record { tableau = tableau_of now; is_of = h.is_of; at = refl };
    count = count ∙ h.columns;
    values_are = λ j l. values_are j (subst (λ n. j < n) (sym h.columns) l);
  }

  -- the shares at the end of one that is blocked
  pub blocks_with : (variable : ℕ) (side : Side) → HasEnded system pivots now (IsInfeasible variable) → settle_choice (tableau_of now) ≡ Blocked variable side → BlocksWith system pivots (blocked_shares system (tableau_of now) variable side)
  blocks_with variable side h blocked = record {
    last = now.basis;
    variable = variable;
    run = h.run;
    here = record { tableau = tableau_of now; is_of = h.is_of; at = refl };
    side = side;
    blocked = blocked;
    shares_are = refl;
  }

-- ---- ends of reduced systems
module _ (model : Program) (set : List Member) (trace : Trace) (last : Stage) (leads : LeadsTo (set_system model set) trace last) where
  abbrev whole : LinearSystem
  whole = set_system model set

  -- values that come back
  pub eases_at : (pivots : ℕ) (values back : List ℚ) → IsReduced last → SettlesAt last.system pivots values → length values ≡ trace.columns → IsPointBack trace.steps values back → EasesAt whole pivots back
  eases_at pivots values back reduced settles count h =
      let all : length values ≡ length whole.columns = count ∙ leads.known.columns_are in
      record {
        steps = trace.steps;
        last = last;
        reduces = leads.reduces;
        reduced = reduced;
        values = values;
        settles = settles;
        comes = record { count = h.count ∙ all; values_are = λ j l. h.values_are j (subst (λ n. j < n) (sym all) l); narrow = h.narrow };
      }

  pub values_wide : (pivots : ℕ) (values : List ℚ) → IsReduced last → SettlesAt last.system pivots values → IsSome (first_wide limit (point_work trace.steps (values_at values))) → IsEased whole pivots → ⊥
  values_wide pivots values reduced settles wide = point_not_eased whole pivots trace.steps last leads.reduces reduced values settles wide

  -- the shares of a blocked variable name limits of the set's plain system, none of them twice
  pub blocked_limits : (pivots : ℕ) (now : DictionaryValue) (variable : ℕ) (side : Side) (shares : List Share) → IsWellFormed model → HasEnded last.system pivots now (IsInfeasible variable)
      → settle_choice (tableau_of now) ≡ Blocked variable side → shares ≡ map (named now.columns) (blocked_shares last.system (tableau_of now) variable side)
      → AreLimitShares (length whole.columns) (length whole.rows) (blocked_shares last.system (tableau_of now) variable side) shares
  blocked_limits pivots now variable side shares formed h blocked e =
      let laws = start_trace whole last trace.steps (set_formed model set formed) leads.reduces in
      let of : List VariableShare = blocked_shares last.system (tableau_of now) variable side in
      let combination = blocked_combination last.system pivots of laws.formed (blocks_with last.system pivots now variable side h blocked) in
      record {
        known =
            subst (λ n. All (λ (s : VariableShare). s.variable < n + length whole.rows) of) laws.large.columns
            (subst (λ n. All (λ (s : VariableShare). s.variable < length last.system.columns + n) of) laws.large.rows combination.known);
        once = end_law last.system (tableau_of now) variable side;
        shares_are = e ∙ ap (λ n. map (named n) of) (h.columns ∙ laws.large.columns);
      }

  -- and so do those of what decides
  pub decided_limits : (of : List VariableShare) (shares : List Share) → IsWellFormed model → IsDecidedBy last of → shares ≡ map (named (length whole.columns)) of → AreLimitShares (length whole.columns) (length whole.rows) of shares
  decided_limits of shares formed decided e =
      let laws = start_trace whole last trace.steps (set_formed model set formed) leads.reduces in
      let combination = deciding_law last of laws.formed decided in
      record {
        known =
            subst (λ n. All (λ (s : VariableShare). s.variable < n + length whole.rows) of) laws.large.columns
            (subst (λ n. All (λ (s : VariableShare). s.variable < length last.system.columns + n) of) laws.large.rows combination.known);
        once = deciding_once last of laws.formed decided;
        shares_are = e;
      }
