-- What is answered to a set without marks holds, stands in order, and stops within the set.
use Rattle.std.proofs.Common.{◌≡◌, ◌<◌, refl, sym, ◌∙◌, ap, subst, ℕ, false, List, [], map, length, get_or, Ok, Err, inl, inr}
use Rattle.std.specs.Prelude.{All, ◌⊎◌}
use Rattle.std.proofs.lemmas.List.Elements.{All-cons, All-contains_itself, All-nil}
use Rattle.rational.specs.Rational.{ℚ}
use Rattle.rational.specs.Linear.{Assignment}
use Rattle.lp_model.specs.declared.members.Member.{Member}
use Rattle.lp_model.specs.Program.{Program, IsWellFormed}
use Rattle.lp_model.specs.Satisfaction.{Holds, values_at}
use Rattle.lp_model.proofs.Sets.{has_of_contains}
use Rattle.certs.specs.declared.evidence.Branch.{Branch}
use Rattle.certs.specs.declared.evidence.Node.TheVariants.{Leaf}
use Rattle.certs.specs.declared.evidence.Proof.{Proof}
use Rattle.certs.specs.declared.solving.Stop.{Stop}
use Rattle.certs.specs.declared.solving.Stop.TheVariants.{Memory}
use Rattle.certs.specs.declared.solving.Verdict.{Verdict}
use Rattle.certs.specs.declared.solving.Verdict.TheVariants.{Feasible, Infeasible}
use Rattle.certs.specs.Answers.{IsPlainSet}
use Rattle.certs.specs.Combination.{IsCombination}
use Rattle.certs.specs.Named.{named, program_shares}
use Rattle.certs.specs.Order.{AreLeavesInOrder, AreSharesInOrder, IsNodeInOrder}
use Rattle.certs.specs.Proof.{IsFittingNode, IsProof, Tip}
use Rattle.certs.specs.Solves.{BlocksWith, SettlesAt}
use Rattle.certs.specs.System.{LinearSystem, VariableShare, IsVariableCombination}
use Rattle.certs.specs.Tableau.{value_of}
use Rattle.certs.specs.Tales.{IsSiteWithin, IsVerdict}
use Rattle.certs.specs.Turns.{settle_choice}
use Rattle.certs.specs.Turns.Choice.{Settled}
use Rattle.frac128.specs.Limit.{limit}
use Rattle.certs.proofs.Agreement.{agreed_choice}
use Rattle.certs.proofs.Blocked.{blocked_law}
use Rattle.certs.proofs.Feasible.{feasible_law}
use Rattle.certs.proofs.PlainAnswers.{plain_holds, plain_ordered, plain_within, unmarked}
use Rattle.certs.proofs.PlainPoints.{member_holds}
use Rattle.certs.proofs.RunEnds.{agree}
use Rattle.certs.proofs.Translated.{translation}
use Rattle.linear_oracle.proofs.Shares.{columns_are, of_plain}
use Rattle.reductions.specs.Back.{point_back}
use Rattle.reductions.specs.Laws.{IsFormed, Meets}
use Rattle.reductions.proofs.WeightDeciding.{deciding_law}
use Rattle.presolve_laws.specs.Answers.{IsEasedVerdict, IsLeafOf, IsPresolvedAnswer, IsPresolvedVerdict, IsUneased, set_system}
use Rattle.presolve_laws.specs.Eased.{CutsBy, EasesAt}
use Rattle.presolve_laws.proofs.Ends.{start_trace}
use Rattle.presolve_laws.proofs.Meeting.{meeting_same, meeting_solution, solution_meets, with_rows}
use Rattle.linear_oracle.proofs.Placed.{placed_in_order}
use Rattle.presolve_laws.proofs.Systems.{apart_formed, set_formed}

-- ---- the ends of runs of formed systems
-- where one settles its values meet the system
pub settled_meets : (system : LinearSystem) (pivots : ℕ) (values : List ℚ) → IsFormed system → SettlesAt system pivots values → Meets system (values_at values)
settled_meets system pivots values formed s =
    let end = s.run.run.ends in
    let choice : settle_choice s.here.tableau ≡ Settled = agreed_choice s.here.tableau end.here.tableau (agree limit system s.last s.here end.here) ∙ end.chosen in
    solution_meets system formed (value_of s.here.tableau) (values_at values) (feasible_law system s.here.tableau (apart_formed system s.run.apart formed) s.here.is_of choice) s.values_are

-- where one is blocked its shares are a combination
pub blocked_combination : (system : LinearSystem) (pivots : ℕ) (of : List VariableShare) → IsFormed system → BlocksWith system pivots of → IsVariableCombination system of
blocked_combination system pivots of formed b =
    subst (IsVariableCombination system) (sym b.shares_are) (blocked_law system b.here.tableau b.variable b.side (apart_formed system b.run.apart formed) b.here.is_of b.blocked)

-- ---- evidence that comes back
module _ (system : LinearSystem) (pivots : ℕ) (formed : IsFormed system) where
  -- the values meet the system
  point_meets : (back : List ℚ) (e : EasesAt system pivots back) → Meets system (point_back e.steps (values_at e.values))
  point_meets back e =
      let trace = start_trace system e.last e.steps formed e.reduces in
      trace.point (values_at e.values) (settled_meets e.last.system pivots e.values trace.formed e.settles)

  -- the shares are a combination of it
  pub cut_combination : (back : List VariableShare) → CutsBy system pivots back → IsVariableCombination system back
  cut_combination back (inl d) =
      let trace = start_trace system d.last d.steps formed d.reduces in
      subst (IsVariableCombination system) (sym d.comes.back_is) (trace.combination d.of (deciding_law d.last d.of trace.formed d.decided))
  cut_combination back (inr e) =
      let trace = start_trace system e.last e.steps formed e.reduces in
      subst (IsVariableCombination system) (sym e.comes.back_is) (trace.combination e.of (blocked_combination e.last.system pivots e.of trace.formed e.blocks))

  -- in order
  pub cut_ordered : (back : List VariableShare) → CutsBy system pivots back → AreSharesInOrder (map (named (length system.columns)) back)
  cut_ordered back (inl d) =
      subst (λ (l : List VariableShare). AreSharesInOrder (map (named (length system.columns)) l)) (sym d.comes.back_is) ((start_trace system d.last d.steps formed d.reduces).ordered d.of)
  cut_ordered back (inr e) =
      subst (λ (l : List VariableShare). AreSharesInOrder (map (named (length system.columns)) l)) (sym e.comes.back_is) ((start_trace system e.last e.steps formed e.reduces).ordered e.of)

-- ---- leaves of a set
module _ (model : Program) (set : List Member) (formed : IsWellFormed model) where
  abbrev system : LinearSystem
  system = set_system model set

  -- the leaf is a proof
  pub leaf_proves : (proof : Proof) (of : List VariableShare) → IsVariableCombination system of → IsLeafOf model set proof of → IsProof model set proof.nodes
  leaf_proves proof of combination h = record {
    tree = Tip h.combo.shares;
    listed = sym h.leaf;
    proves =
        subst (IsCombination model set []) (ap (λ n. program_shares model set [] (map (named n) of)) (columns_are model set []) ∙ sym h.shares_are)
        (translation model set [] false (map (named (length system.columns)) of) formed (All-nil (λ (b : Branch). b.column < length model.columns)) (record { of = of; combination = combination; same = refl }));
  }

  -- with its shares in order
  pub leaf_ordered : (proof : Proof) (of : List VariableShare) → IsVariableCombination system of → AreSharesInOrder (map (named (length system.columns)) of) → IsLeafOf model set proof of → AreLeavesInOrder proof.nodes
  leaf_ordered proof of combination order h =
      let shares = map (named (length system.columns)) of in
      let known = of_plain model set [] shares (record { of = of; combination = combination; same = refl }) in
      let own : AreSharesInOrder h.combo.shares =
      subst AreSharesInOrder (ap (λ n. program_shares model set [] (map (named n) of)) (columns_are model set []) ∙ sym h.shares_are) (placed_in_order model set shares known order) in
      subst AreLeavesInOrder (sym h.leaf) (All-cons IsNodeInOrder (Leaf h.combo) [] own (All-nil IsNodeInOrder))

  -- it has no splits, whose numbers would have to fit
  pub leaf_fits : (proof : Proof) (of : List VariableShare) → IsLeafOf model set proof of → All IsFittingNode proof.nodes
  leaf_fits proof of h = subst (All IsFittingNode) (sym h.leaf) (All-cons IsFittingNode (Leaf h.combo) [] tt (All-nil IsFittingNode))

-- ---- of a set without marks
module _ (model : Program) (pivots : ℕ) (set : List Member) (asked : IsPlainSet model set) where
  abbrev whole : LinearSystem
  whole = set_system model set

  formed : IsFormed whole
  formed = set_formed model set asked.formed

  -- every member of the set holds at the point
  point_holds : (back : List ℚ) → EasesAt whole pivots back → All (λ m. Holds model (values_at back) m) set
  point_holds back e =
      let x : Assignment = point_back e.steps (values_at e.values) in
      let meets : Meets whole x = point_meets whole pivots formed back e in
      let same : (j : ℕ) → j < length model.columns → values_at back j ≡ with_rows whole x j = λ j l.
      let below : j < length whole.columns = subst (λ n. j < n) (sym (columns_are model set [])) l in
      e.comes.values_are j below ∙ meeting_same whole formed x meets j below in
      λ k d l. member_holds model set [] (with_rows whole x) (values_at back) asked.formed (meeting_solution whole formed x meets refl) same
      (get_or set k d) (asked.known k d l) (has_of_contains set (get_or set k d) (All-contains_itself set k d l)) (unmarked set asked.linear k d l)

  verdict_holds : (verdict : Verdict) → IsEasedVerdict model set pivots (Ok verdict) → IsVerdict model set verdict
  verdict_holds (Feasible point) h = record { each_column = h.comes.count ∙ columns_are model set []; satisfies = point_holds point.values h }
  verdict_holds (Infeasible proof) (of, (cut, leaf)) = leaf_proves model set asked.formed proof of (cut_combination whole pivots formed of cut) leaf

  proof_ordered : (proof : Proof) → IsEasedVerdict model set pivots (Ok (Infeasible proof)) → AreLeavesInOrder proof.nodes
  proof_ordered proof (of, (cut, leaf)) = leaf_ordered model set asked.formed proof of (cut_combination whole pivots formed of cut) (cut_ordered whole pivots formed of cut) leaf

-- ---- the laws of an oracle that answers so
-- an answered verdict holds
pub presolved_holds : (model : Program) (pivots : ℕ) (set : List Member) (verdict : Verdict) → IsPresolvedAnswer model pivots set (Ok verdict) → IsVerdict model set verdict
presolved_holds model pivots set verdict h = by h.ends
  where
    by : IsPresolvedVerdict model set pivots (Ok verdict) → IsVerdict model set verdict
    by (inl eased) = verdict_holds model pivots set h.asked verdict eased
    by (inr plain) = plain_holds model pivots set verdict (record { asked = h.asked; ends = plain.ends })

-- the shares of its leaf stand in order
pub presolved_ordered : (model : Program) (pivots : ℕ) (set : List Member) (proof : Proof) → IsPresolvedAnswer model pivots set (Ok (Infeasible proof)) → AreLeavesInOrder proof.nodes
presolved_ordered model pivots set proof h = by h.ends
  where
    by : IsPresolvedVerdict model set pivots (Ok (Infeasible proof)) → AreLeavesInOrder proof.nodes
    by (inl eased) = proof_ordered model pivots set h.asked proof eased
    by (inr plain) = plain_ordered model pivots set proof (record { asked = h.asked; ends = plain.ends })

-- it has no splits, whose numbers would have to fit
pub presolved_fits : (model : Program) (pivots : ℕ) (set : List Member) (proof : Proof) → IsPresolvedAnswer model pivots set (Ok (Infeasible proof)) → All IsFittingNode proof.nodes
presolved_fits model pivots set proof h = by h.ends
  where
    by : IsPresolvedVerdict model set pivots (Ok (Infeasible proof)) → All IsFittingNode proof.nodes
    by (inl (of, (cut, leaf))) = leaf_fits model set h.asked.formed proof of leaf
    by (inr plain) = subst (All IsFittingNode) (sym plain.ends.leaf) (All-cons IsFittingNode (Leaf plain.ends.combo) [] tt (All-nil IsFittingNode))

-- the site of an answered stop lies within the set
pub presolved_within : (model : Program) (pivots : ℕ) (set : List Member) (stop : Stop) → IsPresolvedAnswer model pivots set (Err stop) → IsSiteWithin set stop
presolved_within model pivots set stop h = by h.ends
  where
    by : IsPresolvedVerdict model set pivots (Err stop) → IsSiteWithin set stop
    by (inl memory) = subst (IsSiteWithin set) (sym memory) tt
    by (inr plain) = plain_within model pivots set stop (record { asked = h.asked; ends = plain.ends })

-- a stop other than want of memory is that of the set's own run, and the set is not eased
pub presolved_stop : (model : Program) (pivots : ℕ) (set : List Member) (stop : Stop) → IsPresolvedAnswer model pivots set (Err stop) → (stop ≡ Memory) ⊎ IsUneased model set pivots (Err stop)
presolved_stop model pivots set stop h = h.ends
