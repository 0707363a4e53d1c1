-- What the quick oracle answers over the reference.
use Rattle.std.proofs.Common.{◌≡◌, ℕ, refl, sym, ◌∙◌, ap, subst, Bool, true, false, true≢false, not, ◌&&◌, ◌==◌, eq-eqb, List, Ok, Err, inl, inr}
use Rattle.std.specs.Prelude.{All, Result, ◌⊎◌}
use Rattle.std.proofs.lemmas.Bool.{or_right}
use Rattle.std.proofs.lemmas.List.Elements.{All-contains_itself, All-weaker, filter_passes}
use Rattle.lp_model.specs.declared.members.Member.{Member}
use Rattle.lp_model.specs.Members.{active_members, is_mark}
use Rattle.lp_model.specs.MemberSets.{SetValue, active_set}
use Rattle.lp_model.specs.Program.{Program}
use Rattle.certs.specs.declared.evidence.Proof.{Proof}
use Rattle.certs.specs.declared.solving.Stop.{Stop}
use Rattle.certs.specs.declared.solving.Stop.TheVariants.{Memory}
use Rattle.certs.specs.declared.solving.Verdict.{Verdict}
use Rattle.certs.specs.declared.solving.Verdict.TheVariants.{Infeasible}
use Rattle.certs.specs.Answers.{IsAnsweredStop, IsCoreBy, IsTreeAnswer, is_linear}
use Rattle.certs.specs.Bound.{without_marks}
use Rattle.certs.specs.Order.{AreLeavesInOrder}
use Rattle.certs.specs.Proof.{IsFittingNode}
use Rattle.certs.specs.Sites.{Budgets}
use Rattle.certs.specs.Tales.{IsVerdict, OracleState}
use Rattle.certs.specs.Trees.{has_mark}
use Rattle.certs.proofs.PlainAnswers.{linear_of}
use Rattle.branch_proof.proofs.TreeAnswers.{tree_holds, tree_ordered}
use Rattle.branch_oracle.specs.Answers.{IsBranchAnswer}
use Rattle.presolve_laws.specs.Answers.{IsPresolvedAnswer, IsPresolvedReference, IsPresolvedVerdict}
use Rattle.presolve_laws.proofs.PresolveAnswers.{presolved_fits, presolved_holds, presolved_ordered}
use Rattle.quick_answers.specs.Alone.{is_tiny, stands_alone, wants_nodes}
use Rattle.quick_answers.specs.Answers.{IsAsked, IsQuickAnswer, quick_holds, quick_ordered}
use Rattle.analysis.specs.Right.{IsWhole}
use Rattle.analysis.proofs.Stopping.{IsRunOf}

-- ---- the reference
-- what an oracle answers that presolves
abbrev PresolvedAnswers : Program → Budgets → List Member → Result Verdict Stop → Type 0
PresolvedAnswers model budgets set result = IsPresolvedAnswer model budgets.pivots set result

-- and over it one that makes trees
abbrev pub InnerAnswers : Program → Budgets → List Member → Result Verdict Stop → Type 0
InnerAnswers model budgets set result = IsBranchAnswer PresolvedAnswers model budgets set result

-- an answer that is passed on, or want of memory for it
passed_on : (model : Program) (pivots : ℕ) (set : List Member) (result answer : Result Verdict Stop) → IsPresolvedAnswer model pivots set answer → (result ≡ answer) ⊎ (result ≡ Err Memory) → IsPresolvedAnswer model pivots set result
passed_on model pivots set result answer h (inl e) = subst (IsPresolvedAnswer model pivots set) (sym e) h
passed_on model pivots set result answer h (inr e) = record { asked = h.asked; ends = subst (IsPresolvedVerdict model set pivots) (sym e) (inl refl) }

-- it answers what the reference does
pub inner_reference : (model : Program) (budgets : Budgets) (set : List Member) (result : Result Verdict Stop) → InnerAnswers model budgets set result → IsPresolvedReference model budgets set result
inner_reference model budgets set result (inl h) = inl (passed_on model budgets.pivots set result h.answer h.answered h.given)
inner_reference model budgets set result (inr h) = inr h

-- it serves every set
pub all_served : (set : List Member) → is_linear (without_marks set) ≡ true
all_served set = linear_of (without_marks set) (All-weaker (λ (m : Member). not (is_mark m) ≡ true) (λ (m : Member). is_mark m ≡ false) (λ m e. by (is_mark m) e) (without_marks set) (filter_passes (λ m. not (is_mark m)) set))
  where
    by : (b : Bool) → not b ≡ true → b ≡ false
    by true e = sym e
    by false e = refl

reference_holds : (model : Program) (budgets : Budgets) (set : List Member) (verdict : Verdict) → IsPresolvedReference model budgets set (Ok verdict) → IsVerdict model set verdict
reference_holds model budgets set verdict (inl h) = presolved_holds model budgets.pivots set verdict h
reference_holds model budgets set verdict (inr h) = tree_holds model budgets set verdict h

reference_ordered : (model : Program) (budgets : Budgets) (set : List Member) (proof : Proof) → IsPresolvedReference model budgets set (Ok (Infeasible proof)) → AreLeavesInOrder proof.nodes
reference_ordered model budgets set proof (inl h) = presolved_ordered model budgets.pivots set proof h
reference_ordered model budgets set proof (inr h) = tree_ordered model budgets set proof h

reference_fits : (model : Program) (budgets : Budgets) (set : List Member) (proof : Proof) → IsPresolvedReference model budgets set (Ok (Infeasible proof)) → All IsFittingNode proof.nodes
reference_fits model budgets set proof (inl h) = presolved_fits model budgets.pivots set proof h
reference_fits model budgets set proof (inr h) = h.ends.1

-- ---- the reference alone
pub inner_ordered : (model : Program) (budgets : Budgets) (set : List Member) (proof : Proof) → InnerAnswers model budgets set (Ok (Infeasible proof)) → AreLeavesInOrder proof.nodes
inner_ordered model budgets set proof h = reference_ordered model budgets set proof (inner_reference model budgets set (Ok (Infeasible proof)) h)

pub inner_fits : (model : Program) (budgets : Budgets) (set : List Member) (proof : Proof) → InnerAnswers model budgets set (Ok (Infeasible proof)) → All IsFittingNode proof.nodes
inner_fits model budgets set proof h = reference_fits model budgets set proof (inner_reference model budgets set (Ok (Infeasible proof)) h)

pub inner_stop : (model : Program) (budgets : Budgets) (asked : List Member) (stop : Stop) → IsAnsweredStop (InnerAnswers model budgets) asked stop → IsAnsweredStop (IsPresolvedReference model budgets) asked stop
inner_stop model budgets asked stop (inl memory) = inl memory
inner_stop model budgets asked stop (inr h) = inr (inner_reference model budgets asked (Err stop) h)

-- a core that it told
pub reference_core : (model : Program) (budgets : Budgets) (core : List Member) → IsCoreBy (InnerAnswers model budgets) (active_members model) core → IsCoreBy (IsPresolvedReference model budgets) (active_members model) core
reference_core model budgets core h = record { proof = h.proof; answered = inner_reference model budgets (active_members model) (Ok (Infeasible h.proof)) h.answered; core_is = h.core_is }

-- ---- the quick oracle
-- what it answers
abbrev pub QuickAnswers : Program → Budgets → List Member → Result Verdict Stop → Type 0
QuickAnswers model budgets set result = IsQuickAnswer InnerAnswers model budgets set result

-- a verdict holds
pub verdict_holds : (model : Program) (budgets : Budgets) (set : List Member) (verdict : Verdict) → QuickAnswers model budgets set (Ok verdict) → IsVerdict model set verdict
verdict_holds model budgets set verdict h = quick_holds InnerAnswers model budgets set verdict (λ k. reference_holds model budgets set verdict (inner_reference model budgets set (Ok verdict) k)) h

-- the shares of its proofs stand in order
pub proof_ordered : (model : Program) (budgets : Budgets) (set : List Member) (proof : Proof) → QuickAnswers model budgets set (Ok (Infeasible proof)) → AreLeavesInOrder proof.nodes
proof_ordered model budgets set proof h = quick_ordered InnerAnswers model budgets set proof (inner_ordered model budgets set proof) h

-- and the numbers of their splits fit
pub proof_fits : (model : Program) (budgets : Budgets) (set : List Member) (proof : Proof) → QuickAnswers model budgets set (Ok (Infeasible proof)) → All IsFittingNode proof.nodes
proof_fits model budgets set proof (inl h) = inner_fits model budgets set proof h
proof_fits model budgets set proof (inr h) = h.1.1

-- and a stop is one of the reference
pub stop_reference : (model : Program) (budgets : Budgets) (asked : List Member) (stop : Stop) → IsAnsweredStop (QuickAnswers model budgets) asked stop → IsAnsweredStop (IsPresolvedReference model budgets) asked stop
stop_reference model budgets asked stop (inl memory) = inl memory
stop_reference model budgets asked stop (inr (inl h)) = inr (inner_reference model budgets asked (Err stop) h)
stop_reference model budgets asked stop (inr (inr memory)) = inl memory

-- ---- to an ask for all active members
-- a verdict holds
pub asked_holds : (model : Program) (budgets : Budgets) (set : SetValue) (verdict : Verdict) → set ≡ active_set model → QuickAnswers model budgets set.members (Ok verdict) → IsVerdict model (active_members model) verdict
asked_holds model budgets set verdict whole h = subst (λ (s : SetValue). IsVerdict model s.members verdict) whole (verdict_holds model budgets set.members verdict h)

-- and a stop is that of their run or tree
pub asked_run : (model : Program) (budgets : Budgets) (set : SetValue) (stop : Stop) → set ≡ active_set model → QuickAnswers model budgets set.members (Err stop) → IsRunOf (IsWhole model) model budgets stop
asked_run model budgets set stop whole h = record {
  asked = active_members model;
  answered = subst (λ (s : SetValue). IsAnsweredStop (IsPresolvedReference model budgets) s.members stop) whole (stop_reference model budgets set.members stop (inr h));
  part = All-contains_itself (active_members model);
  test = refl;
}

-- ---- where there is a mark
-- a set with a mark stands alone where quick trees may have no nodes
pub marked_alone : (model : Program) (set : List Member) (nodes : ℕ) → nodes ≡ 0 → has_mark set ≡ true → stands_alone model set nodes ≡ true
marked_alone model set nodes none e =
    or_right (is_tiny model set) (wants_nodes set nodes) (ap (λ b. not (not b) && (nodes == 0)) e ∙ eq-eqb nodes 0 none)

-- what the inner oracle was asked for it is its tree
pub by_tree : (model : Program) (budgets : Budgets) (set : List Member) (verdict : Verdict) (before after : OracleState) → before.model ≡ model → before.budgets ≡ budgets → has_mark set ≡ true → IsAsked InnerAnswers before after set (Ok verdict)
    → IsTreeAnswer model budgets set (Ok verdict)
by_tree model budgets set verdict before after program allowed marked h =
    subst (λ (p : Program). IsTreeAnswer p budgets set (Ok verdict)) program (subst (λ (b : Budgets). IsTreeAnswer before.model b set (Ok verdict)) allowed (told (same h.answer h.given h.answered)))
  where
    same : (answer : Result Verdict Stop) → (◌≡◌ {A = Result Verdict Stop} (Ok verdict) answer) ⊎ (◌≡◌ {A = Result Verdict Stop} (Ok verdict) (Err Memory)) → InnerAnswers before.model before.budgets set answer → InnerAnswers before.model before.budgets set (Ok verdict)
    same answer (inl e) k = subst (InnerAnswers before.model before.budgets set) (sym e) k
    same answer (inr e) k = absurd (let impossible : ⊥ = cc in impossible)

    told : InnerAnswers before.model before.budgets set (Ok verdict) → IsTreeAnswer before.model before.budgets set (Ok verdict)
    told (inl k) = absurd (true≢false (sym k.linear ∙ ap not marked))
    told (inr k) = k
