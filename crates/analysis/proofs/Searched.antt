-- What filters give that ask the quick oracle, as answers.
use Rattle.std.proofs.Common.{◌≡◌, ℕ, sym, ap, subst, true, List, Ok, Err, inl, inr}
use Rattle.std.specs.Prelude.{All, IfErr, IfOk, None, Option, Result}
use Rattle.std.proofs.lemmas.List.Elements.{All-contains_itself}
use Rattle.lp_model.specs.declared.members.Member.{Member}
use Rattle.lp_model.specs.Members.{active_members}
use Rattle.lp_model.specs.MemberSets.{SetValue, active_set}
use Rattle.lp_model.specs.Program.{Program}
use Rattle.lp_model.specs.Satisfaction.{IsPart}
use Rattle.certs.specs.declared.evidence.Point.{Point}
use Rattle.certs.specs.declared.evidence.Proof.{Proof}
use Rattle.certs.specs.declared.solving.Irreducible.{Irreducible}
use Rattle.certs.specs.declared.solving.Stop.{Stop}
use Rattle.certs.specs.declared.solving.Verdict.{Verdict}
use Rattle.certs.specs.declared.solving.Verdict.TheVariants.{Infeasible}
use Rattle.certs.specs.Answers.{AnswersAt, IsAnsweredStop, IsTreeAnswer}
use Rattle.certs.specs.Order.{AreLeavesInOrder}
use Rattle.certs.specs.Proof.{IsFittingNode}
use Rattle.certs.specs.Sites.{Budgets}
use Rattle.certs.specs.Tales.{FirstCore, IsPointOf, OracleState, TaleValue}
use Rattle.certs.specs.Trees.{has_mark}
use Rattle.filter_steps.specs.Isolated.{IsIsolation, IsStoppedAt}
use Rattle.presolve_oracle.specs.Value.{PresolveValue}
use Rattle.branch_oracle.specs.Value.{BranchValue}
use Rattle.quick_answers.specs.Alone.{stands_alone}
use Rattle.quick_answers.specs.Answers.{IsAsked}
use Rattle.quick_answers.specs.Value.{state_with}
use Rattle.sensitivity_filter.specs.Cores.{IsLateOfCore as IsLateOfTold}
use Rattle.sensitivity_filter.specs.Pairs.{IsStoppedWith, at_core, at_whole, either}
use Rattle.report_text.specs.declared.report.Answer.{Answer}
use Rattle.report_text.specs.declared.report.Core.{Core}
use Rattle.analysis.specs.Answers.{IsAnswerOf, IsRunStop, fresh_oracle, oracle_state}
use Rattle.analysis.specs.Right.{IsBare, IsCoreTest, IsIsolated, IsLateOfCore}
use Rattle.analysis.proofs.Asked.{InnerAnswers, QuickAnswers, by_tree, inner_fits, inner_ordered, inner_stop, marked_alone, proof_fits, proof_ordered, reference_core, stop_reference}
use Rattle.analysis.proofs.Found.{given_answer, late_is_part, late_test_is_part, within}
use Rattle.analysis.proofs.Stopping.{IsRunOf, answered_runs}

-- the quick oracle over one that was asked nothing yet
abbrev quick_state : Program → Budgets → TaleValue → OracleState
quick_state model budgets tale = state_with (oracle_state (fresh_oracle model budgets)) tale

-- ---- an ask for all active members
module _ (model : Program) (budgets : Budgets) (inner : BranchValue PresolveValue) (fresh : inner ≡ fresh_oracle model budgets) (set : SetValue) where
  -- its answer is one within the budgets
  pub fresh_answer : (result : Result Verdict Stop) → QuickAnswers (oracle_state inner).model (oracle_state inner).budgets set.members result → QuickAnswers model budgets set.members result
  fresh_answer result h = subst (λ (o : BranchValue PresolveValue). QuickAnswers (oracle_state o).model (oracle_state o).budgets set.members result) fresh h

  -- and where there is a mark the tree's
  pub fresh_tree : (nodes : ℕ) (verdict : Verdict) (after : OracleState) → nodes ≡ 0 → set ≡ active_set model → has_mark (active_members model) ≡ true
      → (stands_alone (oracle_state inner).model set.members nodes ≡ true → IsAsked InnerAnswers (oracle_state inner) after set.members (Ok verdict)) → IsTreeAnswer model budgets (active_members model) (Ok verdict)
  fresh_tree nodes verdict after none whole marked alone =
      let here : has_mark set.members ≡ true = subst (λ (s : SetValue). has_mark s.members ≡ true) (sym whole) marked in
      subst (λ (s : SetValue). IsTreeAnswer model budgets s.members (Ok verdict)) whole
      (by_tree model budgets set.members verdict (oracle_state inner) after (ap (λ (o : BranchValue PresolveValue). (oracle_state o).model) fresh) (ap (λ (o : BranchValue PresolveValue). (oracle_state o).budgets) fresh) here
      (alone (marked_alone (oracle_state inner).model set.members nodes none here)))

-- ---- one oracle
filter_stop : (IsTest : Program → List Member → List Member → Type 0) (IsRight : List Member → Type 0) (model : Program) (set : List Member) (budgets : Budgets) (tale : TaleValue) (after : OracleState)
    → ((t : List Member) → IsTest model set t → IsPart t (active_members model)) → ((t : List Member) → IsTest model set t → IsRight t)
    → (given : Result Irreducible Stop) → IfErr given (IsStoppedAt IsTest QuickAnswers set (quick_state model budgets tale) after) → IfErr given (IsRunOf IsRight model budgets)
filter_stop IsTest IsRight model set budgets tale after part right (Ok found) h = tt
filter_stop IsTest IsRight model set budgets tale after part right (Err stop) h = record {
  asked = h.asked;
  answered = stop_reference model budgets h.asked stop h.answered;
  part = part h.asked h.test;
  test = right h.asked h.test;
}

-- which is that of a run or a tree of the program
pub filter_runs : (IsTest : Program → List Member → List Member → Type 0) (model : Program) (set : List Member) (budgets : Budgets) (inner : BranchValue PresolveValue) (tale : TaleValue) (after : OracleState) (given : Result Irreducible Stop)
    → inner ≡ fresh_oracle model budgets → IfErr given (IsStoppedAt IsTest QuickAnswers set (state_with (oracle_state inner) tale) after) → IfErr given (IsRunStop model)
filter_runs IsTest model set budgets inner tale after (Ok found) fresh h = tt
filter_runs IsTest model set budgets inner tale after (Err stop) fresh h =
    answered_runs model budgets h.asked stop
    (stop_reference model budgets h.asked stop (subst (λ (o : BranchValue PresolveValue). IsAnsweredStop (AnswersAt QuickAnswers (state_with (oracle_state o) tale)) h.asked stop) fresh h.answered))

-- what a filter gives of a set of active members is right
module _ (IsLeft IsTest : Program → List Member → List Member → Type 0) (IsKept : Core → Type 0) (IsRight : List Member → Type 0) (model : Program) (set : List Member) (rounds : Option ℕ) (budgets : Budgets) (tale : TaleValue) where
  pub filter_answer : (after : OracleState) (given : Result Irreducible Stop) {E : Type 0} (result : Result Answer E)
      → ((core : Core) → core.rounds ≡ rounds → core.price ≡ None → IsLeft model set core.members.members → IsKept core) → ((k : List Member) → IsLeft model set k → IsPart k (active_members model))
      → ((p : Point) → IsPointOf model set p → IsPointOf model (active_members model) p)
      → ((t : List Member) → IsTest model set t → IsRight t) → ((t : List Member) → IsTest model set t → IsPart t (active_members model))
      → IfOk given (IsIsolation IsLeft QuickAnswers (quick_state model budgets tale) set) → IfErr given (IsStoppedAt IsTest QuickAnswers set (quick_state model budgets tale) after)
      → IfOk result (IsAnswerOf model rounds given) → IfOk result (IsIsolated IsKept IsRight model budgets)
  filter_answer after given result kept part at right tested found stopped is =
      given_answer QuickAnswers IsLeft IsKept IsRight (quick_state model budgets tale) set rounds budgets given result (λ asked proof k. proof_ordered model budgets asked proof k) (λ asked proof k. proof_fits model budgets asked proof k) kept part at
      found (filter_stop IsTest IsRight model set budgets tale after tested right given stopped) is

-- and of all of them
pub search_answer : (IsLeft IsTest : Program → List Member → List Member → Type 0) (IsKept IsRight : List Member → Type 0) (model : Program) (set : SetValue) (budgets : Budgets) (inner : BranchValue PresolveValue) (tale : TaleValue) (after : OracleState)
    (given : Result Irreducible Stop) {E : Type 0} (result : Result Answer E) → inner ≡ fresh_oracle model budgets → set ≡ active_set model
    → ((k : List Member) → IsLeft model (active_members model) k → IsKept k) → ((k : List Member) → IsLeft model (active_members model) k → IsPart k (active_members model))
    → ((t : List Member) → IsTest model (active_members model) t → IsRight t) → ((t : List Member) → IsTest model (active_members model) t → IsPart t (active_members model))
    → IfOk given (IsIsolation IsLeft QuickAnswers (state_with (oracle_state inner) tale) set.members) → IfErr given (IsStoppedAt IsTest QuickAnswers set.members (state_with (oracle_state inner) tale) after)
    → IfOk result (IsAnswerOf model None given) → IfOk result (IsIsolated (IsBare IsKept) IsRight model budgets)
search_answer IsLeft IsTest IsKept IsRight model set budgets inner tale after given result fresh whole kept part right tested found stopped is =
    filter_answer IsLeft IsTest (IsBare IsKept) IsRight model (active_members model) None budgets tale after given result (λ core none unpriced k. (none, (unpriced, kept core.members.members k))) part (λ p h. h) right tested
    (subst (λ (s : SetValue). IfOk given (IsIsolation IsLeft QuickAnswers (quick_state model budgets tale) s.members)) whole
    (subst (λ (o : BranchValue PresolveValue). IfOk given (IsIsolation IsLeft QuickAnswers (state_with (oracle_state o) tale) set.members)) fresh found))
    (subst (λ (s : SetValue). IfErr given (IsStoppedAt IsTest QuickAnswers s.members (quick_state model budgets tale) after)) whole
    (subst (λ (o : BranchValue PresolveValue). IfErr given (IsStoppedAt IsTest QuickAnswers set.members (state_with (oracle_state o) tale) after)) fresh stopped))
    is

-- ---- two oracles: the reference for all active members, and the quick oracle inside the first core
core_stop : (model : Program) (budgets : Budgets) (tale : TaleValue) (first_new later_new : OracleState) (given : Result Irreducible Stop)
    → IfErr given (IsStoppedWith InnerAnswers QuickAnswers (active_members model) (oracle_state (fresh_oracle model budgets)) first_new (quick_state model budgets tale) later_new) → IfErr given (IsRunOf (IsCoreTest model budgets) model budgets)
core_stop model budgets tale first_new later_new (Ok found) h = tt
core_stop model budgets tale first_new later_new (Err stop) (at_whole h same) = record {
  asked = h.asked;
  answered = inner_stop model budgets h.asked stop h.answered;
  part = subst (λ (t : List Member). IsPart t (active_members model)) (sym h.test) (All-contains_itself (active_members model));
  test = inl h.test;
}
core_stop model budgets tale first_new later_new (Err stop) (at_core {core = core} is h quiet) = record {
  asked = h.asked;
  answered = stop_reference model budgets h.asked stop h.answered;
  part = within h.asked core (active_members model) (late_test_is_part model core h.asked h.test) is.part;
  test = inr (core, (reference_core model budgets core is.answered, h.test));
}

-- which is that of a run or a tree of the program
pub core_runs : (model : Program) (set : List Member) (budgets : Budgets) (first inner : BranchValue PresolveValue) (tale : TaleValue) (first_new later_new : OracleState) (given : Result Irreducible Stop) → first ≡ fresh_oracle model budgets → inner ≡ fresh_oracle model budgets
    → IfErr given (IsStoppedWith InnerAnswers QuickAnswers set (oracle_state first) first_new (state_with (oracle_state inner) tale) later_new) → IfErr given (IsRunStop model)
core_runs model set budgets first inner tale first_new later_new (Ok found) first_fresh inner_fresh h = tt
core_runs model set budgets first inner tale first_new later_new (Err stop) first_fresh inner_fresh (at_whole h same) =
    answered_runs model budgets h.asked stop
    (inner_stop model budgets h.asked stop (subst (λ (o : BranchValue PresolveValue). IsAnsweredStop (AnswersAt InnerAnswers (oracle_state o)) h.asked stop) first_fresh h.answered))
core_runs model set budgets first inner tale first_new later_new (Err stop) first_fresh inner_fresh (at_core is h quiet) =
    answered_runs model budgets h.asked stop
    (stop_reference model budgets h.asked stop (subst (λ (o : BranchValue PresolveValue). IsAnsweredStop (AnswersAt QuickAnswers (state_with (oracle_state o) tale)) h.asked stop) inner_fresh h.answered))

either_ordered : (model : Program) (budgets : Budgets) (asked : List Member) (proof : Proof) → either InnerAnswers QuickAnswers budgets model budgets asked (Ok (Infeasible proof)) → AreLeavesInOrder proof.nodes
either_ordered model budgets asked proof (inl h) = inner_ordered model budgets asked proof h
either_ordered model budgets asked proof (inr h) = proof_ordered model budgets asked proof h

either_fits : (model : Program) (budgets : Budgets) (asked : List Member) (proof : Proof) → either InnerAnswers QuickAnswers budgets model budgets asked (Ok (Infeasible proof)) → All IsFittingNode proof.nodes
either_fits model budgets asked proof (inl h) = inner_fits model budgets asked proof h
either_fits model budgets asked proof (inr h) = proof_fits model budgets asked proof h

-- what the filter gives is right
pub core_answer : (model : Program) (set : SetValue) (budgets : Budgets) (first inner : BranchValue PresolveValue) (tale : TaleValue) (first_new later_new : OracleState) (given : Result Irreducible Stop) {E : Type 0} (result : Result Answer E)
    → first ≡ fresh_oracle model budgets → inner ≡ fresh_oracle model budgets → set ≡ active_set model
    → IfOk given (IsIsolation (IsLateOfTold (AnswersAt InnerAnswers (oracle_state first)) first_new.tale.first_core) (either InnerAnswers QuickAnswers (state_with (oracle_state inner) tale).budgets) (oracle_state first) set.members)
    → IfErr given (IsStoppedWith InnerAnswers QuickAnswers set.members (oracle_state first) first_new (state_with (oracle_state inner) tale) later_new)
    → IfOk result (IsAnswerOf model None given) → IfOk result (IsIsolated (IsBare (IsLateOfCore model budgets)) (IsCoreTest model budgets) model budgets)
core_answer model set budgets first inner tale first_new later_new given result first_fresh inner_fresh whole found stopped is =
    let state : OracleState = oracle_state (fresh_oracle model budgets) in
    let told : Option FirstCore = first_new.tale.first_core in
    given_answer (either InnerAnswers QuickAnswers budgets) (IsLateOfTold (AnswersAt InnerAnswers state) told) (IsBare (IsLateOfCore model budgets)) (IsCoreTest model budgets) state (active_members model) None budgets given result (either_ordered model budgets) (either_fits model budgets)
    (λ core none unpriced k. (none, (unpriced, (k.core, (reference_core model budgets k.core k.is_core.answered, k.late))))) (λ kept k. within kept k.core (active_members model) (late_is_part model k.core kept k.late) k.is_core.part) (λ p h. h)
    (subst (λ (s : SetValue). IfOk given (IsIsolation (IsLateOfTold (AnswersAt InnerAnswers state) told) (either InnerAnswers QuickAnswers budgets) state s.members)) whole
    (subst (λ (o : BranchValue PresolveValue). IfOk given (IsIsolation (IsLateOfTold (AnswersAt InnerAnswers state) told) (either InnerAnswers QuickAnswers (state_with (oracle_state o) tale).budgets) state set.members)) inner_fresh
    (subst (λ (o : BranchValue PresolveValue). IfOk given (IsIsolation (IsLateOfTold (AnswersAt InnerAnswers (oracle_state o)) told) (either InnerAnswers QuickAnswers (state_with (oracle_state inner) tale).budgets) (oracle_state o) set.members)) first_fresh found)))
    (core_stop model budgets tale first_new later_new given
    (subst (λ (s : SetValue). IfErr given (IsStoppedWith InnerAnswers QuickAnswers s.members state first_new (quick_state model budgets tale) later_new)) whole
    (subst (λ (o : BranchValue PresolveValue). IfErr given (IsStoppedWith InnerAnswers QuickAnswers set.members state first_new (state_with (oracle_state o) tale) later_new)) inner_fresh
    (subst (λ (o : BranchValue PresolveValue). IfErr given (IsStoppedWith InnerAnswers QuickAnswers set.members (oracle_state o) first_new (state_with (oracle_state inner) tale) later_new)) first_fresh stopped))))
    is
