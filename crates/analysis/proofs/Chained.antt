-- What rounds of enforcing give, as an answer.
use Rattle.std.proofs.Common.{◌≡◌, ◌⊎◌, refl, sym, ◌∙◌, ap, subst, ℕ, Bool, ◌||◌, List, [], ◌∷◌, filter, Some, Result, Ok, Err, inl, inr}
use Rattle.std.specs.Prelude.{Contains, IfErr, IfOk}
use Rattle.std.proofs.lemmas.List.Elements.{All-contains_itself, All-filter}
use Rattle.lp_model.specs.declared.members.Member.{Member}
use Rattle.lp_model.specs.Program.{Program}
use Rattle.lp_model.specs.Members.{active_members, has}
use Rattle.lp_model.specs.MemberSets.{SetValue}
use Rattle.lp_model.specs.Satisfaction.{IsPart, coordinate}
use Rattle.certs.specs.declared.evidence.Combo.{Combo}
use Rattle.certs.specs.declared.solving.Irreducible.{Irreducible}
use Rattle.certs.specs.declared.solving.Site.{Site}
use Rattle.certs.specs.declared.solving.SiteKind.TheVariants.{Stretch}
use Rattle.certs.specs.declared.solving.Stop.{Stop}
use Rattle.certs.specs.declared.solving.Stop.TheVariants.{Wide, Pivots as Spent, Nodes, Large, Memory}
use Rattle.certs.specs.Filter.{Enforces, first, further, IsLateTest, Late}
use Rattle.certs.specs.Sites.{Budgets, IsFirstStopped}
use Rattle.certs.specs.Trees.{TreeEnd}
use Rattle.certs.specs.Tales.{IsStretchSite, OracleState, TaleValue}
use Rattle.certs.specs.Violation.{is_violated}
use Rattle.certs.proofs.HasLists.{agree_on, has_of_filter}
use Rattle.filter_steps.specs.Isolated.{IsIsolation, IsStoppedAt}
use Rattle.filter_steps.proofs.Witnessed.{satisfiable_by}
use Rattle.elastic_filter.specs.Enforced.{IsAnsweredRound, IsEnforcedBy}
use Rattle.relaxation.specs.Stretching.{IsRound}
use Rattle.presolve_oracle.specs.Value.{PresolveValue}
use Rattle.branch_oracle.specs.Value.{BranchValue}
use Rattle.quick_answers.specs.Value.{state_with}
use Rattle.report_text.specs.declared.report.ToldStop.{ToldStop}
use Rattle.report_text.specs.Told.{told_site}
use Rattle.report_text.specs.declared.report.Answer.{Answer}
use Rattle.analysis.specs.Answers.{IsAnswerOf, IsPossibleSite, IsToldStop, fresh_oracle, oracle_state}
use Rattle.analysis.specs.Right.{IsEnforcedTold, IsIsolated, IsLateOfRounds, IsPrintedSite, IsRoundStop, IsRoundsTest, IsStoppedBy}
use Rattle.analysis.proofs.Asked.{QuickAnswers}
use Rattle.analysis.proofs.Found.{late_is_part, late_test_is_part, within}
use Rattle.analysis.proofs.Searched.{filter_answer}
use Rattle.analysis.proofs.Stopping.{whole_printed}

-- ---- parts of a set
-- what passes a test stands in the set's order
pub part_by : (p : Member → Bool) (part set : List Member) → part ≡ filter p set → part ≡ filter (has part) set
part_by p part set e = e ∙ sym (ap (λ l. filter (has l) set) e ∙ agree_on (has (filter p set)) p set (λ m c. has_of_filter p set m c))

none_of : (set : List Member) → [] ≡ filter (has []) set
none_of [] = refl
none_of (m ∷ set) = none_of set

-- and so does each set of a chain
chain_part : (model : Program) (set : List Member) (count : ℕ) (enforced : List Member) → Enforces model set count enforced → enforced ≡ filter (has enforced) set
chain_part model set _ _ first = none_of set
chain_part model set _ next (further {enforced = enforced} chain s) = part_by (λ m. has enforced m || is_violated model (coordinate s.point) m) next set s.adds

chain_within : (model : Program) (set : List Member) (count : ℕ) (enforced : List Member) → Enforces model set count enforced → IsPart enforced set
chain_within model set count enforced chain = subst (λ (l : List Member). IsPart l set) (sym (chain_part model set count enforced chain)) (All-filter (has enforced) (Contains set) set (All-contains_itself set))

-- ---- what the deletion filter leaves of the last set of the chain
left_of : (model : Program) (budgets : Budgets) {E : Type 0} (result : Result Answer E) → IfOk result (IsIsolated (IsLateOfRounds model) (IsRoundsTest model) model budgets) → IfOk result (IsEnforcedTold model budgets)
left_of model budgets (Ok answer) h = inl h
left_of model budgets (Err error) h = tt

pub enforced_answer : (model : Program) (budgets : Budgets) (inner : BranchValue PresolveValue) (tale : TaleValue) (members : SetValue) (combo : Combo) (rounds : ℕ) (after : OracleState)
    (given : Result Irreducible Stop) {E : Type 0} (result : Result Answer E) → inner ≡ fresh_oracle model budgets → IsEnforcedBy model (active_members model) members combo rounds
    → IfOk given (IsIsolation Late QuickAnswers (state_with (oracle_state inner) tale) members.members) → IfErr given (IsStoppedAt IsLateTest QuickAnswers members.members (state_with (oracle_state inner) tale) after)
    → IfOk result (IsAnswerOf model (Some rounds) given) → IfOk result (IsEnforcedTold model budgets)
enforced_answer model budgets inner tale members combo rounds after given {E} result fresh e found stopped is =
    let all = active_members model in
    let set = members.members in
    let part = chain_within model all rounds set e.rounds_are.chain in
    left_of model budgets {E = E} result
    (filter_answer Late IsLateTest (IsLateOfRounds model) (IsRoundsTest model) model set (Some rounds) budgets tale after given {E = E} result
    (λ core told unpriced k. record { count = rounds; told = told; price = unpriced; enforced = set; rounds = e.rounds_are; late = k; few = e.few })
    (λ k l. within k set all (late_is_part model set k l) part)
    (λ p h. absurd (e.rounds_are.unsatisfiable (satisfiable_by model set p h)))
    (λ t l. (rounds, (set, (e.rounds_are, l))))
    (λ t l. within t set all (late_test_is_part model set t l) part)
    (subst (λ (o : BranchValue PresolveValue). IfOk given (IsIsolation Late QuickAnswers (state_with (oracle_state o) tale) set)) fresh found)
    (subst (λ (o : BranchValue PresolveValue). IfErr given (IsStoppedAt IsLateTest QuickAnswers set (state_with (oracle_state o) tale) after)) fresh stopped)
    is)

-- ---- stops of rounds
-- which make no trees, so that any nodes will do
first_by : (model : Program) (budgets : Budgets) (site : Site) (end : TreeEnd) → site.kind ≡ Stretch → IsFirstStopped model (record { pivots = budgets.pivots; nodes = 0 }) site end → IsFirstStopped model budgets site end
first_by model budgets site end kind h = record {
  alone = h.alone;
  first = λ k marked. absurd (let impossible : ⊥ = cc in impossible);
}

module _ (model : Program) (budgets : Budgets) where
  abbrev set : List Member
  set = active_members model

  round_site : (count : ℕ) (enforced : List Member) (site : Site) → Enforces model set count enforced → IsStretchSite model set enforced site → IsPossibleSite site → IsPrintedSite model site
  round_site count enforced site chain h possible =
      whole_printed model site h.set_of h.set_is possible h.enforced_of
      (part_by (has enforced) site.enforced.members site.set.members (h.enforced_is ∙ chain_part model set count enforced chain ∙ ap (filter (has enforced)) (sym h.set_is))) h.path_is

  abbrev IsAnsweredHere : Stop → Type 0
  IsAnsweredHere stop = IsAnsweredRound IsRound model (record { pivots = budgets.pivots; nodes = 0 }) set stop

  round_told : (stop : Stop) (answer : Answer) → IsAnsweredHere stop → IsToldStop model stop answer → IsStoppedBy (IsRoundStop model budgets) answer
  round_told (Wide site k o) answer h told = record {
    stop = ToldStop.Wide (told_site model site) k o;
    is = told.0;
    so = record {
      site = site;
      is = refl;
      printed = round_site h.count h.enforced site h.chain h.answered.0 told.1;
      so = (h.count, (h.enforced, (h.chain, (h.answered.0, (h.answered.1.0, first_by model budgets site (TreeEnd.TooWide site.path k o) h.answered.0.kind h.answered.1.1)))));
    };
  }
  round_told (Spent site) answer h told = record {
    stop = ToldStop.Pivots (told_site model site);
    is = told.0;
    so = record {
      site = site;
      is = refl;
      printed = round_site h.count h.enforced site h.chain h.answered.0 told.1;
      so = (h.count, (h.enforced, (h.chain, (h.answered.0, (h.answered.1.0, first_by model budgets site (TreeEnd.OutOfPivots site.path) h.answered.0.kind h.answered.1.1)))));
    };
  }
  round_told (Nodes site) answer h told = absurd h.answered
  round_told (Large size) answer h told = absurd told
  round_told Memory answer h told = absurd told

  pub rounds_told : (stop : Stop) {E : Type 0} (result : Result Answer E) → (stop ≡ Memory) ⊎ IsAnsweredHere stop → IfOk result (IsToldStop model stop) → IfOk result (IsEnforcedTold model budgets)
  rounds_told stop (Ok answer) (inl e) told = absurd (subst (λ (s : Stop). IsToldStop model s answer) e told)
  rounds_told stop (Ok answer) (inr h) told = inr (round_told stop answer h told)
  rounds_told stop (Err error) h told = tt
