-- What filters give as answers.
use Rattle.std.proofs.Common.{◌≡◌, refl, sym, subst, ℕ, Option, List, append_assoc, append-nil, length, Ok, Err}
use Rattle.std.specs.Prelude.{All, Contains, IfErr, IfOk, None, Result}
use Rattle.std.proofs.lemmas.List.Elements.{All-contains, All-contains_itself, All-filter, All-weaker}
use Rattle.lp_model.specs.declared.members.Member.{Member}
use Rattle.lp_model.specs.Program.{Program}
use Rattle.lp_model.specs.Members.{active_members, is_active, possible_members}
use Rattle.lp_model.specs.MemberSets.{IsPossibleIn, active_set}
use Rattle.lp_model.specs.Satisfaction.{IsPart, IsSatisfiable}
use Rattle.lp_model.proofs.Marked.{possible_is}
use Rattle.certs.specs.declared.evidence.Point.{Point}
use Rattle.certs.specs.declared.evidence.Proof.{Proof}
use Rattle.certs.specs.declared.solving.Irreducible.{Irreducible}
use Rattle.certs.specs.declared.solving.Irreducible.TheVariants.{Set, Feasible as AtPoint}
use Rattle.certs.specs.Filter.{Early, IsEarlyTest, IsLateTest, Late}
use Rattle.certs.specs.Proof.{IsFittingNode}
use Rattle.certs.specs.Sites.{Budgets}
use Rattle.certs.specs.declared.solving.Stop.{Stop}
use Rattle.certs.specs.declared.solving.Verdict.{Verdict}
use Rattle.certs.specs.declared.solving.Verdict.TheVariants.{Infeasible}
use Rattle.certs.specs.Order.{AreLeavesInOrder}
use Rattle.certs.specs.Tales.{IsPointOf, OracleState}
use Rattle.filter_steps.specs.Isolated.{IsIsolation}
use Rattle.filter_steps.proofs.Reached.{early_part, late_part, part_of_part}
use Rattle.report_text.specs.declared.report.Answer.{Answer}
use Rattle.report_text.specs.declared.report.Core.{Core}
use Rattle.analysis.specs.Answers.{IsAnswerOf, IsFoundInOrder, answer_of}
use Rattle.analysis.specs.Right.{IsIsolated}
use Rattle.analysis.proofs.Stopping.{IsRunOf, isolated_stop, run_answer}

-- ---- parts of the active members
pub within : (part whole all : List Member) → IsPart part whole → IsPart whole all → IsPart part all
within part whole all h k = All-weaker (Contains whole) (Contains all) (λ m c. All-contains (Contains all) whole m k c) part h

-- what filters leave of a set
pub late_is_part : (model : Program) (set kept : List Member) → Late model set kept → IsPart kept set
late_is_part model set kept h = subst (λ (l : List Member). IsPart l set) (append-nil kept) (late_part (IsSatisfiable model) set h)

pub early_is_part : (model : Program) (set kept : List Member) → Early model set kept → IsPart kept set
early_is_part model set kept h = early_part (IsSatisfiable model) set h

-- and what they ask for
pub late_test_is_part : (model : Program) (set test : List Member) → IsLateTest model set test → IsPart test set
late_test_is_part model set test t = subst (λ (l : List Member). IsPart l set) (sym t.joined) (part_of_part set t.kept t.between t.back (late_part (IsSatisfiable model) set t.reached))

pub early_test_is_part : (model : Program) (set test : List Member) → IsEarlyTest model set test → IsPart test set
early_test_is_part model set test t =
    subst (λ (l : List Member). IsPart l set) (sym t.joined)
    (part_of_part set t.front t.between t.kept (subst (λ (l : List Member). IsPart l set) (append_assoc t.front t.between t.kept) (early_part (IsSatisfiable model) set t.reached)))

-- ---- what a filter gives
-- is right to a search
pub found_is_right : (answers : Program → Budgets → List Member → Result Verdict Stop → Type 0) (IsLeft : Program → List Member → List Member → Type 0) (IsKept : Core → Type 0) (IsTest : List Member → Type 0) (state : OracleState) (set : List Member) (rounds : Option ℕ) (budgets : Budgets) (found : Irreducible)
    → ((asked : List Member) (proof : Proof) → answers state.model state.budgets asked (Ok (Infeasible proof)) → AreLeavesInOrder proof.nodes)
    → ((asked : List Member) (proof : Proof) → answers state.model state.budgets asked (Ok (Infeasible proof)) → All IsFittingNode proof.nodes)
    → ((core : Core) → core.rounds ≡ rounds → core.price ≡ None → IsLeft state.model set core.members.members → IsKept core) → ((k : List Member) → IsLeft state.model set k → IsPart k (active_members state.model))
    → ((p : Point) → IsPointOf state.model set p → IsPointOf state.model (active_members state.model) p)
    → IsFoundInOrder found → IsIsolation IsLeft answers state set found → IsIsolated IsKept IsTest state.model budgets (answer_of rounds found)
found_is_right answers IsLeft IsKept IsTest state set rounds budgets (Set members witnesses proof) ordered fits kept part at order h = (
  record {
    of_model = h.same;
    active = part members.members h.kept;
    in_order = order;
    proves = h.proof;
    ordered = subst AreLeavesInOrder (sym h.told.nodes_are) (ordered h.told.asked h.told.proof h.told.answered);
    fits = subst (All IsFittingNode) (sym h.told.nodes_are) (fits h.told.asked h.told.proof h.told.answered);
    witnesses = h.witnesses;
    irreducible = h.irreducible;
    price = tt;
  },
  kept (record { members = members; witnesses = witnesses.items; proof = proof; rounds = rounds; price = None }) refl refl h.kept,
)
found_is_right answers IsLeft IsKept IsTest state set rounds budgets (AtPoint point) ordered fits kept part at order h = at point h

-- ---- and can be printed
pub possible_members_are : (model : Program) → All (IsPossibleIn (active_set model)) (active_members model)
possible_members_are model =
    All-filter (is_active model) (IsPossibleIn (active_set model)) (possible_members model)
    (All-weaker (Contains (possible_members model)) (IsPossibleIn (active_set model)) (λ m c. possible_is (length model.rows) (length model.columns) m c) (possible_members model) (All-contains_itself (possible_members model)))

pub part_possible : (model : Program) (part : List Member) → IsPart part (active_members model) → All (IsPossibleIn (active_set model)) part
part_possible model part h =
    All-weaker (Contains (active_members model)) (IsPossibleIn (active_set model)) (λ m c. All-contains (IsPossibleIn (active_set model)) (active_members model) m (possible_members_are model) c) part h

-- ---- the answer
-- for what a filter finds
found_answer : (answers : Program → Budgets → List Member → Result Verdict Stop → Type 0) (IsLeft : Program → List Member → List Member → Type 0) (IsKept : Core → Type 0) (IsTest : List Member → Type 0) (state : OracleState) (set : List Member) (rounds : Option ℕ) (budgets : Budgets) (found : Irreducible) (answer : Answer)
    → ((asked : List Member) (proof : Proof) → answers state.model state.budgets asked (Ok (Infeasible proof)) → AreLeavesInOrder proof.nodes)
    → ((asked : List Member) (proof : Proof) → answers state.model state.budgets asked (Ok (Infeasible proof)) → All IsFittingNode proof.nodes)
    → ((core : Core) → core.rounds ≡ rounds → core.price ≡ None → IsLeft state.model set core.members.members → IsKept core) → ((k : List Member) → IsLeft state.model set k → IsPart k (active_members state.model))
    → ((p : Point) → IsPointOf state.model set p → IsPointOf state.model (active_members state.model) p)
    → (answer ≡ answer_of rounds found) × IsFoundInOrder found → IsIsolation IsLeft answers state set found → IsIsolated IsKept IsTest state.model budgets answer
found_answer answers IsLeft IsKept IsTest state set rounds budgets found answer ordered fits kept part at is h =
    subst (IsIsolated IsKept IsTest state.model budgets) (sym is.0) (found_is_right answers IsLeft IsKept IsTest state set rounds budgets found ordered fits kept part at is.1 h)

-- and for what it gives, a stop included
pub given_answer : (answers : Program → Budgets → List Member → Result Verdict Stop → Type 0) (IsLeft : Program → List Member → List Member → Type 0) (IsKept : Core → Type 0) (IsTest : List Member → Type 0) (state : OracleState) (set : List Member) (rounds : Option ℕ) (budgets : Budgets)
    (given : Result Irreducible Stop) {E : Type 0} (result : Result Answer E)
    → ((asked : List Member) (proof : Proof) → answers state.model state.budgets asked (Ok (Infeasible proof)) → AreLeavesInOrder proof.nodes)
    → ((asked : List Member) (proof : Proof) → answers state.model state.budgets asked (Ok (Infeasible proof)) → All IsFittingNode proof.nodes)
    → ((core : Core) → core.rounds ≡ rounds → core.price ≡ None → IsLeft state.model set core.members.members → IsKept core) → ((k : List Member) → IsLeft state.model set k → IsPart k (active_members state.model))
    → ((p : Point) → IsPointOf state.model set p → IsPointOf state.model (active_members state.model) p)
    → IfOk given (IsIsolation IsLeft answers state set) → IfErr given (IsRunOf IsTest state.model budgets)
    → IfOk result (IsAnswerOf state.model rounds given) → IfOk result (IsIsolated IsKept IsTest state.model budgets)
given_answer answers IsLeft IsKept IsTest state set rounds budgets (Ok found) (Ok answer) ordered fits kept part at h run is = found_answer answers IsLeft IsKept IsTest state set rounds budgets found answer ordered fits kept part at is h
given_answer answers IsLeft IsKept IsTest state set rounds budgets (Err stop) {E} (Ok answer) ordered fits kept part at h run is =
    isolated_stop IsKept IsTest state.model budgets {E = E} (Ok answer) (run_answer IsTest state.model budgets stop {E = E} (Ok answer) run is)
given_answer answers IsLeft IsKept IsTest state set rounds budgets (Ok found) (Err error) ordered fits kept part at h run is = tt
given_answer answers IsLeft IsKept IsTest state set rounds budgets (Err stop) (Err error) ordered fits kept part at h run is = tt
