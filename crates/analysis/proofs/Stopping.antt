-- Stops of oracles as answers.
use Rattle.std.proofs.Common.{◌≡◌, ◌<◌, refl, sym, ◌∙◌, ap, subst, ℕ, Bool, true, false, true≢false, ◌&&◌, List, [], ◌∷◌, filter, length, Result, Ok, Err, inl, inr}
use Rattle.std.specs.Prelude.{All, Contains, IfOk, IsTrue}
use Rattle.std.proofs.lemmas.Bool.{and_parts}
use Rattle.std.proofs.lemmas.List.Elements.{All-contains, All-contains_itself, All-filter, All-nil, All-weaker, filter_passes}
use Rattle.std.proofs.lemmas.List.Kept.{AllPairs-filter}
use Rattle.lp_model.specs.declared.members.Member.{Member}
use Rattle.lp_model.specs.Program.{Program}
use Rattle.lp_model.specs.Members.{active_members, comes_before, exists, flag, has, is_active, possible_members, IsInOrder}
use Rattle.lp_model.specs.MemberSets.{SetValue, members_for, possible_in}
use Rattle.lp_model.specs.Satisfaction.{IsPart}
use Rattle.lp_model.proofs.Sets.{contains_of_has, members_law}
use Rattle.certs.specs.declared.evidence.Branch.{Branch}
use Rattle.certs.specs.declared.solving.Site.{Site}
use Rattle.certs.specs.declared.solving.Stop.{Stop}
use Rattle.certs.specs.declared.solving.Stop.TheVariants.{Wide, Pivots as Spent, Nodes, Large, Memory}
use Rattle.certs.specs.Checks.{IsSetOf}
use Rattle.certs.specs.Combination.{IsFitting}
use Rattle.certs.specs.Sites.{Budgets, IsStopped}
use Rattle.certs.specs.Answers.{IsAnsweredStop, IsReferenceAnswer, IsTreeSite}
use Rattle.certs.specs.Tales.{IsNodeSite}
use Rattle.frac128.specs.declared.Wide.{Wide as Operation}
use Rattle.certs.proofs.HasLists.{agree_on}
use Rattle.certs.proofs.Parted.{filter_both}
use Rattle.certs.specs.Trees.{has_mark}
use Rattle.branch_proof.proofs.TreeStops.{reference_stopped}
use Rattle.presolve_laws.specs.Answers.{IsPresolvedReference, IsPresolvedVerdict, IsUneased, set_system}
use Rattle.presolve_laws.specs.Eased.{IsEased}
use Rattle.report_text.specs.declared.report.ToldStop.{ToldStop}
use Rattle.report_text.specs.declared.report.Answer.{Answer}
use Rattle.report_text.specs.declared.report.Core.{Core}
use Rattle.report_text.specs.Told.{told_site}
use Rattle.analysis.specs.Answers.{IsPossibleSite, IsRunStop, IsStopAnswer, IsToldStop}
use Rattle.analysis.specs.Right.{IsSolved, IsIsolated, IsPrintedSite, IsRunAt, IsSettleStop, IsWhole}

-- ---- the site of a set of active members
and_false : (a : Bool) → (a && false) ≡ false
and_false true = refl
and_false false = refl

-- its members are those of the active members that it has
active_site : (model : Program) (set : SetValue) → IsSetOf model set → set.members ≡ filter (has set.members) (possible_in set) → IsPart set.members (active_members model)
    → set.members ≡ filter (has set.members) (active_members model)
active_site model set of possible part =
    possible
    ∙ ap (λ (n : ℕ). filter (has set.members) (members_for n set.columns)) of.rows
    ∙ ap (λ (n : ℕ). filter (has set.members) (members_for (length model.rows) n)) of.columns
    ∙ agree_on (has set.members) (λ m. is_active model m && has set.members m) (possible_members model) (λ m c. by m (has set.members m) refl)
    ∙ sym (filter_both (is_active model) (has set.members) (possible_members model))
  where
    active : (m : Member) → has set.members m ≡ true → is_active model m ≡ true
    active m e =
        All-contains (λ n. is_active model n ≡ true) (active_members model) m (filter_passes (is_active model) (possible_members model))
        (All-contains (Contains (active_members model)) set.members m part (contains_of_has set.members m e))

    by : (m : Member) (b : Bool) → has set.members m ≡ b → has set.members m ≡ (is_active model m && has set.members m)
    by m true e = sym (ap (λ a. a && has set.members m) (active m e))
    by m false e = e ∙ sym (ap (λ b. is_active model m && b) e ∙ and_false (is_active model m))

-- what holds of all members of a list holds of some of some of them
pub part_all : (P : Member → Type 0) (part set all : List Member) → part ≡ filter (has part) set → set ≡ filter (has set) all → All P all → All P part
part_all P part set all p s h = subst (All P) (sym p) (All-filter (has part) P set (subst (All P) (sym s) (All-filter (has set) P all h)))

-- where its members are active and some of them are enforced, the site is as it is printed
printed_site : (model : Program) (site : Site) → IsSetOf model site.set → IsPossibleSite site → IsPart site.set.members (active_members model) → IsSetOf model site.enforced
    → site.enforced.members ≡ filter (has site.enforced.members) site.set.members → All (λ b. b.column < length model.columns) site.path → All IsFitting site.path → IsPrintedSite model site
printed_site model site of possible part enforced_of enforced_part known fits =
    let active = active_site model site.set of possible part in record {
      of_model = of;
      active = active;
      enforced_of = enforced_of;
      enforced_in_order = subst IsInOrder (sym enforced_part) (ordered site.enforced.members site.set.members (subst IsInOrder (sym active) (ordered site.set.members (active_members model) (members_law model).0)));
      enforced_there = part_all (λ m. IsTrue (exists model m)) site.enforced.members site.set.members (active_members model) enforced_part active there;
      enforced_part = enforced_part;
      known = known;
      fits = fits;
    }
  where
    ordered : (part set : List Member) → IsInOrder set → IsInOrder (filter (has part) set)
    ordered part set order = AllPairs-filter (λ m n. IsTrue (comes_before m n)) (has part) set order

    there : All (λ m. IsTrue (exists model m)) (active_members model)
    there =
        All-weaker (Contains (active_members model)) (λ m. IsTrue (exists model m)) (λ m c. (and_parts (exists model m) (flag model m) (((members_law model).1 m).0 c)).0) (active_members model)
        (All-contains_itself (active_members model))

-- that of all active members, on no path
pub whole_printed : (model : Program) (site : Site) → IsSetOf model site.set → site.set.members ≡ active_members model → IsPossibleSite site → IsSetOf model site.enforced
    → site.enforced.members ≡ filter (has site.enforced.members) site.set.members → site.path ≡ [] → IsPrintedSite model site
whole_printed model site of whole possible enforced_of enforced_part none =
    printed_site model site of possible (subst (λ l. IsPart l (active_members model)) (sym whole) (All-contains_itself (active_members model))) enforced_of enforced_part
    (subst (All (λ b. b.column < length model.columns)) (sym none) (All-nil (λ (b : Branch). b.column < length model.columns))) (subst (All IsFitting) (sym none) (All-nil IsFitting))

-- where nothing is enforced, that is a part of the set
pub none_part : (site : Site) → site.enforced.members ≡ [] → site.enforced.members ≡ filter (has site.enforced.members) site.set.members
none_part site none = none ∙ sym (ap (λ l. filter (has l) site.set.members) none ∙ nothing site.set.members)
  where
    nothing : (l : List Member) → filter (has []) l ≡ []
    nothing [] = refl
    nothing (m ∷ l) = nothing l

-- where no member of the set is a mark, its plain system is not eased
abbrev IsUneasedSet : Program → Budgets → List Member → Type 0
IsUneasedSet model budgets set = has_mark set ≡ false → IsEased (set_system model set) budgets.pivots → ⊥

-- the site of a node, whose path is known and fits, with a stop there
at_node : (IsTest : List Member → Type 0) (model : Program) (budgets : Budgets) (asked : List Member) (site : Site) (stop : Site → Stop) → IsTreeSite model asked site → IsUneasedSet model budgets asked → IsPossibleSite site → IsPart asked (active_members model) → IsTest asked
    → IsStopped model budgets (stop site) → IsRunAt model (λ s. IsSettleStop IsTest model budgets s (stop s)) (told_site model site)
at_node IsTest model budgets asked site stop h uneased possible part test stopped = record {
  site = site;
  is = refl;
  printed = printed_site model site h.node.set_of possible (subst (λ l. IsPart l (active_members model)) (sym h.node.set_is) part) h.node.enforced_of (none_part site h.node.none_enforced) h.known h.fits;
  so = (
    record {
      settles = h.node.kind;
      none_enforced = h.node.none_enforced;
      test = subst IsTest (sym h.node.set_is) test;
      uneased = subst (IsUneasedSet model budgets) (sym h.node.set_is) uneased;
    },
    stopped,
  );
}

-- with no path there is nothing to be known
root_site : (model : Program) (asked : List Member) (site : Site) → IsNodeSite model asked [] site → IsTreeSite model asked site
root_site model asked site node = record {
  node = subst (λ (p : List Branch). IsNodeSite model asked p site) (sym node.path_is) node;
  known = subst (All (λ b. b.column < length model.columns)) (sym node.path_is) (All-nil (λ (b : Branch). b.column < length model.columns));
  fits = subst (All IsFitting) (sym node.path_is) (All-nil IsFitting);
}

-- ---- stops that the reference answers
-- the sites of its runs and of its trees
wide_site : (model : Program) (budgets : Budgets) (asked : List Member) (site : Site) (step : ℕ) (wide : Operation) → IsReferenceAnswer model budgets asked (Err (Wide site step wide)) → IsTreeSite model asked site
wide_site model budgets asked site step wide (inl h) = root_site model asked site h.ends.0
wide_site model budgets asked site step wide (inr h) = h.ends.0

spent_site : (model : Program) (budgets : Budgets) (asked : List Member) (site : Site) → IsReferenceAnswer model budgets asked (Err (Spent site)) → IsTreeSite model asked site
spent_site model budgets asked site (inl h) = root_site model asked site h.ends.0
spent_site model budgets asked site (inr h) = h.ends.0

whole_site : (model : Program) (budgets : Budgets) (asked : List Member) (site : Site) → IsReferenceAnswer model budgets asked (Err (Nodes site)) → IsTreeSite model asked site
whole_site model budgets asked site (inl h) = absurd h.ends
whole_site model budgets asked site (inr h) = root_site model asked site h.ends.0

-- ---- where the set has no mark
own_run : (model : Program) (pivots : ℕ) (asked : List Member) (stop : Stop) → (stop ≡ Memory → ⊥) → IsPresolvedVerdict model asked pivots (Err stop) → IsUneased model asked pivots (Err stop)
own_run model pivots asked stop other (inl memory) = absurd (other memory)
own_run model pivots asked stop other (inr h) = h

-- a stop is that of its own run
by_own_run : (model : Program) (budgets : Budgets) (asked : List Member) (stop : Stop) → (stop ≡ Memory → ⊥) → IsPresolvedReference model budgets asked (Err stop) → IsReferenceAnswer model budgets asked (Err stop)
by_own_run model budgets asked stop other (inl h) = inl (record { asked = h.asked; ends = (own_run model budgets.pivots asked stop other h.ends).ends })
by_own_run model budgets asked stop other (inr h) = inr h

-- and its plain system is not eased
uneased_set : (model : Program) (budgets : Budgets) (asked : List Member) (stop : Stop) → (stop ≡ Memory → ⊥) → IsPresolvedReference model budgets asked (Err stop) → IsUneasedSet model budgets asked
uneased_set model budgets asked stop other (inl h) = λ none. (own_run model budgets.pivots asked stop other h.ends).not_eased
uneased_set model budgets asked stop other (inr h) = λ none. absurd (true≢false (sym h.asked.marked ∙ none))

-- as an answer it is right, where the set passes the test
right_stop : (IsTest : List Member → Type 0) (model : Program) (budgets : Budgets) (asked : List Member) (stop : Stop) (answer : Answer) → IsPresolvedReference model budgets asked (Err stop) → IsPart asked (active_members model)
    → IsTest asked → IsToldStop model stop answer → IsStopAnswer IsTest model budgets answer
right_stop IsTest model budgets asked (Wide site turn wide) answer h part test told =
    let other : Wide site turn wide ≡ Memory → ⊥ = λ e. cc in
    let run = by_own_run model budgets asked (Wide site turn wide) other h in
    record {
      stop = ToldStop.Wide (told_site model site) turn wide;
      is = told.0;
      so = at_node IsTest model budgets asked site (λ s. Wide s turn wide) (wide_site model budgets asked site turn wide run) (uneased_set model budgets asked (Wide site turn wide) other h) told.1 part test (reference_stopped model budgets asked (Wide site turn wide) other run);
    }
right_stop IsTest model budgets asked (Spent site) answer h part test told =
    let other : Spent site ≡ Memory → ⊥ = λ e. cc in
    let run = by_own_run model budgets asked (Spent site) other h in
    record {
      stop = ToldStop.Pivots (told_site model site);
      is = told.0;
      so = at_node IsTest model budgets asked site Spent (spent_site model budgets asked site run) (uneased_set model budgets asked (Spent site) other h) told.1 part test (reference_stopped model budgets asked (Spent site) other run);
    }
right_stop IsTest model budgets asked (Nodes site) answer h part test told =
    let other : Nodes site ≡ Memory → ⊥ = λ e. cc in
    let run = by_own_run model budgets asked (Nodes site) other h in
    record {
      stop = ToldStop.Nodes (told_site model site);
      is = told.0;
      so = at_node IsTest model budgets asked site Nodes (whole_site model budgets asked site run) (uneased_set model budgets asked (Nodes site) other h) told.1 part test (reference_stopped model budgets asked (Nodes site) other run);
    }
right_stop IsTest model budgets asked (Large size) answer h part test told = absurd told
right_stop IsTest model budgets asked Memory answer h part test told = absurd told

-- it is that of a run or a tree of the program
reference_runs : (model : Program) (budgets : Budgets) (asked : List Member) (stop : Stop) → IsPresolvedReference model budgets asked (Err stop) → IsRunStop model stop
reference_runs model budgets asked (Wide site turn wide) h = (wide_site model budgets asked site turn wide (by_own_run model budgets asked (Wide site turn wide) (λ e. cc) h)).node.set_of
reference_runs model budgets asked (Spent site) h = (spent_site model budgets asked site (by_own_run model budgets asked (Spent site) (λ e. cc) h)).node.set_of
reference_runs model budgets asked (Nodes site) h = (whole_site model budgets asked site (by_own_run model budgets asked (Nodes site) (λ e. cc) h)).node.set_of
reference_runs model budgets asked (Large size) h = elim (by_own_run model budgets asked (Large size) (λ e. cc) h) [
  | inl run ↦ absurd run.ends
  | inr tree ↦ absurd tree.ends
]
reference_runs model budgets asked Memory h = tt

pub answered_runs : (model : Program) (budgets : Budgets) (asked : List Member) (stop : Stop) → IsAnsweredStop (IsPresolvedReference model budgets) asked stop → IsRunStop model stop
answered_runs model budgets asked stop (inl memory) = subst (IsRunStop model) (sym memory) tt
answered_runs model budgets asked stop (inr h) = reference_runs model budgets asked stop h

-- what is answered to an ask for a set of active members that passes the test
stop_answer : (IsTest : List Member → Type 0) (model : Program) (budgets : Budgets) (asked : List Member) (stop : Stop) (answer : Answer) → IsAnsweredStop (IsPresolvedReference model budgets) asked stop
    → IsPart asked (active_members model) → IsTest asked → IsToldStop model stop answer → IsStopAnswer IsTest model budgets answer
stop_answer IsTest model budgets asked stop answer (inl memory) part test told = absurd (subst (λ (s : Stop). IsToldStop model s answer) memory told)
stop_answer IsTest model budgets asked stop answer (inr h) part test told = right_stop IsTest model budgets asked stop answer h part test told

-- is right to a search and to a check
pub isolated_stop : (IsKept : Core → Type 0) (IsTest : List Member → Type 0) (model : Program) (budgets : Budgets) {E : Type 0} (result : Result Answer E) → IfOk result (IsStopAnswer IsTest model budgets) → IfOk result (IsIsolated IsKept IsTest model budgets)
isolated_stop IsKept IsTest model budgets (Ok answer) h = subst (IsIsolated IsKept IsTest model budgets) (sym h.is) h.so
isolated_stop IsKept IsTest model budgets (Err error) h = tt

pub solved_stop : (model : Program) (budgets : Budgets) {E : Type 0} (result : Result Answer E) → IfOk result (IsStopAnswer (IsWhole model) model budgets) → IfOk result (IsSolved model budgets)
solved_stop model budgets (Ok answer) h = subst (IsSolved model budgets) (sym h.is) h.so
solved_stop model budgets (Err error) h = tt

-- ---- what is asked
-- The stop of the reference for a set of active members that passes a test; or want of memory.
pub record IsRunOf (IsTest : List Member → Type 0) (model : Program) (budgets : Budgets) (stop : Stop) : Type 0 where
  pub asked : List Member
  pub answered : IsAnsweredStop (IsPresolvedReference model budgets) asked stop
  pub part : IsPart asked (active_members model)
  pub test : IsTest asked

-- as an answer it is a stop of such a set
pub run_answer : (IsTest : List Member → Type 0) (model : Program) (budgets : Budgets) (stop : Stop) {E : Type 0} (result : Result Answer E) → IsRunOf IsTest model budgets stop → IfOk result (IsToldStop model stop) → IfOk result (IsStopAnswer IsTest model budgets)
run_answer IsTest model budgets stop (Ok answer) h told = stop_answer IsTest model budgets h.asked stop answer h.answered h.part h.test told
run_answer IsTest model budgets stop (Err error) h told = tt
