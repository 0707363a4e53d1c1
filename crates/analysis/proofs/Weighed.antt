-- What a cheapest weighting gives, as an answer.
use Rattle.std.proofs.Common.{◌≡◌, refl, sym, ap, subst, List, [], ◌∷◌, Some, None, Result, Ok, Err, inl, inr}
use Rattle.std.specs.Prelude.{All, Contains, IfOk, IfSome}
use Rattle.std.specs.Result.{result_ok}
use Rattle.std.proofs.lemmas.List.Elements.{All-contains_itself, All-cons, All-head, All-nil, All-tail, All-weaker}
use Rattle.rational.specs.Rational.{ℚ}
use Rattle.lp_model.specs.declared.members.Member.{Member}
use Rattle.lp_model.specs.Program.{Program}
use Rattle.lp_model.specs.Members.{active_members, IsInOrder}
use Rattle.lp_model.specs.MemberSets.{SetValue, active_set}
use Rattle.lp_model.specs.Satisfaction.{IsPart}
use Rattle.certs.specs.declared.evidence.Combo.{Combo}
use Rattle.certs.specs.declared.evidence.Node.{Node}
use Rattle.certs.specs.declared.evidence.Node.TheVariants.{Leaf}
use Rattle.certs.specs.declared.evidence.Point.{Point}
use Rattle.certs.specs.declared.evidence.Proof.{Proof}
use Rattle.certs.specs.declared.evidence.Share.{Share}
use Rattle.certs.specs.declared.evidence.Source.{Source}
use Rattle.certs.specs.declared.evidence.Source.TheVariants.{Member as Of, Below, Above}
use Rattle.certs.specs.declared.solving.Site.{Site}
use Rattle.certs.specs.declared.solving.Stop.{Stop}
use Rattle.certs.specs.declared.solving.Stop.TheVariants.{Wide, Pivots as Spent, Nodes, Large, Memory}
use Rattle.certs.specs.Alternative.{members_of, with_source}
use Rattle.certs.specs.Combination.{IsFrom, IsThere}
use Rattle.certs.specs.Order.{AreLeavesInOrder, IsNodeInOrder}
use Rattle.certs.specs.Proof.{IsFittingNode, IsProof, Tip}
use Rattle.certs.specs.Sites.{Budgets}
use Rattle.filter_steps.specs.Isolated.{AreWitnesses}
use Rattle.filter_steps.proofs.Reached.{part_of_part}
use Rattle.alt_polyhedron.specs.declared.pricing.Priced.{Priced}
use Rattle.alt_polyhedron.specs.Pricing.{IsAlternativeSite, IsCheapestSet, IsPricing, IsPricingStop}
use Rattle.presolve_oracle.specs.Value.{PresolveValue}
use Rattle.branch_oracle.specs.Value.{BranchValue}
use Rattle.report_text.specs.declared.report.ToldStop.{ToldStop}
use Rattle.report_text.specs.Told.{told_site}
use Rattle.report_text.specs.declared.report.Answer.{Answer}
use Rattle.report_text.specs.declared.report.Core.{Core}
use Rattle.analysis.specs.Answers.{IsOracleOf, IsPossibleSite, IsRunStop, IsToldStop, IsWitnessStop, fresh_oracle, oracle_state, weighed_answer}
use Rattle.analysis.specs.Right.{IsCheapestCore, IsIsolated, IsPrintedSite, IsRightCore, IsStoppedBy, IsSupportTest, IsWeighedTold, IsWeighingStop, IsWhole, IsWithoutOne}
use Rattle.analysis.proofs.Found.{within}
use Rattle.analysis.proofs.Stopping.{answered_runs, IsRunOf, isolated_stop, none_part, run_answer, whole_printed}

-- ---- the members of shares
-- are some of those that the shares are from
members_within : (set : List Member) (shares : List Share) → All (λ s. IsFrom set s.source) shares → IsPart (members_of shares) set
members_within set [] h = All-nil (Contains set)
members_within set (s ∷ shares) h = by s.source (All-head (λ t. IsFrom set t.source) s shares h) (members_within set shares (All-tail (λ t. IsFrom set t.source) s shares h))
  where
    by : (source : Source) → IsFrom set source → IsPart (members_of shares) set → IsPart (with_source source (members_of shares)) set
    by (Of m) c rest = All-cons (Contains set) m (members_of shares) c rest
    by (Below j) c rest = rest
    by (Above j) c rest = rest

-- ---- stops of asks
-- of a set that passes the test, as an answer
told_by : (model : Program) (budgets : Budgets) {E : Type 0} (result : Result Answer E) → IfOk result (IsIsolated (IsCheapestCore model) (IsSupportTest model) model budgets) → IfOk result (IsWeighedTold model budgets)
told_by model budgets (Ok answer) h = inl h
told_by model budgets (Err error) h = tt

stopped_told : (model : Program) (budgets : Budgets) (stop : Stop) {E : Type 0} (result : Result Answer E) → IsRunOf (IsSupportTest model) model budgets stop → IfOk result (IsToldStop model stop)
    → IfOk result (IsWeighedTold model budgets)
stopped_told model budgets stop {E} result run told =
    told_by model budgets {E = E} result (isolated_stop (IsCheapestCore model) (IsSupportTest model) model budgets {E = E} result (run_answer (IsSupportTest model) model budgets stop {E = E} result run told))

-- a stop of an ask for a witness is that of a run or a tree of the program
pub witness_runs : (model : Program) (budgets : Budgets) (set : List Member) (stop : Stop) → IsWitnessStop model budgets set stop → IsRunStop model stop
witness_runs model budgets set stop (inl memory) = subst (IsRunStop model) (sym memory) tt
witness_runs model budgets set stop (inr (asked, (w, answered))) = answered_runs model budgets asked stop (inr answered)

-- of all active members
pub whole_stopped : (model : Program) (budgets : Budgets) (stop : Stop) {E : Type 0} (result : Result Answer E) → IsRunOf (IsWhole model) model budgets stop → IfOk result (IsToldStop model stop)
    → IfOk result (IsWeighedTold model budgets)
whole_stopped model budgets stop {E} result run told = stopped_told model budgets stop {E = E} result (record { asked = run.asked; answered = run.answered; part = run.part; test = inl run.test }) told

-- ---- an oracle that was asked nothing yet
pub fresh_is_of : (model : Program) (budgets : Budgets) (oracle : BranchValue PresolveValue) → oracle ≡ fresh_oracle model budgets → IsOracleOf model budgets oracle
fresh_is_of model budgets oracle fresh = record { model = ap (λ (o : BranchValue PresolveValue). (oracle_state o).model) fresh; budgets = ap (λ (o : BranchValue PresolveValue). (oracle_state o).budgets) fresh }

-- ---- an answer that takes memory
pub if_told : (P : Answer → Type 0) {E : Type 0} (result : Result Answer E) (answer : Answer) → IfOk result (λ told. told ≡ answer) → P answer → IfOk result P
if_told P (Ok told) answer is h = subst P (sym is) h
if_told P (Err error) answer is h = tt

pub if_some : (P : Answer → Type 0) {E : Type 0} (result : Result Answer E) → IfOk result P → IfSome (result_ok result) P
if_some P (Ok told) h = h
if_some P (Err error) h = tt

-- ---- a cheapest set
pub priced_set : (model : Program) (set : SetValue) (priced : Priced) (members : SetValue) (combo : Combo) (total : ℚ) (price : Point) → set ≡ active_set model → priced ≡ Priced.Set members combo total price → IsPricing model set.members priced
    → IsCheapestSet model (active_members model) members combo total price
priced_set model set priced members combo total price whole is h =
    subst (λ (s : SetValue). IsCheapestSet model s.members members combo total price) whole (subst (λ (p : Priced). IsPricing model set.members p) is h)

module _ (model : Program) (members : SetValue) (combo : Combo) (total : ℚ) (price : Point) (h : IsCheapestSet model (active_members model) members combo total price) where
  -- its members are active
  pub cheapest_part : IsPart members.members (active_members model)
  cheapest_part =
      subst (λ l. IsPart l (active_members model)) (sym h.members_are)
      (members_within (active_members model) combo.shares
      (All-weaker (IsThere model (active_members model) []) (λ s. IsFrom (active_members model) s.source) (λ s t. t.from) combo.shares h.weighting.there))

  -- and its leaf is a proof of them
  pub leaf_proves : (nodes : List Node) → nodes ≡ Leaf combo ∷ [] → IsProof model members.members nodes
  leaf_proves nodes leaf = record { tree = Tip combo.shares; listed = sym leaf; proves = h.own_combination }

  leaf_ordered : (nodes : List Node) → nodes ≡ Leaf combo ∷ [] → AreLeavesInOrder nodes
  leaf_ordered nodes leaf = subst AreLeavesInOrder (sym leaf) (All-cons IsNodeInOrder (Leaf combo) [] h.ordered (All-nil IsNodeInOrder))

  leaf_fits : (nodes : List Node) → nodes ≡ Leaf combo ∷ [] → All IsFittingNode nodes
  leaf_fits nodes leaf = subst (All IsFittingNode) (sym leaf) (All-cons IsFittingNode (Leaf combo) [] tt (All-nil IsFittingNode))

  -- with witnesses, the total and the price
  abbrev core_of : List Point → Proof → Core
  core_of witnesses proof = record { members = members; witnesses = witnesses; proof = proof; rounds = None; price = Some (total, price) }

  cheapest_core : (witnesses : List Point) (proof : Proof) → proof.nodes ≡ Leaf combo ∷ [] → IsCheapestCore model (core_of witnesses proof)
  cheapest_core witnesses proof leaf = record { combo = combo; total = total; price = price; rounds = refl; leaf = leaf; told = refl; cheapest = h }

  right_core : (witnesses : List Point) (proof : Proof) → proof.nodes ≡ Leaf combo ∷ [] → IsInOrder members.members → AreWitnesses model members.members witnesses → IsRightCore model (core_of witnesses proof)
  right_core witnesses proof leaf order w = record {
    of_model = h.set_of;
    active = cheapest_part;
    in_order = order;
    proves = leaf_proves proof.nodes leaf;
    ordered = leaf_ordered proof.nodes leaf;
    fits = leaf_fits proof.nodes leaf;
    witnesses = w;
    irreducible = h.irreducible;
    price = h.each_column;
  }

  -- with its witnesses as an answer
  pub weighed_right : (budgets : Budgets) (witnesses : List Point) (proof : Proof) → IsInOrder members.members → proof.nodes ≡ Leaf combo ∷ [] → AreWitnesses model members.members witnesses
      → IsWeighedTold model budgets (weighed_answer members witnesses proof (total, price))
  weighed_right budgets witnesses proof order leaf w =
      inl (right_core witnesses proof leaf order w, cheapest_core witnesses proof leaf)

  others_within : (others : List Member) → IsWithoutOne members.members others → IsPart others (active_members model)
  others_within others w =
      within others members.members (active_members model)
      (subst (λ l. IsPart l members.members) (sym w.others_are)
      (part_of_part members.members w.front (w.member ∷ []) w.back (subst (λ l. IsPart l members.members) w.set_is (All-contains_itself members.members))))
      cheapest_part

  -- and a stop of the asks for its witnesses
  pub witness_stopped : (budgets : Budgets) (stop : Stop) {E : Type 0} (result : Result Answer E) → IsWitnessStop model budgets members.members stop
      → IfOk result (IsToldStop model stop) → IfOk result (IsWeighedTold model budgets)
  witness_stopped budgets stop (Err error) at told = tt
  witness_stopped budgets stop (Ok answer) (inl memory) told = absurd (subst (λ (s : Stop). IsToldStop model s answer) memory told)
  witness_stopped budgets stop {E} (Ok answer) (inr (others, (w, answered))) told =
      let own : Proof = record { nodes = Leaf combo ∷ [] } in
      let run : IsRunOf (IsSupportTest model) model budgets stop = record { asked = others; answered = inr answered; part = others_within others w; test = inr (core_of [] own, (cheapest_core [] own refl, w)) } in
      stopped_told model budgets stop {E = E} (Ok answer) run told

-- ---- stops of the run of the system of the alternative
module _ (model : Program) (budgets : Budgets) where
  weighing_site : (site : Site) → IsAlternativeSite model (active_members model) site → IsPossibleSite site → IsPrintedSite model site
  weighing_site site h possible = whole_printed model site h.set_of h.set_is possible h.enforced_of (none_part site h.none_enforced) h.path_is

  weighing_stop : (stop : Stop) (answer : Answer) → IsPricingStop model (active_members model) budgets.pivots stop → IsToldStop model stop answer → IsStoppedBy (IsWeighingStop model budgets) answer
  weighing_stop (Wide site k o) answer h told = record { stop = ToldStop.Wide (told_site model site) k o; is = told.0; so = record { site = site; is = refl; printed = weighing_site site h.0 told.1; so = h } }
  weighing_stop (Spent site) answer h told = record { stop = ToldStop.Pivots (told_site model site); is = told.0; so = record { site = site; is = refl; printed = weighing_site site h.0 told.1; so = h } }
  weighing_stop (Nodes site) answer h told = absurd h
  weighing_stop (Large size) answer h told = absurd h
  weighing_stop Memory answer h told = absurd told

  pub weighing_stopped : (stop : Stop) {E : Type 0} (result : Result Answer E) → IsPricingStop model (active_members model) budgets.pivots stop → IfOk result (IsToldStop model stop) → IfOk result (IsWeighedTold model budgets)
  weighing_stopped stop (Ok answer) h told = inr (weighing_stop stop answer h told)
  weighing_stopped stop (Err error) h told = tt
