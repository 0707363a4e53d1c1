-- What a relaxation gives, as an answer.
use Rattle.std.proofs.Common.{◌≡◌, refl, sym, ◌∙◌, ap, subst, Bool, true, false, true≢false, ◌||◌, List, [], ◌∷◌, filter, Result, Ok, Err}
use Rattle.std.specs.Prelude.{All, Contains, IfOk}
use Rattle.std.specs.List.{list_any}
use Rattle.std.proofs.lemmas.List.Elements.{All-cons, All-contains, All-contains_itself, All-filter, All-head, All-nil, All-tail, All-weaker, filter_passes}
use Rattle.lp_model.specs.declared.members.Member.{Member}
use Rattle.lp_model.specs.Program.{Program}
use Rattle.lp_model.specs.Members.{active_members, weight}
use Rattle.lp_model.specs.MemberSets.{SetValue, active_set}
use Rattle.lp_model.specs.Satisfaction.{IsPart}
use Rattle.lp_model.proofs.Sets.{same_members}
use Rattle.certs.specs.declared.evidence.Combo.{Combo}
use Rattle.certs.specs.declared.evidence.Node.TheVariants.{Leaf}
use Rattle.certs.specs.declared.evidence.Point.{Point}
use Rattle.certs.specs.declared.evidence.Proof.{Proof}
use Rattle.certs.specs.declared.evidence.Share.{Share}
use Rattle.certs.specs.declared.evidence.Source.{Source}
use Rattle.certs.specs.declared.evidence.Source.TheVariants.{Member as Of, Below, Above}
use Rattle.certs.specs.declared.solving.Site.{Site}
use Rattle.certs.specs.declared.solving.Stop.{Stop}
use Rattle.certs.specs.declared.solving.Stop.TheVariants.{Wide, Pivots as Spent, Nodes, Large, Memory}
use Rattle.certs.specs.Combination.{IsCombination, IsFrom, IsThere}
use Rattle.certs.specs.Named.{node_uses, used_set}
use Rattle.certs.specs.Order.{AreLeavesInOrder, IsNodeInOrder}
use Rattle.certs.specs.Proof.{IsFittingNode, IsProof, Tip}
use Rattle.certs.specs.Sites.{Budgets}
use Rattle.certs.specs.Violation.{is_of, is_rigid, rigid_members}
use Rattle.certs.specs.declared.evidence.Dual.{Dual}
use Rattle.relaxation.specs.Laws.{RefutesEnforced}
use Rattle.least_checks.specs.Least.{IsLeastBy}
use Rattle.relaxation.specs.Relaxed.{IsRelaxSite, IsRelaxStop}
use Rattle.report_text.specs.declared.report.Answer.{Answer}
use Rattle.report_text.specs.declared.report.Answer.TheVariants.{RigidInfeasible}
use Rattle.report_text.specs.Form.{is_one_leaf}
use Rattle.report_printer.specs.Printing.{IsKnownLeast}
use Rattle.analysis.specs.Answers.{IsPossibleSite, IsToldStop}
use Rattle.analysis.specs.Least.{IsLeastTold}
use Rattle.analysis.specs.Stops.{IsPrintedSite}
use Rattle.analysis.proofs.Chained.{part_by}
use Rattle.analysis.proofs.Objectives.{least_sources}
use Rattle.analysis.proofs.Refuting.{refutes}
use Rattle.analysis.proofs.Stopping.{whole_printed}

-- ---- a combination of rigid members
from_within : (part whole : List Member) (source : Source) → IsPart part whole → IsFrom part source → IsFrom whole source
from_within part whole (Of m) h from = All-contains (Contains whole) part m h from
from_within part whole (Below j) h from = tt
from_within part whole (Above j) h from = tt

combination_within : (model : Program) (part whole : List Member) (shares : List Share) → IsPart part whole → IsCombination model part [] shares → IsCombination model whole [] shares
combination_within model part whole shares h c = record {
  positive = c.positive;
  there = All-weaker (IsThere model part []) (IsThere model whole []) (λ s t. record { from = from_within part whole s.source h t.from; number = t.number }) shares c.there;
  cancels = c.cancels;
  contradicts = c.contradicts;
}

-- a member that the shares name is one of the part
named_from : (part : List Member) (m : Member) (source : Source) → is_of m source ≡ true → IsFrom part source → Contains part m
named_from part m (Of n) e from = subst (Contains part) (sym (same_members m n e)) from
named_from part m (Below j) e from = absurd (true≢false (sym e))
named_from part m (Above j) e from = absurd (true≢false (sym e))

used_from : (model : Program) (part : List Member) (m : Member) (shares : List Share) → All (IsThere model part []) shares → list_any (λ s. is_of m s.source) shares ≡ true → Contains part m
used_from model part m [] h e = absurd (true≢false (sym e))
used_from model part m (s ∷ shares) h e = by (used_from model part m shares (All-tail (IsThere model part []) s shares h)) (is_of m s.source) refl e
  where
    by : (list_any (λ s. is_of m s.source) shares ≡ true → Contains part m) → (b : Bool) → is_of m s.source ≡ b → (b || list_any (λ s. is_of m s.source) shares) ≡ true → Contains part m
    by rest true t e = named_from part m s.source t (All-head (IsThere model part []) s shares h).from
    by rest false t e = rest e

-- what a leaf uses is a part of what its shares are from
leaf_uses : (model : Program) (part whole : List Member) (combo : Combo) → All (IsThere model part []) combo.shares → IsPart (filter (λ m. list_any (node_uses m) (Leaf combo ∷ [])) whole) part
leaf_uses model part whole combo h =
    All-weaker (λ m. list_any (node_uses m) (Leaf combo ∷ []) ≡ true) (Contains part) (λ m e. used_from model part m combo.shares h (by (node_uses m (Leaf combo)) e))
    (filter (λ m. list_any (node_uses m) (Leaf combo ∷ [])) whole) (filter_passes (λ m. list_any (node_uses m) (Leaf combo ∷ [])) whole)
  where
    by : (b : Bool) → (b || false) ≡ true → b ≡ true
    by true e = refl
    by false e = e

module _ (model : Program) (combo : Combo) (h : RefutesEnforced model (rigid_members model (active_members model)) combo.shares) (proof : Proof) (leaf : proof.nodes ≡ Leaf combo ∷ []) where
  -- with one leaf it is a proof of the active members
  pub rigid_proves : IsProof model (active_members model) proof.nodes
  rigid_proves = record {
    tree = Tip combo.shares;
    listed = sym leaf;
    proves =
        combination_within model (rigid_members model (active_members model)) (active_members model) combo.shares
        (All-filter (λ m. is_rigid (weight model m)) (Contains (active_members model)) (active_members model) (All-contains_itself (active_members model))) h.combination;
  }

  rigid_ordered : AreLeavesInOrder proof.nodes
  rigid_ordered = subst (All IsNodeInOrder) (sym leaf) (All-cons IsNodeInOrder (Leaf combo) [] h.ordered (All-nil IsNodeInOrder))

  rigid_fits : All IsFittingNode proof.nodes
  rigid_fits = subst (All IsFittingNode) (sym leaf) (All-cons IsFittingNode (Leaf combo) [] tt (All-nil IsFittingNode))

  rigid_used : (printed : SetValue) → printed ≡ used_set (active_set model) proof.nodes → IsPart printed.members (rigid_members model (active_members model))
  rigid_used printed same =
      subst (λ (s : SetValue). IsPart s.members (rigid_members model (active_members model))) (sym (same ∙ ap (used_set (active_set model)) leaf))
      (leaf_uses model (rigid_members model (active_members model)) (active_members model) combo h.combination.there)

  -- as an answer it is right
  pub rigid_told : (printed : SetValue) → printed ≡ used_set (active_set model) proof.nodes → (budgets : Budgets) → IsLeastTold model budgets (RigidInfeasible printed proof)
  rigid_told printed same budgets = (refutes model proof printed rigid_proves rigid_ordered rigid_fits same, (rigid_used printed same, ap is_one_leaf leaf))

-- ---- a least point
pub least_known : (model : Program) (point : Point) (dual : Dual) → IsLeastBy model (active_members model) point dual → IsKnownLeast model point dual
least_known model point dual h = record { point = h.each_column; sources = least_sources model dual.combo.shares dual.bound h.dual_of }

-- ---- stops
module _ (model : Program) (budgets : Budgets) where
  abbrev set : List Member
  set = active_members model

  relax_run_site : (site : Site) → IsRelaxSite model set site → IsPossibleSite site → IsPrintedSite model site
  relax_run_site site h possible =
      whole_printed model site h.set_of h.set_is possible h.enforced_of
      (part_by (λ m. is_rigid (weight model m)) site.enforced.members site.set.members (h.enforced_is ∙ ap (rigid_members model) (sym h.set_is))) h.path_is

  stop_eased : (stop : Stop) (answer : Answer) → IsRelaxStop model set budgets.pivots stop → IsToldStop model stop answer → IsLeastTold model budgets answer
  stop_eased (Wide site k o) answer h told = subst (IsLeastTold model budgets) (sym told.0) (record { site = site; is = refl; printed = relax_run_site site h.0 told.1; so = h })
  stop_eased (Spent site) answer h told = subst (IsLeastTold model budgets) (sym told.0) (record { site = site; is = refl; printed = relax_run_site site h.0 told.1; so = h })
  stop_eased (Nodes site) answer h told = absurd h
  stop_eased (Large size) answer h told = absurd h
  stop_eased Memory answer h told = absurd told

  pub stops_eased : (stop : Stop) {E : Type 0} (result : Result Answer E) → IsRelaxStop model set budgets.pivots stop → IfOk result (IsToldStop model stop) → IfOk result (IsLeastTold model budgets)
  stops_eased stop (Ok answer) h told = stop_eased stop answer h told
  stops_eased stop (Err error) h told = tt
