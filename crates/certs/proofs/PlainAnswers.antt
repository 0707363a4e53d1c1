-- Answers by runs of plain systems: the laws of an oracle that gives them.
use Rattle.std.proofs.Common.{◌≡◌, ◌<◌, ℕ, sym, ◌∙◌, ap, subst, Bool, true, false, true≢false, get_or, not, List, [], length, Ok, Err}
use Rattle.std.specs.Prelude.{All, Contains}
use Rattle.std.specs.List.{list_any}
use Rattle.std.proofs.lemmas.Bool.{false_from_ne_true, not-true}
use Rattle.std.proofs.lemmas.List.Elements.{All-cons, All-contains, All-contains_itself, All-nil, All-weaker}
use Rattle.std.proofs.lemmas.List.Folds.{list_any_at, list_any_none}
use Rattle.lp_model.specs.declared.members.Member.{Member}
use Rattle.lp_model.specs.Members.{is_mark}
use Rattle.lp_model.specs.Program.{Program}
use Rattle.lp_model.specs.Satisfaction.{IsPart}
use Rattle.certs.specs.declared.evidence.Branch.{Branch}
use Rattle.certs.specs.declared.evidence.Node.TheVariants.{Leaf}
use Rattle.certs.specs.declared.evidence.Proof.{Proof}
use Rattle.certs.specs.declared.solving.Stop.{Stop}
use Rattle.certs.specs.declared.solving.Stop.TheVariants.{Wide, Pivots, Nodes, Large, Memory}
use Rattle.certs.specs.declared.solving.Verdict.{Verdict}
use Rattle.certs.specs.declared.solving.Verdict.TheVariants.{Feasible, Infeasible}
use Rattle.certs.specs.Answers.{IsPlainAnswer, is_linear}
use Rattle.certs.specs.Order.{AreLeavesInOrder, IsNodeInOrder}
use Rattle.certs.specs.Plain.{column_limits}
use Rattle.certs.specs.Proof.{Tip}
use Rattle.certs.specs.Tales.{IsNodeEnd, IsSiteWithin, IsVerdict}
use Rattle.certs.proofs.PlainCuts.{plain_cut}
use Rattle.certs.proofs.PlainOrder.{plain_cut_in_order}
use Rattle.certs.proofs.PlainPoints.{plain_point}
use Rattle.certs.proofs.Translated.{length_mapped}

-- ---- sets without marks
none_passes : (p : Member → Bool) (xs : List Member) → list_any p xs ≡ false → All (λ m. p m ≡ false) xs
none_passes p xs h = λ k d l. false_from_ne_true (p (get_or xs k d)) (λ e. true≢false (sym (list_any_at p xs k d l e) ∙ h))

pub unmarked : (set : List Member) → is_linear set ≡ true → All (λ m. is_mark m ≡ false) set
unmarked set h = none_passes is_mark set (not-true (list_any is_mark set) h)

pub linear_of : (set : List Member) → All (λ m. is_mark m ≡ false) set → is_linear set ≡ true
linear_of set h = ap not (list_any_none is_mark set h)

-- a part has none either
pub linear_part : (set part : List Member) → IsPart part set → is_linear set ≡ true → is_linear part ≡ true
linear_part set part of h = linear_of part (All-weaker (Contains set) (λ m. is_mark m ≡ false) (λ m c. All-contains (λ n. is_mark n ≡ false) set m (unmarked set h) c) part of)

-- ---- verdicts
pub plain_holds : (model : Program) (pivots : ℕ) (set : List Member) (verdict : Verdict) → IsPlainAnswer model pivots set (Ok verdict) → IsVerdict model set verdict
plain_holds model pivots set (Feasible point) h =
    let holds = plain_point model set [] pivots point.values h.asked.formed h.asked.known h.ends in
    let free = unmarked set h.asked.linear in
    record { each_column = h.ends.count ∙ length_mapped (column_limits model set []) (length model.columns); satisfies = λ k d l. holds k d l (free k d l) }
plain_holds model pivots set (Infeasible proof) h = record {
  tree = Tip h.ends.combo.shares;
  listed = sym h.ends.leaf;
  proves = plain_cut model set [] pivots h.ends.combo.shares h.asked.formed (All-nil (λ (b : Branch). b.column < length model.columns)) h.ends.cut;
}

pub plain_ordered : (model : Program) (pivots : ℕ) (set : List Member) (proof : Proof) → IsPlainAnswer model pivots set (Ok (Infeasible proof)) → AreLeavesInOrder proof.nodes
plain_ordered model pivots set proof h =
    subst AreLeavesInOrder (sym h.ends.leaf)
    (All-cons IsNodeInOrder (Leaf h.ends.combo) [] (plain_cut_in_order model set [] pivots h.ends.combo.shares h.ends.cut) (All-nil IsNodeInOrder))

-- ---- stops
pub own_site : (set : List Member) (members : List Member) → members ≡ set → IsPart members set
own_site set members e = subst (λ l. IsPart l set) (sym e) (All-contains_itself set)

site_within : (model : Program) (set : List Member) (pivots : ℕ) (stop : Stop) → IsNodeEnd model set [] pivots (Err stop) → IsSiteWithin set stop
site_within model set pivots (Wide site step operation) h = own_site set site.set.members h.0.set_is
site_within model set pivots (Pivots site) h = own_site set site.set.members h.0.set_is
site_within model set pivots (Nodes site) h = absurd h
site_within model set pivots (Large size) h = absurd h
site_within model set pivots Memory h = tt

pub plain_within : (model : Program) (pivots : ℕ) (set : List Member) (stop : Stop) → IsPlainAnswer model pivots set (Err stop) → IsSiteWithin set stop
plain_within model pivots set stop h = site_within model set pivots stop h.ends
