-- A set that is being reduced.
use Rattle.std.proofs.Common.{◌≡◌, sym, ◌∙◌, ap, subst, false, filter, List, [], ◌∷◌, ◌++◌, Ok, Err}
use Rattle.std.specs.Prelude.{Contains, Result, OnOk}
use Rattle.std.proofs.lemmas.List.Elements.{All-contains}
use Rattle.lp_model.specs.declared.members.Member.{Member}
use Rattle.lp_model.specs.Members.{has, IsInOrder}
use Rattle.lp_model.specs.MemberSets.{SetValue, IsMemberFor, IsPossibleIn, possible_in, set_without}
use Rattle.lp_model.specs.Program.{Program}
use Rattle.certs.specs.declared.evidence.Node.{Node}
use Rattle.certs.specs.declared.evidence.Point.{Point}
use Rattle.certs.specs.declared.evidence.Proof.{Proof}
use Rattle.certs.specs.declared.solving.Verdict.{Verdict}
use Rattle.certs.specs.declared.solving.Verdict.TheVariants.{Feasible, Infeasible}
use Rattle.certs.specs.Checks.{IsSetOf}
use Rattle.certs.specs.Named.{used_set}
use Rattle.certs.specs.Proof.{IsProof}
use Rattle.certs.specs.Tales.{IsPointOf, IsVerdict}
use Rattle.filter_steps.specs.Reductions.{IsReduction, Tried, stays, goes}
use Rattle.filter_steps.proofs.Sets.{rest_in_order, rest_is_part, rest_is_possible}
use Rattle.filter_steps.proofs.Proofs.{proof_without, used_tells}

-- at first
pub reduction_starts : (model : Program) (set : SetValue) (nodes : List Node) → IsSetOf model set → set.members ≡ filter (has set.members) (possible_in set) → IsInOrder set.members → IsProof model set.members nodes → IsReduction model set (used_set set nodes) nodes
reduction_starts model set nodes same is order p = record {
  left_sized = same;
  possible = is;
  in_order = order;
  used_sized = record { rows = same.rows; columns = same.columns };
  proof = p;
  uses = used_tells set nodes;
}

-- a member that the proof does not use is taken out
pub unused_goes : (model : Program) (left used : SetValue) (nodes : List Node) (m : Member) → IsReduction model left used nodes → Contains left.members m → has used.members m ≡ false → IsReduction model (set_without left m) used nodes
unused_goes model left used nodes m r c none = record {
  left_sized = record { rows = r.left_sized.rows; columns = r.left_sized.columns };
  possible = rest_is_possible left m r.possible;
  in_order = rest_in_order left m r.in_order;
  used_sized = r.used_sized;
  proof = proof_without model left m nodes (sym (r.uses m c) ∙ none) r.proof;
  uses = λ n d. r.uses n (All-contains (Contains left.members) (set_without left m).members n (rest_is_part left m) d);
}

-- the reduction of equal parts
pub same_reduction : (model : Program) (left left_now used used_now : SetValue) (nodes nodes_now : List Node) → left_now ≡ left → used_now ≡ used → nodes_now ≡ nodes → IsReduction model left used nodes → IsReduction model left_now used_now nodes_now
same_reduction model left left_now used used_now nodes nodes_now e f h r =
    subst (λ s. IsReduction model s used_now nodes_now) (sym e) (subst (λ u. IsReduction model left u nodes_now) (sym f) (subst (IsReduction model left used) (sym h) r))

-- the proof of what is left is taken in place of the one before
pub refuted : (model : Program) (left used : SetValue) (before : List Node) (m : Member) (removed left_now used_now : SetValue) (proof proof_now : Proof) → IsReduction model left used before
    → removed ≡ set_without left m → IsProof model removed.members proof.nodes → left_now ≡ removed → used_now ≡ used_set removed proof.nodes → proof_now ≡ proof → IsReduction model left_now used_now proof_now.nodes
refuted model left used before m removed left_now used_now proof proof_now r e p f u q =
    let sized : IsSetOf model removed = subst (IsSetOf model) (sym e) (record { rows = r.left_sized.rows; columns = r.left_sized.columns }) in
    let is : removed.members ≡ filter (has removed.members) (possible_in removed) = subst (λ (s : SetValue). s.members ≡ filter (has s.members) (possible_in s)) (sym e) (rest_is_possible left m r.possible) in
    let order : IsInOrder removed.members = subst (λ (s : SetValue). IsInOrder s.members) (sym e) (rest_in_order left m r.in_order) in
    same_reduction model removed left_now (used_set removed proof.nodes) used_now proof.nodes proof_now.nodes f u (ap (λ (x : Proof). x.nodes) q) (reduction_starts model removed proof.nodes sized is order p)

-- ---- what was asked
pub point_of_verdict : (model : Program) (members : List Member) (v : Verdict) (p : Point) → v ≡ Feasible p → IsVerdict model members v → IsPointOf model members p
point_of_verdict model members v p e h = subst (IsVerdict model members) e h

pub proof_of_verdict : (model : Program) (members : List Member) (v : Verdict) (p : Proof) → v ≡ Infeasible p → IsVerdict model members v → IsProof model members p.nodes
proof_of_verdict model members v p e h = subst (IsVerdict model members) e h

-- what holds anyhow, holds where the call succeeds
pub on_ok : {A E : Type 0} (r : Result A E) (P : Type 0) → P → OnOk r P
on_ok (Ok a) P h = h
on_ok (Err e) P h = tt

-- and what follows
pub on_ok_then : {A E : Type 0} (r : Result A E) (P Q : Type 0) → (P → Q) → OnOk r P → OnOk r Q
on_ok_then (Ok a) P Q f h = f h
on_ok_then (Err e) P Q f h = tt

-- from two facts
pub on_ok_both : {A E : Type 0} (r : Result A E) (P Q R : Type 0) → (P → Q → R) → OnOk r P → OnOk r Q → OnOk r R
on_ok_both (Ok a) P Q R f h k = f h k
on_ok_both (Err e) P Q R f h k = tt

-- ---- what became of the member
pub tried_stays : (model : Program) (left now : SetValue) (before after : List Point) (m : Member) (p : Point) → IsPointOf model (set_without left m).members p → now ≡ left → after ≡ before ++ p ∷ []
    → Tried model left before m now after
tried_stays model left now before after m p h e w = subst (λ s. Tried model left before m s after) (sym e) (subst (Tried model left before m left) (sym w) (stays p h))

pub tried_goes : (model : Program) (left now : SetValue) (before after : List Point) (m : Member) → now ≡ set_without left m → after ≡ before → Tried model left before m now after
tried_goes model left now before after m e w = subst (λ s. Tried model left before m s after) (sym e) (subst (Tried model left before m (set_without left m)) (sym w) goes)

-- a member is possible in the set of the members that the proof uses
pub possible_in_used : (model : Program) (left used : SetValue) (nodes : List Node) (m : Member) → IsReduction model left used nodes → IsPossibleIn left m → IsPossibleIn used m
possible_in_used model left used nodes m r h =
    subst (λ n. IsMemberFor n used.columns m) (r.left_sized.rows ∙ sym r.used_sized.rows)
    (subst (λ n. IsMemberFor left.rows n m) (r.left_sized.columns ∙ sym r.used_sized.columns) h)
