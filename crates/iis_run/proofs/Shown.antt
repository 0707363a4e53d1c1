-- The trials of a point that satisfies members, and of a proof that they cannot be satisfied, are not failed.
use Rattle.std.proofs.Common.{◌≡◌, ◌+◌, refl, sym, ◌∙◌, ap, subst, ℕ, true, List, [], append-nil, length}
use Rattle.std.specs.Prelude.{Contains}
use Rattle.std.proofs.lemmas.Bool.{and_from}
use Rattle.std.proofs.lemmas.List.Elements.{All-weaker}
use Rattle.frac128.specs.Limit.{limit}
use Rattle.lp_model.specs.declared.members.Member.{Member}
use Rattle.lp_model.specs.Program.{Program}
use Rattle.lp_model.specs.Members.{has, is_same}
use Rattle.lp_model.specs.MemberSets.{SetValue, active_set}
use Rattle.lp_model.specs.Satisfaction.{values_at, IsPart, Satisfies}
use Rattle.lp_model.proofs.Sets.{has_of_contains, same_self}
use Rattle.certs.specs.declared.evidence.Checked.TheVariants.{Wide}
use Rattle.certs.specs.declared.evidence.Node.{Node}
use Rattle.certs.specs.declared.evidence.Point.{Point}
use Rattle.certs.specs.declared.evidence.Proof.{Proof}
use Rattle.certs.specs.Named.{used_set}
use Rattle.certs.specs.Proof.{preorder, IsProof}
use Rattle.certs.proofs.Refused.{point_no_law}
use Rattle.branch_proof.specs.declared.checks.Judged.{Judged}
use Rattle.branch_proof.specs.Walk.{judgement}
use Rattle.branch_proof.proofs.Forests.{IsNeverNo, walk-never_no}
use Rattle.cert_check.specs.Trials.{is_use_of, judged_trials, node_line, paired_trials, point_trial, proof_members, proof_trials, refuted_trials}
use Rattle.iis_run.proofs.Unfailed.{IsUnfailed, AreUnfailed, nothing, alone, joined, paired_unfailed}
use Rattle.iis_run.proofs.Used.{used_active}
use Rattle.analysis.proofs.Refuting.{used_within}

-- ---- points
pub point_unfailed : (model : Program) (set : List Member) (n : ℕ) (p : Point) → Satisfies model set (values_at p.values) → IsUnfailed (point_trial model set n p)
point_unfailed model set n p h = point_no_law limit model set (values_at p.values) h

-- ---- proofs
judged_unfailed : (n : ℕ) (nodes : List Node) (judged : Judged) → IsNeverNo judged → AreUnfailed (judged_trials n nodes judged)
judged_unfailed n nodes Judged.Yes h = nothing
judged_unfailed n nodes (Judged.No k) h = absurd (h k refl)
judged_unfailed n nodes (Judged.Wide k o) h = alone (node_line n nodes k) (Wide o) (λ e. cc)

-- no node of a proof is judged to fail
never_no : (model : Program) (set : List Member) (nodes : List Node) → IsProof model set nodes → IsNeverNo (judgement model set nodes)
never_no model set nodes p =
    subst (λ (l : List Node). IsNeverNo (judgement model set l)) (append-nil (preorder p.tree) ∙ p.listed) (walk-never_no model set p.tree 0 [] [] [] p.proves (λ k m e. cc))

pub proof_unfailed : (model : Program) (set : List Member) (n : ℕ) (proof : Proof) → IsProof model set proof.nodes → AreUnfailed (proof_trials model set n proof)
proof_unfailed model set n proof p = judged_unfailed n proof.nodes (judgement model set proof.nodes) (never_no model set proof.nodes p)

-- ---- printed members with a proof
-- and where they are of other members too, they are these that the proof uses, and the proof shows that no point satisfies them
pub refuted_unfailed : (model : Program) (among : List Member) (n : ℕ) (printed : SetValue) (proof : Proof) → IsPart printed.members among → printed ≡ used_set (active_set model) proof.nodes → IsProof model printed.members proof.nodes
    → AreUnfailed (refuted_trials model among n printed proof)
refuted_unfailed model among n printed proof part is p =
    let line = n + (3 + length printed.members) in
    let used : printed.members ≡ proof_members model proof =
    ap (λ (s : SetValue). s.members) is ∙ sym (used_active model printed.members proof.nodes (used_within model printed proof.nodes is) p) in
    let itself : AreUnfailed (paired_trials (is_use_of among) (n + 2) printed.members printed.members) =
    paired_unfailed (is_use_of among) (n + 2) printed.members
    (All-weaker (Contains among) (λ m. is_use_of among m m ≡ true) (λ m c. and_from (has among m) (is_same m m) (has_of_contains among m c) (same_self m)) printed.members part) in
    joined (paired_trials (is_use_of among) (n + 2) printed.members (proof_members model proof)) (proof_trials model printed.members line proof)
    (subst (λ (l : List Member). AreUnfailed (paired_trials (is_use_of among) (n + 2) printed.members l)) used itself) (proof_unfailed model printed.members line proof p)
