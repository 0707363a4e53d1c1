-- A combination, and a tree of them, leaves no point.
use Rattle.std.proofs.Common.{◌≡◌, ap, sym, ◌∙◌, subst, List, [], ◌∷◌, ◌++◌, append_assoc, append-nil, inl, inr}
use Rattle.std.specs.Prelude.{All}
use Rattle.std.proofs.lemmas.List.Elements.{All-weaker, All-contains, All-nil, All-push}
use lib.IntN.{pos, ◌+ℤ◌}
use Rattle.rational.specs.Rational.{zero_ℚ, ◌≤ℚ◌, ◌<ℚ◌}
use Rattle.rational.specs.Linear.{Assignment}
use Rattle.rational.proofs.Order.{le_of_lt_ℚ, le-lt_trans_ℚ, lt_irrefl_ℚ}
use Rattle.rational.proofs.Whole.{whole_cases}
use Rattle.lp_model.specs.declared.members.Member.{Member}
use Rattle.lp_model.specs.declared.members.Member.TheVariants.{Whole}
use Rattle.lp_model.specs.Program.{Program}
use Rattle.lp_model.specs.Satisfaction.{coordinate, Holds, Satisfies}
use Rattle.certs.specs.declared.evidence.Branch.{Branch}
use Rattle.certs.specs.declared.evidence.Share.{Share}
use Rattle.certs.specs.Combination.{KeepsBranch, KeepsPath, right_side, CombinationLaw}
use Rattle.certs.specs.declared.evidence.Node.{Node}
use Rattle.certs.specs.declared.evidence.Combo.{Combo}
use Rattle.certs.specs.Proof.{Tree, Tip, Fork, preorder, at_most, at_least, IsTreeProof, ProofLaw, OneTreeLaw}
use Rattle.certs.proofs.Sides.{left_side-is, left-le-right}

pub positive_nonneg : (shares : List Share) → All (λ s. zero_ℚ <ℚ s.weight) shares → All (λ s. zero_ℚ ≤ℚ s.weight) shares
positive_nonneg shares h = All-weaker (λ (s : Share). zero_ℚ <ℚ s.weight) (λ s. zero_ℚ ≤ℚ s.weight) (λ s l. le_of_lt_ℚ l) shares h

pub combination_law : CombinationLaw
combination_law model set path shares c x h k =
    lt_irrefl_ℚ {a = zero_ℚ}
    (le-lt_trans_ℚ (subst (λ z. z ≤ℚ right_side model path shares) (left_side-is model shares [] c.cancels x)
    (left-le-right model set path shares x h k (positive_nonneg shares c.positive) c.there)) c.contradicts)

tree_law : (model : Program) (set : List Member) (path : List Branch) (t : Tree) → IsTreeProof model set path t → (x : Assignment) → Satisfies model set x → KeepsPath x path → ⊥
tree_law model set path (Tip shares) c x h k = combination_law model set path shares c x h k
tree_law model set path (Fork j n lower upper) c x h k =
    elim (whole_cases (x j) n (All-contains (Holds model x) set (Whole j) h c.0.in_set c.0.exists)) [
      | inl l ↦ tree_law model set (path ++ at_most j n ∷ []) lower c.1 x h (All-push (KeepsBranch x) path (at_most j n) k l)
      | inr l ↦ tree_law model set (path ++ at_least j (n +ℤ pos 1) ∷ []) upper c.2 x h (All-push (KeepsBranch x) path (at_least j (n +ℤ pos 1)) k l)
    ]

pub proof_law : ProofLaw
proof_law model set nodes p s = tree_law model set [] p.tree p.proves (coordinate s.point) s.satisfies (All-nil (KeepsBranch (coordinate s.point)))

-- ---- the nodes tell the tree, whatever follows them
one_tree : (t u : Tree) (v w : List Node) → preorder t ++ v ≡ preorder u ++ w → (t ≡ u) × (v ≡ w)
one_tree (Tip s) (Tip t) v w e =
    let first : Combo = record { shares = s } in
    let second : Combo = record { shares = t } in
    let same : first ≡ second = cc in
    (ap (λ (c : Combo). Tip c.shares) same, (let p : v ≡ w = cc in p))
one_tree (Tip s) (Fork j k l u) v w e = cc
one_tree (Fork j k l u) (Tip s) v w e = cc
one_tree (Fork j k l u) (Fork i n m o) v w e =
    let same_column : j ≡ i = cc in
    let same_number : k ≡ n = cc in
    let rest : (preorder l ++ preorder u) ++ v ≡ (preorder m ++ preorder o) ++ w = cc in
    let left : (l ≡ m) × (preorder u ++ v ≡ preorder o ++ w) = one_tree l m (preorder u ++ v) (preorder o ++ w) (sym (append_assoc (preorder l) (preorder u) v) ∙ rest ∙ append_assoc (preorder m) (preorder o) w) in
    let right : (u ≡ o) × (v ≡ w) = one_tree u o v w left.1 in
    let same_lower : l ≡ m = left.0 in
    let same_upper : u ≡ o = right.0 in
    ((let p : Fork j k l u ≡ Fork i n m o = cc in p), right.1)

pub one_tree_law : OneTreeLaw
one_tree_law t u e = (one_tree t u [] [] (append-nil (preorder t) ∙ e ∙ sym (append-nil (preorder u)))).0
