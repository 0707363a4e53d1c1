-- Trees of one set are one tree.
use Rattle.std.proofs.Common.{◌≡◌, ℕ, zero, suc, refl, sym, ◌∙◌, ap, subst, List, [], ◌∷◌, ◌++◌, inl, inr}
use Rattle.std.specs.Prelude.{◌⊎◌}
use Rattle.lp_model.specs.declared.members.Member.{Member}
use Rattle.lp_model.specs.Program.{Program}
use Rattle.certs.specs.declared.evidence.Branch.{Branch}
use Rattle.certs.specs.declared.evidence.Node.{Node}
use Rattle.certs.specs.declared.solving.Stop.TheVariants.{Wide, Pivots, Nodes, Large, Memory}
use Rattle.certs.specs.declared.solving.Verdict.TheVariants.{Feasible, Infeasible}
use Rattle.certs.specs.Trees.{TreeEnd, TreeGoesOn, child_paths}
use Rattle.branch_proof.specs.Ends.{OneTreeEndLaw, StopLaw, VerdictLaw, is_stopped}
use Rattle.branch_proof.proofs.Outcomes.{end_follows, node_follows, one_follows}

same_node : (a b : Node) → ◌≡◌ {A = Node ⊎ TreeEnd} (inl a) (inl b) → a ≡ b
same_node a b e = cc

same_end : (a b : TreeEnd) → ◌≡◌ {A = Node ⊎ TreeEnd} (inr a) (inr b) → a ≡ b
same_end a b e = cc

node_no_end : {P : Type 0} (a : Node) (b : TreeEnd) → ◌≡◌ {A = Node ⊎ TreeEnd} (inl a) (inr b) → P
node_no_end a b e = absurd (let impossible : ⊥ = cc in impossible)

module _ (model : Program) (set : List Member) (pivots : ℕ) where
  go_alike : (most : ℕ) (paths : List (List Branch)) (nodes other : List Node) (end other_end : TreeEnd) → TreeGoesOn model set pivots most paths nodes end → TreeGoesOn model set pivots most paths other other_end
      → (nodes ≡ other) × (end ≡ other_end)
  go_alike most [] [] [] end other_end h k = (refl, h ∙ sym k)
  go_alike most [] [] (n ∷ other) end other_end h k = absurd k
  go_alike most [] (m ∷ nodes) other end other_end h k = absurd h
  go_alike zero (path ∷ paths) [] [] end other_end h k = (refl, h ∙ sym k)
  go_alike zero (path ∷ paths) [] (n ∷ other) end other_end h k = absurd k
  go_alike zero (path ∷ paths) (m ∷ nodes) other end other_end h k = absurd h
  go_alike (suc most) (path ∷ paths) [] [] end other_end h k =
      (refl, same_end end other_end (one_follows model set pivots path (inr end) (inr other_end) (end_follows model set pivots path end h) (end_follows model set pivots path other_end k)))
  go_alike (suc most) (path ∷ paths) [] (n ∷ other) end other_end h k =
      node_no_end n end (one_follows model set pivots path (inl n) (inr end) (node_follows model set pivots path n k.0) (end_follows model set pivots path end h))
  go_alike (suc most) (path ∷ paths) (m ∷ nodes) [] end other_end h k =
      node_no_end m other_end (one_follows model set pivots path (inl m) (inr other_end) (node_follows model set pivots path m h.0) (end_follows model set pivots path other_end k))
  go_alike (suc most) (path ∷ paths) (m ∷ nodes) (n ∷ other) end other_end h k =
      let first : m ≡ n = same_node m n (one_follows model set pivots path (inl m) (inl n) (node_follows model set pivots path m h.0) (node_follows model set pivots path n k.0)) in
      let rest = go_alike most (child_paths path n ++ paths) nodes other end other_end (subst (λ (x : Node). TreeGoesOn model set pivots most (child_paths path x ++ paths) nodes end) first h.1) k.1 in
      (ap (λ (x : Node). x ∷ nodes) first ∙ ap (λ (l : List Node). n ∷ l) rest.0, rest.1)

pub one_tree_end_law : OneTreeEndLaw
one_tree_end_law model set pivots most nodes other end other_end h k = go_alike model set pivots most ([] ∷ []) nodes other end other_end h k

pub verdict_law : VerdictLaw
verdict_law model budgets set (Feasible point) h end tree =
    ap is_stopped (one_tree_end_law model set budgets.pivots budgets.nodes tree.nodes h.ends.nodes end (TreeEnd.Found point.values) tree.tree h.ends.tree).1
verdict_law model budgets set (Infeasible proof) h end tree =
    ap is_stopped (one_tree_end_law model set budgets.pivots budgets.nodes tree.nodes proof.nodes end TreeEnd.Closed tree.tree h.ends.0).1

pub stop_law : StopLaw
stop_law model budgets set (Wide site step operation) memory h end tree =
    ap is_stopped (one_tree_end_law model set budgets.pivots budgets.nodes tree.nodes h.ends.1.nodes end (TreeEnd.TooWide site.path step operation) tree.tree h.ends.1.tree).1
stop_law model budgets set (Pivots site) memory h end tree =
    ap is_stopped (one_tree_end_law model set budgets.pivots budgets.nodes tree.nodes h.ends.1.nodes end (TreeEnd.OutOfPivots site.path) tree.tree h.ends.1.tree).1
stop_law model budgets set (Nodes site) memory h end tree =
    ap is_stopped (one_tree_end_law model set budgets.pivots budgets.nodes tree.nodes h.ends.1.nodes end TreeEnd.OutOfNodes tree.tree h.ends.1.tree).1
stop_law model budgets set (Large size) memory h end tree = absurd h.ends
stop_law model budgets set Memory memory h end tree = absurd (memory refl)
