-- Answers by reference trees: the laws of an oracle that gives them.
use Rattle.std.proofs.Common.{◌≡◌, ◌<◌, ℕ, zero, suc, sym, ◌∙◌, subst, Bool, true, false, cond, not, get_or, ◌&&◌, ◌==◌, List, [], ◌∷◌, ◌++◌, length, None, Some, Ok, Err, refl, arith}
use Rattle.std.specs.Prelude.{All, Contains, find}
use Rattle.std.proofs.lemmas.Bool.{and_parts, eqb-true}
use Rattle.std.proofs.lemmas.Option.{none-some}
use Rattle.std.proofs.lemmas.List.Elements.{All-nil, All-cons, All-head, All-tail, All-contains_itself}
use lib.IntN.{pos, ◌+ℤ◌}
use Rattle.rational.specs.Rational.{ℚ, IsWhole}
use Rattle.lp_model.specs.declared.members.Member.{Member}
use Rattle.lp_model.specs.declared.members.Member.TheVariants.{RowLo, RowUp, Lower, Upper, Whole}
use Rattle.lp_model.specs.Program.{Program, IsWellFormed}
use Rattle.lp_model.specs.Members.{is_mark}
use Rattle.lp_model.specs.Satisfaction.{Holds, values_at}
use Rattle.certs.specs.declared.evidence.Branch.{Branch}
use Rattle.certs.specs.declared.evidence.Node.{Node}
use Rattle.certs.specs.declared.evidence.Node.TheVariants.{Split, Leaf}
use Rattle.certs.specs.declared.evidence.Point.{Point}
use Rattle.certs.specs.declared.evidence.Proof.{Proof}
use Rattle.certs.specs.declared.solving.Stop.{Stop}
use Rattle.certs.specs.declared.solving.Stop.TheVariants.{Wide, Pivots, Nodes, Large, Memory}
use Rattle.certs.specs.declared.solving.Verdict.{Verdict}
use Rattle.certs.specs.declared.solving.Verdict.TheVariants.{Feasible, Infeasible}
use Rattle.certs.specs.Answers.{IsMarkedSet, IsTreeAnswer}
use Rattle.certs.specs.Ended.{numbers_from}
use Rattle.certs.specs.Order.{AreLeavesInOrder, IsNodeInOrder}
use Rattle.certs.specs.Plain.{column_limits}
use Rattle.certs.specs.Proof.{IsMarked, IsTreeProof, IsProof, at_least, at_most}
use Rattle.certs.specs.Sites.{Budgets}
use Rattle.certs.specs.Tales.{IsPointOf, IsSiteWithin, IsVerdict}
use Rattle.certs.specs.Trees.{TreeEnd, TreeGoesOn, IsFoundNode, IsTreeNode, child_paths, first_broken, is_broken, mark_test}
use Rattle.certs.proofs.Choices.{found_is}
use Rattle.certs.proofs.PlainAnswers.{own_site}
use Rattle.certs.proofs.PlainCuts.{plain_cut}
use Rattle.certs.proofs.PlainOrder.{plain_cut_in_order}
use Rattle.certs.proofs.PlainPoints.{plain_point}
use Rattle.certs.proofs.Translated.{length_mapped, length_numbers, number_at}
use Rattle.branch_proof.specs.Pending.{AreKnown}
use Rattle.branch_proof.proofs.Nodes.{marked_by, mark_known, mark_passes}
use Rattle.branch_proof.proofs.Forests.{AreForest, fork, known_push, no_trees, one_tree, tip}

-- ---- marks
-- where none is found none passes
none_at : (p : ℕ → Bool) (xs : List ℕ) → find p xs ≡ None → (k : ℕ) (d : ℕ) → k < length xs → p (get_or xs k d) ≡ false
none_at p [] e k d l = absurd (let m : k < 0 = l in omega arith)
none_at p (x ∷ xs) e k d l = by (λ f i m. none_at p xs f i d m) (p x) refl e k l
  where
    by : (find p xs ≡ None → (i : ℕ) → i < length xs → p (get_or xs i d) ≡ false) → (b : Bool) → p x ≡ b → cond b (Some x) (find p xs) ≡ None → (k : ℕ) → k < length (x ∷ xs) → p (get_or (x ∷ xs) k d) ≡ false
    by rest true t e k l = absurd (none-some x (sym e))
    by rest false t e zero l = t
    by rest false t e (suc k) l = rest e k (omega (arith, l))

module _ (model : Program) (set : List Member) where
  abbrev columns : ℕ
  columns = length model.columns

  -- a mark that is broken is one of the program and of the set, and the value is not whole
  pub broken_parts : (values : List ℚ) (j : ℕ) → first_broken model set values ≡ Some j → (mark_test model set j ≡ true) × (((values_at values j).den == 1) ≡ false)
  broken_parts values j e =
      let found = found_is (is_broken model set values) (λ k. Unit {0}) (numbers_from 0 columns) j (λ k d l. tt) e in
      let both = and_parts (mark_test model set j) (not ((values_at values j).den == 1)) found.1 in
      (both.0, not_true ((values_at values j).den == 1) both.1)
    where
      not_true : (b : Bool) → not b ≡ true → b ≡ false
      not_true true h = sym h
      not_true false h = refl

  -- where none is broken, the value of a column with a mark is whole
  pub whole_at : (values : List ℚ) (j : ℕ) → first_broken model set values ≡ None → mark_test model set j ≡ true → IsWhole (values_at values j)
  whole_at values j none marked =
      let below : j < columns = mark_known model set j (marked_by model set j marked) in
      let count = length_numbers 0 columns in
      let fails = none_at (is_broken model set values) (numbers_from 0 columns) none j 0 (omega (arith, count, below)) in
      let here : is_broken model set values j ≡ false = subst (λ k. is_broken model set values k ≡ false) (number_at 0 columns j 0 below ∙ (omega arith)) fails in
      eqb-true (values_at values j).den 1 (by (mark_test model set j) ((values_at values j).den == 1) marked here)
    where
      by : (a b : Bool) → a ≡ true → (a && not b) ≡ false → b ≡ true
      by a true e h = refl
      by true false e h = sym h
      by false false e h = e

  -- ---- points
  found_holds : (x : List ℚ) → first_broken model set x ≡ None → (m : Member) → Contains set m → (is_mark m ≡ false → Holds model (values_at x) m) → Holds model (values_at x) m
  found_holds x none (RowLo i) c h = h refl
  found_holds x none (RowUp i) c h = h refl
  found_holds x none (Lower j) c h = h refl
  found_holds x none (Upper j) c h = h refl
  found_holds x none (Whole j) c h = λ there. whole_at x j none (mark_passes model set j (record { exists = there; in_set = c }))

  module _ (pivots : ℕ) where
    -- the point of a node where no mark is broken is one of the set
    pub found_point : IsMarkedSet model set → (path : List Branch) (point : Point) → IsFoundNode model set pivots path point.values → IsPointOf model set point
    found_point asked path point found =
        let holds = plain_point model set path pivots point.values asked.formed asked.known found.settles in
        record {
          each_column = found.settles.count ∙ length_mapped (column_limits model set path) columns;
          satisfies = λ k d l. found_holds point.values found.whole (get_or set k d) (All-contains_itself set k d l) (holds k d l);
        }

    -- a tree that finds a point has such a node
    found_node : (most : ℕ) (paths : List (List Branch)) (nodes : List Node) (values : List ℚ) → TreeGoesOn model set pivots most paths nodes (TreeEnd.Found values) → (path : List Branch) × IsFoundNode model set pivots path values
    found_node most [] [] values h = absurd (let e : TreeEnd.Found values ≡ TreeEnd.Closed = h in cc)
    found_node zero (path ∷ paths) [] values h = absurd (let e : TreeEnd.Found values ≡ TreeEnd.OutOfNodes = h in cc)
    found_node (suc most) (path ∷ paths) [] values h = (path, h)
    found_node most [] (node ∷ nodes) values h = absurd h
    found_node zero (path ∷ paths) (node ∷ nodes) values h = absurd h
    found_node (suc most) (path ∷ paths) (node ∷ nodes) values h = found_node most (child_paths path node ++ paths) nodes values h.1

    -- ---- proofs
    -- a closed tree has the nodes of trees that are proofs, one for each path that is left
    closed_forest : (most : ℕ) (paths : List (List Branch)) (nodes : List Node) → IsWellFormed model → All (AreKnown columns) paths → TreeGoesOn model set pivots most paths nodes TreeEnd.Closed
        → AreForest (IsTreeProof model set) paths nodes
    closed_forest most [] [] formed known h = no_trees (IsTreeProof model set)
    closed_forest zero (path ∷ paths) [] formed known h = absurd (let e : TreeEnd.Closed ≡ TreeEnd.OutOfNodes = h in cc)
    closed_forest (suc most) (path ∷ paths) [] formed known h = absurd h
    closed_forest most [] (node ∷ nodes) formed known h = absurd h
    closed_forest zero (path ∷ paths) (node ∷ nodes) formed known h = absurd h
    closed_forest (suc most) (path ∷ paths) (Leaf combo ∷ nodes) formed known h =
        tip (IsTreeProof model set) path combo paths nodes
        (plain_cut model set path pivots combo.shares formed (All-head (AreKnown columns) path paths known) h.0)
        (closed_forest most paths nodes formed (All-tail (AreKnown columns) path paths known) h.1)
    closed_forest (suc most) (path ∷ paths) (Split j k ∷ nodes) formed known h =
        let lower : List Branch = path ++ at_most j k ∷ [] in
        let upper : List Branch = path ++ at_least j (k +ℤ pos 1) ∷ [] in
        let marked : IsMarked model set j = marked_by model set j (broken_parts h.0.values j h.0.least).0 in
        let on : j < columns = mark_known model set j marked in
        let first : AreKnown columns path = All-head (AreKnown columns) path paths known in
        fork (IsTreeProof model set) j k path lower upper paths nodes (λ t u p q. (marked, p, q))
        (closed_forest most (lower ∷ upper ∷ paths) nodes formed
        (All-cons (AreKnown columns) lower (upper ∷ paths) (known_push columns path (at_most j k) first on)
        (All-cons (AreKnown columns) upper paths (known_push columns path (at_least j (k +ℤ pos 1)) first on) (All-tail (AreKnown columns) path paths known))) h.1)

    -- from the root on that is one tree
    pub closed_proof : (most : ℕ) (nodes : List Node) → IsWellFormed model → TreeGoesOn model set pivots most ([] ∷ []) nodes TreeEnd.Closed → IsProof model set nodes
    closed_proof most nodes formed h =
        let root : All (AreKnown columns) ([] ∷ []) = All-cons (AreKnown columns) [] [] (All-nil (λ (b : Branch). b.column < columns)) (All-nil (AreKnown columns)) in
        let (t, (listed, proves)) = one_tree (IsTreeProof model set) [] nodes (closed_forest most ([] ∷ []) nodes formed root h) in
        record { tree = t; listed = listed; proves = proves }

    -- the shares of each leaf stand in order
    pub nodes_in_order : (most : ℕ) (paths : List (List Branch)) (nodes : List Node) (end : TreeEnd) → TreeGoesOn model set pivots most paths nodes end → AreLeavesInOrder nodes
    nodes_in_order most paths [] end h = All-nil IsNodeInOrder
    nodes_in_order most [] (node ∷ nodes) end h = absurd h
    nodes_in_order zero (path ∷ paths) (node ∷ nodes) end h = absurd h
    nodes_in_order (suc most) (path ∷ paths) (node ∷ nodes) end h =
        All-cons IsNodeInOrder node nodes (one path node h.0) (nodes_in_order most (child_paths path node ++ paths) nodes end h.1)
      where
        one : (path : List Branch) (node : Node) → IsTreeNode model set pivots path node → IsNodeInOrder node
        one path (Split j k) h = tt
        one path (Leaf combo) h = plain_cut_in_order model set path pivots combo.shares h

-- ---- answers
pub tree_holds : (model : Program) (budgets : Budgets) (set : List Member) (verdict : Verdict) → IsTreeAnswer model budgets set (Ok verdict) → IsVerdict model set verdict
tree_holds model budgets set (Feasible point) h =
    let (path, found) = found_node model set budgets.pivots budgets.nodes ([] ∷ []) h.ends.nodes point.values h.ends.tree in
    found_point model set budgets.pivots h.asked path point found
tree_holds model budgets set (Infeasible proof) h = closed_proof model set budgets.pivots budgets.nodes proof.nodes h.asked.formed h.ends.0

pub tree_ordered : (model : Program) (budgets : Budgets) (set : List Member) (proof : Proof) → IsTreeAnswer model budgets set (Ok (Infeasible proof)) → AreLeavesInOrder proof.nodes
tree_ordered model budgets set proof h = nodes_in_order model set budgets.pivots budgets.nodes ([] ∷ []) proof.nodes TreeEnd.Closed h.ends.0

pub tree_within : (model : Program) (budgets : Budgets) (set : List Member) (stop : Stop) → IsTreeAnswer model budgets set (Err stop) → IsSiteWithin set stop
tree_within model budgets set (Wide site step operation) h = own_site set site.set.members h.ends.0.node.set_is
tree_within model budgets set (Pivots site) h = own_site set site.set.members h.ends.0.node.set_is
tree_within model budgets set (Nodes site) h = own_site set site.set.members h.ends.0.set_is
tree_within model budgets set (Large size) h = absurd h.ends
tree_within model budgets set Memory h = tt
