-- A walk over nodes says yes exactly where they are those of narrow proofs, one for each path, and never says no of proofs.
use Rattle.std.proofs.Common.{◌≡◌, ◌<◌, ◌+◌, ℕ, refl, ap, sym, ◌∙◌, subst, Bool, cond, List, [], ◌∷◌, ◌++◌, append_assoc, append-nil, length, flat_map}
use Rattle.std.specs.Prelude.{All}
use Rattle.std.specs.List.{AllZip}
use Rattle.std.proofs.lemmas.List.Elements.{All-head, All-tail, All-cons, All-push}
use lib.IntN.{ℤ, pos, ◌+ℤ◌}
use Rattle.lp_model.specs.declared.members.Member.{Member}
use Rattle.lp_model.specs.Program.{Program, IsWellFormed}
use Rattle.frac128.specs.Limit.{limit}
use Rattle.certs.specs.declared.evidence.Branch.{Branch}
use Rattle.certs.specs.declared.evidence.Checked.{Checked}
use Rattle.certs.specs.declared.evidence.Checked.TheVariants.{Yes as Passes, No as Fails, Wide as TooWide}
use Rattle.certs.specs.declared.evidence.Combo.{Combo}
use Rattle.certs.specs.declared.evidence.Node.{Node}
use Rattle.certs.specs.declared.evidence.Node.TheVariants.{Split, Leaf}
use Rattle.certs.specs.Checks.{outcome, combination_steps}
use Rattle.certs.specs.Proof.{Tree, Tip, Fork, preorder, at_most, at_least, IsTreeProof}
use Rattle.certs.proofs.Passed.{combination_check_law}
use Rattle.certs.proofs.Refused.{combination_no_law}
use Rattle.branch_proof.specs.declared.checks.Judged.{Judged}
use Rattle.branch_proof.specs.declared.checks.Judged.TheVariants.{Yes, No}
use Rattle.certs.specs.Trees.{mark_test}
use Rattle.branch_proof.specs.Walk.{unless_failed, walk}
use Rattle.branch_proof.specs.Narrow.{IsNarrowTree}
use Rattle.branch_proof.specs.Pending.{AreKnown}
use Rattle.branch_proof.proofs.Nodes.{split_yes, marked_by, mark_passes, mark_known, narrow_by, leaf_passes}

-- where the answer is yes, the node passes, and so does the rest
passed : (n : ℕ) (c : Checked) (rest : Judged) → unless_failed n c rest ≡ Yes → (c ≡ Passes) × (rest ≡ Yes)
passed n Passes rest e = (refl, e)
passed n Fails rest e = absurd (cc)
passed n (TooWide o) rest e = absurd (cc)

-- the answer is not `No`, whatever the number
abbrev pub IsNeverNo : Judged → Type 0
IsNeverNo judged = (m : ℕ) → judged ≡ No m → ⊥

passes_on : (n : ℕ) (c : Checked) (rest : Judged) → (c ≡ Fails → ⊥) → IsNeverNo rest → IsNeverNo (unless_failed n c rest)
passes_on n Passes rest h r = r
passes_on n Fails rest h r = absurd (h refl)
passes_on n (TooWide o) rest h r = λ m e. cc

-- ---- trees, one for each path
module _ (Is : List Branch → Tree → Type 0) where
  -- the nodes are those of such trees
  pub record AreForest (paths : List (List Branch)) (nodes : List Node) : Type 0 where
    pub trees : List Tree
    pub listed : flat_map preorder trees ≡ nodes
    pub taken : AllZip Is paths trees

  pub no_trees : AreForest [] []
  no_trees = record { trees = []; listed = refl; taken = tt }

  -- one leaf more
  pub tip : (path : List Branch) (combo : Combo) (paths : List (List Branch)) (nodes : List Node) → Is path (Tip combo.shares) → AreForest paths nodes → AreForest (path ∷ paths) (Leaf combo ∷ nodes)
  tip path combo paths nodes is rest = record {
    trees = Tip combo.shares ∷ rest.trees;
    listed = ap (λ (l : List Node). Leaf combo ∷ l) rest.listed;
    taken = (is, rest.taken);
  }

  -- the trees of the two children make one
  pub fork : (j : ℕ) (k : ℤ) (path lower upper : List Branch) (paths : List (List Branch)) (nodes : List Node) → ((t u : Tree) → Is lower t → Is upper u → Is path (Fork j k t u))
      → AreForest (lower ∷ upper ∷ paths) nodes → AreForest (path ∷ paths) (Split j k ∷ nodes)
  fork j k path lower upper paths nodes both rest = by rest.trees rest.taken rest.listed
    where
      by : (trees : List Tree) → AllZip Is (lower ∷ upper ∷ paths) trees → flat_map preorder trees ≡ nodes → AreForest (path ∷ paths) (Split j k ∷ nodes)
      by [] z e = absurd z
      by (t ∷ []) z e = absurd z.1
      by (t ∷ (u ∷ trees)) z e = record {
        trees = Fork j k t u ∷ trees;
        listed = ap (λ (l : List Node). Split j k ∷ l) (append_assoc (preorder t) (preorder u) (flat_map preorder trees) ∙ e);
        taken = (both t u z.0 z.1.0, z.1.1);
      }

  -- those of one path are one tree
  pub one_tree : (path : List Branch) (nodes : List Node) → AreForest (path ∷ []) nodes → (t : Tree) × ((preorder t ≡ nodes) × Is path t)
  one_tree path nodes forest = by forest.trees forest.taken forest.listed
    where
      by : (trees : List Tree) → AllZip Is (path ∷ []) trees → flat_map preorder trees ≡ nodes → (t : Tree) × ((preorder t ≡ nodes) × Is path t)
      by [] z e = absurd z
      by (t ∷ []) z e = (t, (sym (append-nil (preorder t)) ∙ e, z.0))
      by (t ∷ (u ∷ trees)) z e = absurd z.1

-- a branch on such a column more
pub known_push : (n : ℕ) (path : List Branch) (b : Branch) → AreKnown n path → b.column < n → AreKnown n (path ++ b ∷ [])
known_push n path b h l = All-push (λ (b : Branch). b.column < n) path b h l

module _ (model : Program) (set : List Member) where
  -- the tree is a proof on the path, and no sum of it is too wide
  abbrev pub IsTaken : List Branch → Tree → Type 0
  IsTaken path t = IsTreeProof model set path t × IsNarrowTree model set path t

  -- where the answer is yes, there are such trees
  pub forest_of : (n : ℕ) (paths : List (List Branch)) (nodes : List Node) → IsWellFormed model → All (AreKnown (length model.columns)) paths → walk model set n paths nodes ≡ Yes → AreForest IsTaken paths nodes
  forest_of n [] [] f h e = no_trees IsTaken
  forest_of n [] (node ∷ nodes) f h e = absurd (cc)
  forest_of n (path ∷ paths) [] f h e = absurd (cc)
  forest_of n (path ∷ paths) (Split j k ∷ nodes) f h e =
      let lower : List Branch = path ++ at_most j k ∷ [] in
      let upper : List Branch = path ++ at_least j (k +ℤ pos 1) ∷ [] in
      let both = passed n (cond (mark_test model set j) Passes Fails) (walk model set (n + 1) (lower ∷ upper ∷ paths) nodes) e in
      let marked = marked_by model set j (split_yes (mark_test model set j) both.0) in
      let on = mark_known model set j marked in
      let Known : List Branch → Type 0 = AreKnown (length model.columns) in
      let first : Known path = All-head Known path paths h in
      let side = λ (b : Branch) (l : b.column < length model.columns). known_push (length model.columns) path b first l in
      let rest = forest_of (n + 1) (lower ∷ upper ∷ paths) nodes f
      (All-cons Known lower (upper ∷ paths) (side (at_most j k) on) (All-cons Known upper paths (side (at_least j (k +ℤ pos 1)) on) (All-tail Known path paths h))) both.1 in
      fork IsTaken j k path lower upper paths nodes (λ t u p q. ((marked, p.0, q.0), (p.1, q.1))) rest
  forest_of n (path ∷ paths) (Leaf combo ∷ nodes) f h e =
      let Known : List Branch → Type 0 = AreKnown (length model.columns) in
      let both = passed n (outcome (combination_steps model set path combo.shares)) (walk model set (n + 1) paths nodes) e in
      tip IsTaken path combo paths nodes
      (combination_check_law limit model set path combo.shares f (All-head Known path paths h) both.0, narrow_by (combination_steps model set path combo.shares) both.0)
      (forest_of (n + 1) paths nodes f (All-tail Known path paths h) both.1)

  -- ---- and back: the nodes of one tree, and others behind them
  pub walk-taken : (t : Tree) (n : ℕ) (path : List Branch) (paths : List (List Branch)) (nodes : List Node) → IsTreeProof model set path t → IsNarrowTree model set path t
      → ((k : ℕ) → walk model set k paths nodes ≡ Yes) → walk model set n (path ∷ paths) (preorder t ++ nodes) ≡ Yes
  walk-taken (Tip shares) n path paths nodes p w h =
      ap (λ (c : Checked). unless_failed n c (walk model set (n + 1) paths nodes)) (leaf_passes model set path shares p w) ∙ h (n + 1)
  walk-taken (Fork j k t u) n path paths nodes p w h =
      let lower : List Branch = path ++ at_most j k ∷ [] in
      let upper : List Branch = path ++ at_least j (k +ℤ pos 1) ∷ [] in
      ap (λ (b : Bool). unless_failed n (cond b Passes Fails) (walk model set (n + 1) (lower ∷ upper ∷ paths) ((preorder t ++ preorder u) ++ nodes))) (mark_passes model set j p.0)
      ∙ (ap (λ (l : List Node). walk model set (n + 1) (lower ∷ upper ∷ paths) l) (append_assoc (preorder t) (preorder u) nodes)
      ∙ walk-taken t (n + 1) lower (upper ∷ paths) (preorder u ++ nodes) p.1 w.0 (λ m. walk-taken u m upper paths nodes p.2 w.1 h))

  -- and where their sums may be too wide, the answer is still not `No`
  pub walk-never_no : (t : Tree) (n : ℕ) (path : List Branch) (paths : List (List Branch)) (nodes : List Node) → IsTreeProof model set path t → ((k : ℕ) → IsNeverNo (walk model set k paths nodes))
      → IsNeverNo (walk model set n (path ∷ paths) (preorder t ++ nodes))
  walk-never_no (Tip shares) n path paths nodes p h =
      passes_on n (outcome (combination_steps model set path shares)) (walk model set (n + 1) paths nodes) (combination_no_law limit model set path shares p) (h (n + 1))
  walk-never_no (Fork j k t u) n path paths nodes p h =
      let lower : List Branch = path ++ at_most j k ∷ [] in
      let upper : List Branch = path ++ at_least j (k +ℤ pos 1) ∷ [] in
      subst (λ (b : Bool). IsNeverNo (unless_failed n (cond b Passes Fails) (walk model set (n + 1) (lower ∷ upper ∷ paths) ((preorder t ++ preorder u) ++ nodes)))) (sym (mark_passes model set j p.0))
      (subst (λ (l : List Node). IsNeverNo (walk model set (n + 1) (lower ∷ upper ∷ paths) l)) (sym (append_assoc (preorder t) (preorder u) nodes))
      (walk-never_no t (n + 1) lower (upper ∷ paths) (preorder u ++ nodes) p.1 (λ m. walk-never_no u m upper paths nodes p.2 h)))
