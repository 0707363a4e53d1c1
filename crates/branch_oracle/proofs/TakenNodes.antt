-- How a tree goes on from the nodes that were taken.
use Rattle.std.proofs.Common.{◌≡◌, ℕ, zero, suc, refl, sym, subst, ◌+◌, ◌-◌, ◌<◌, List, [], ◌∷◌, ◌++◌, append_assoc, append-nil, arith, Err, length}
use Rattle.std.specs.Prelude.{All, Result}
use Rattle.lp_model.specs.declared.members.Member.{Member}
use Rattle.lp_model.specs.Program.{Program}
use Rattle.certs.specs.declared.evidence.Branch.{Branch}
use Rattle.certs.specs.declared.evidence.Node.{Node}
use Rattle.certs.specs.declared.solving.Site.{Site}
use Rattle.certs.specs.declared.solving.Stop.{Stop}
use Rattle.certs.specs.declared.solving.Stop.TheVariants.{Wide, Pivots, Nodes, Large, Memory}
use Rattle.certs.specs.Answers.{IsTreeSite, IsTreeVerdict}
use Rattle.certs.specs.Combination.{IsFitting}
use Rattle.certs.specs.Sites.{Budgets}
use Rattle.certs.specs.Tales.{IsNodeEnd, IsNodeSite}
use Rattle.certs.specs.Trees.{TreeEnd, HasTree, IsTree, IsTreeNode, TreeGoesOn, EndsAtNode, child_paths}
use Rattle.branch_oracle.specs.declared.nodes.Step.{Step}
use Rattle.branch_oracle.specs.Steps.{IsStep}

-- of so many, one that is left
pub one_left : (n i : ℕ) → i < n → n - i ≡ suc (n - (i + 1))
one_left n i l = omega arith

-- by the same pivots
pub moved_step : (model : Program) (set : List Member) (p q : ℕ) (path : List Branch) (result : Result Step Stop) → p ≡ q → IsStep model set p path result → IsStep model set q path result
moved_step model set p q path result e h = subst (λ (n : ℕ). IsStep model set n path result) e h

module _ (model : Program) (set : List Member) (budgets : Budgets) where
  -- these nodes were taken: what goes on from these paths with so many more goes on behind them
  abbrev pub AreTaken : List Node → ℕ → List (List Branch) → Type 0
  AreTaken done most paths = (rest : List Node) (end : TreeEnd) → TreeGoesOn model set budgets.pivots most paths rest end → IsTree model set budgets.pivots budgets.nodes (done ++ rest) end

  -- at the root none was
  pub start_taken : (most : ℕ) → most ≡ budgets.nodes → AreTaken [] most ([] ∷ [])
  start_taken most e rest end goes = subst (λ (n : ℕ). IsTree model set budgets.pivots n rest end) e goes

  -- one more
  pub one_taken : (done : List Node) (most : ℕ) (path : List Branch) (paths left : List (List Branch)) (node : Node) → IsTreeNode model set budgets.pivots path node → child_paths path node ++ paths ≡ left
      → AreTaken done (suc most) (path ∷ paths) → AreTaken (done ++ node ∷ []) most left
  one_taken done most path paths left node is e before rest end goes =
      subst (λ (l : List Node). IsTree model set budgets.pivots budgets.nodes l end) (sym (append_assoc done (node ∷ []) rest))
      (before (node ∷ rest) end (is, subst (λ (l : List (List Branch)). TreeGoesOn model set budgets.pivots most l rest end) (sym e) goes))

  -- and no path is left
  pub closed_then : (done : List Node) (most : ℕ) → AreTaken done most [] → IsTree model set budgets.pivots budgets.nodes done TreeEnd.Closed
  closed_then done most before = subst (λ (l : List Node). IsTree model set budgets.pivots budgets.nodes l TreeEnd.Closed) (append-nil done) (before [] TreeEnd.Closed refl)

  -- the tree ends at the next node
  pub ends_then : (done : List Node) (most : ℕ) (path : List Branch) (paths : List (List Branch)) (end : TreeEnd) → AreTaken done (suc most) (path ∷ paths) → EndsAtNode model set budgets.pivots path end
      → HasTree model set budgets.pivots budgets.nodes end
  ends_then done most path paths end before h = record { nodes = done ++ []; tree = before [] end h }

  pub out_then : (done : List Node) (path : List Branch) (paths : List (List Branch)) → AreTaken done zero (path ∷ paths) → HasTree model set budgets.pivots budgets.nodes TreeEnd.OutOfNodes
  out_then done path paths before = record { nodes = done ++ []; tree = before [] TreeEnd.OutOfNodes refl }

  -- ---- stops
  -- the site of a node whose path is known and fits
  node_site : (path : List Branch) (site : Site) → All (λ b. b.column < length model.columns) path → All IsFitting path → IsNodeSite model set path site → IsTreeSite model set site
  node_site path site known fits node = record {
    node = subst (λ (p : List Branch). IsNodeSite model set p site) (sym node.path_is) node;
    known = subst (All (λ b. b.column < length model.columns)) (sym node.path_is) known;
    fits = subst (All IsFitting) (sym node.path_is) fits;
  }

  -- the tree stops so where the node's run does
  pub stops_then : (done : List Node) (most : ℕ) (path : List Branch) (paths : List (List Branch)) (stop : Stop) → All (λ b. b.column < length model.columns) path → All IsFitting path → AreTaken done (suc most) (path ∷ paths)
      → IsNodeEnd model set path budgets.pivots (Err stop) → IsTreeVerdict model budgets set (Err stop)
  stops_then done most path paths (Wide site step operation) known fits before h =
      (node_site path site known fits h.0, ends_then done most path paths (TreeEnd.TooWide site.path step operation) before (h.0.path_is, h.1))
  stops_then done most path paths (Pivots site) known fits before h =
      (node_site path site known fits h.0, ends_then done most path paths (TreeEnd.OutOfPivots site.path) before (h.0.path_is, h.1))
  stops_then done most path paths (Nodes site) known fits before h = absurd h
  stops_then done most path paths (Large size) known fits before h = absurd h
  stops_then done most path paths Memory known fits before h = tt
