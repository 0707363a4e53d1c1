-- Reference trees of sets with marks: the nodes in preorder, each by the run of the set's plain system on its path.
use Rattle.std.specs.Prelude.{◌≡◌, ℕ, zero, suc, ℤ, pos, ◌+ℤ◌, ◌==◌, Bool, false, ◌&&◌, not, List, [], ◌∷◌, ◌++◌, length, find, Option, Some, None}
use Rattle.std.specs.List.{list_any}
use Rattle.rational.specs.Rational.{ℚ, floor}
use Rattle.lp_model.specs.declared.members.Member.{Member}
use Rattle.lp_model.specs.declared.members.Member.TheVariants.{Whole}
use Rattle.lp_model.specs.Program.{Program}
use Rattle.lp_model.specs.Members.{exists, has, is_mark}
use Rattle.lp_model.specs.Satisfaction.{values_at}
use Rattle.frac128.specs.declared.Wide.{Wide as Operation}
use Rattle.certs.specs.declared.evidence.Branch.{Branch}
use Rattle.certs.specs.declared.evidence.Node.{Node}
use Rattle.certs.specs.declared.evidence.Node.TheVariants.{Split, Leaf}
use Rattle.certs.specs.Ended.{numbers_from}
use Rattle.certs.specs.Plain.{plain_system}
use Rattle.certs.specs.Proof.{at_most, at_least}
use Rattle.certs.specs.Runs.End.{TooWide as RunTooWide, Spent as RunSpent}
use Rattle.certs.specs.Solves.{SettlesAt, IsPlainCut, RunEnds}

-- ---- marks
-- whether a set has a mark
abbrev pub has_mark : List Member → Bool
has_mark set = list_any is_mark set

-- whether the mark of a column is one of the program and of the set
abbrev pub mark_test : Program → List Member → ℕ → Bool
mark_test model set j = exists model (Whole j) && has set (Whole j)

-- whether a column has such a mark, and its value is not whole
abbrev pub is_broken : Program → List Member → List ℚ → ℕ → Bool
is_broken model set values j = mark_test model set j && not ((values_at values j).den == 1)

-- the least column that does
abbrev pub first_broken : Program → List Member → List ℚ → Option ℕ
first_broken model set values = find (is_broken model set values) (numbers_from 0 (length model.columns))

-- ---- nodes
-- The run of the node settles. It is split at the least column whose mark its point breaks, at the floor of that column's value.
pub record IsSplitNode (model : Program) (set : List Member) (pivots : ℕ) (path : List Branch) (j : ℕ) (k : ℤ) : Type 0 where
  pub values : List ℚ
  pub settles : SettlesAt (plain_system model set path false) pivots values
  pub least : first_broken model set values ≡ Some j
  pub at : k ≡ floor (values_at values j)

-- The run of the node settles, and its point breaks no mark.
pub record IsFoundNode (model : Program) (set : List Member) (pivots : ℕ) (path : List Branch) (values : List ℚ) : Type 0 where
  pub settles : SettlesAt (plain_system model set path false) pivots values
  pub whole : first_broken model set values ≡ None

-- a node by the run on its path: a split, or the combination that the run gives
abbrev pub IsTreeNode : Program → List Member → ℕ → List Branch → Node → Type 0
IsTreeNode model set pivots path (Split j k) = IsSplitNode model set pivots path j k
IsTreeNode model set pivots path (Leaf combo) = IsPlainCut model set path pivots combo.shares

-- the paths of a node's children, the lower child first
abbrev pub child_paths : List Branch → Node → List (List Branch)
child_paths path (Split j k) = (path ++ at_most j k ∷ []) ∷ (path ++ at_least j (k +ℤ pos 1) ∷ []) ∷ []
child_paths path (Leaf combo) = []

-- ---- trees
-- How a tree ends: a node's point breaks no mark; no node is left to take; the run of the node on a path is too wide in a turn, or has no pivot left; or a node is left to take, and no more may be.
pub data TreeEnd : Type 0 where
  Found : List ℚ → TreeEnd
  Closed : TreeEnd
  TooWide : List Branch → ℕ → Operation → TreeEnd
  OutOfPivots : List Branch → TreeEnd
  OutOfNodes : TreeEnd

-- the tree ends so at the node on a path, by its run
abbrev pub EndsAtNode : Program → List Member → ℕ → List Branch → TreeEnd → Type 0
EndsAtNode model set pivots path (TreeEnd.Found values) = IsFoundNode model set pivots path values
EndsAtNode model set pivots path TreeEnd.Closed = ⊥
EndsAtNode model set pivots path (TreeEnd.TooWide on step operation) = (on ≡ path) × RunEnds (plain_system model set path false) pivots (RunTooWide step operation)
EndsAtNode model set pivots path (TreeEnd.OutOfPivots on) = (on ≡ path) × RunEnds (plain_system model set path false) pivots RunSpent
EndsAtNode model set pivots path TreeEnd.OutOfNodes = ⊥

-- it ends so where these are the paths of the nodes that are left to take, of which so many may be
abbrev pub TreeEndsBy : Program → List Member → ℕ → ℕ → List (List Branch) → TreeEnd → Type 0
TreeEndsBy model set pivots most [] end = end ≡ TreeEnd.Closed
TreeEndsBy model set pivots zero (path ∷ paths) end = end ≡ TreeEnd.OutOfNodes
TreeEndsBy model set pivots (suc most) (path ∷ paths) end = EndsAtNode model set pivots path end

-- These nodes are taken one after another, each on the first of the paths that are left; those of its children come in the place of its own. Then the tree ends so.
abbrev pub TreeGoesOn : Program → List Member → ℕ → ℕ → List (List Branch) → List Node → TreeEnd → Type 0
TreeGoesOn model set pivots most paths [] end = TreeEndsBy model set pivots most paths end
TreeGoesOn model set pivots most [] (node ∷ nodes) end = ⊥
TreeGoesOn model set pivots zero (path ∷ paths) (node ∷ nodes) end = ⊥
TreeGoesOn model set pivots (suc most) (path ∷ paths) (node ∷ nodes) end =
    IsTreeNode model set pivots path node × TreeGoesOn model set pivots most (child_paths path node ++ paths) nodes end

-- The tree of the set, with so many pivots in each run and so many nodes: from the root on, whose path has no branch, these nodes are taken, and then it ends so.
abbrev pub IsTree : Program → List Member → ℕ → ℕ → List Node → TreeEnd → Type 0
IsTree model set pivots most nodes end = TreeGoesOn model set pivots most ([] ∷ []) nodes end

-- the tree of the set ends so, whatever its nodes are
pub record HasTree (model : Program) (set : List Member) (pivots most : ℕ) (end : TreeEnd) : Type 0 where
  pub nodes : List Node
  pub tree : IsTree model set pivots most nodes end
