-- Proofs by branches: a split of a column with a mark, and a combination at each leaf.
use Rattle.std.specs.Prelude.{◌≡◌, ⊤, ℕ, ℤ, pos, neg_ℤ, ◌+ℤ◌, ◌≤ℤ◌, ◌<ℤ◌, true, false, IsTrue, List, [], ◌∷◌, ◌++◌, Contains}
use Rattle.lp_model.specs.declared.members.Member.{Member}
use Rattle.lp_model.specs.declared.members.Member.TheVariants.{Whole}
use Rattle.lp_model.specs.Program.{Program}
use Rattle.lp_model.specs.Members.{exists}
use Rattle.lp_model.specs.Satisfaction.{IsUnsatisfiable}
use Rattle.frac128.specs.Limit.{limit}
use Rattle.certs.specs.declared.evidence.Branch.{Branch}
use Rattle.certs.specs.declared.evidence.Share.{Share}
use Rattle.certs.specs.declared.evidence.Node.{Node}
use Rattle.certs.specs.declared.evidence.Node.TheVariants.{Split, Leaf}
use Rattle.certs.specs.Combination.{IsCombination}

-- a tree of branches
pub data Tree : Type 0 where
  Tip : List Share → Tree
  Fork : ℕ → ℤ → Tree → Tree → Tree

-- the nodes, each before its children, the lower child first
abbrev pub preorder : Tree → List Node
preorder (Tip shares) = Leaf (record { shares = shares }) ∷ []
preorder (Fork j k lower upper) = Split j k ∷ (preorder lower ++ preorder upper)

-- column j is at most k
abbrev pub at_most : ℕ → ℤ → Branch
at_most j k = record { column = j; upper = true; at = k }

-- column j is at least k
abbrev pub at_least : ℕ → ℤ → Branch
at_least j k = record { column = j; upper = false; at = k }

-- the number of a split stands from -M to M - 1, where M is the greatest part of a fraction
abbrev pub IsFittingNode : Node → Type 0
IsFittingNode (Split j k) = (neg_ℤ (pos limit) ≤ℤ k) × (k <ℤ pos limit)
IsFittingNode (Leaf combo) = ⊤

-- the mark is one of the program and of the set
pub record IsMarked (model : Program) (set : List Member) (j : ℕ) : Type 0 where
  pub exists : IsTrue (exists model (Whole j))
  pub in_set : Contains set (Whole j)

-- A tip is a combination for its path, which is the branches from the root on. A fork is at a column with a mark, and goes on with at most k, and with at least k + 1.
abbrev pub IsTreeProof : Program → List Member → List Branch → Tree → Type 0
IsTreeProof model set path (Tip shares) = IsCombination model set path shares
IsTreeProof model set path (Fork j k lower upper) =
    IsMarked model set j × IsTreeProof model set (path ++ at_most j k ∷ []) lower × IsTreeProof model set (path ++ at_least j (k +ℤ pos 1) ∷ []) upper

-- the nodes are those of one tree that is a proof
pub record IsProof (model : Program) (set : List Member) (nodes : List Node) : Type 0 where
  pub tree : Tree
  pub listed : preorder tree ≡ nodes
  pub proves : IsTreeProof model set [] tree

-- what has a proof is unsatisfiable
abbrev pub ProofLaw : Type 0
ProofLaw = (model : Program) (set : List Member) (nodes : List Node) → IsProof model set nodes → IsUnsatisfiable model set

-- the nodes tell the tree
abbrev pub OneTreeLaw : Type 0
OneTreeLaw = (t u : Tree) → preorder t ≡ preorder u → t ≡ u
