-- Walks over trees whose nodes are not known to be right: what they need so that they can go on.
use Rattle.std.specs.Prelude.{⊤, List, length, All}
use Rattle.lp_model.specs.declared.members.Member.{Member}
use Rattle.lp_model.specs.Program.{Program}
use Rattle.certs.specs.declared.evidence.Branch.{Branch}
use Rattle.certs.specs.declared.evidence.Node.{Node}
use Rattle.certs.specs.declared.evidence.Node.TheVariants.{Split, Leaf}
use Rattle.certs.specs.Proof.{IsFittingNode, IsMarked}
use Rattle.certs.specs.Tales.{IsPointOf}
use Rattle.branch_proof.specs.Pending.{AreKnown, IsKnown, IsTurnable}
use Rattle.quick_answers.specs.declared.trees.Step.{Step}
use Rattle.quick_answers.specs.declared.trees.Step.TheVariants.{Found, Further}

-- a path of branches on columns of the program, which can be turned
pub record IsWalkPath (model : Program) (path : List Branch) : Type 0 where
  pub turnable : All IsTurnable path
  pub known : AreKnown (length model.columns) path

-- the mark of a split is one of the program and of the set
abbrev pub IsMarkedNode : Program → List Member → Node → Type 0
IsMarkedNode model set (Split j k) = IsMarked model set j
IsMarkedNode model set (Leaf combo) = ⊤

-- a leaf, or a split at a column whose mark the program and the set have, and whose number fits
pub record IsWalkNode (model : Program) (set : List Member) (node : Node) : Type 0 where
  pub marked : IsMarkedNode model set node
  pub known : IsKnown (length model.columns) node
  pub fitting : IsFittingNode node

-- a point of the set, or such a node
abbrev pub IsStep : Program → List Member → Step → Type 0
IsStep model set (Found point) = IsPointOf model set point
IsStep model set (Further node) = IsWalkNode model set node
