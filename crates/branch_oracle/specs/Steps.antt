-- What is made of the run of a node.
use Rattle.std.specs.Prelude.{ℕ, List, length, Result, Ok, Err}
use Rattle.lp_model.specs.declared.members.Member.{Member}
use Rattle.lp_model.specs.Program.{Program}
use Rattle.certs.specs.declared.evidence.Branch.{Branch}
use Rattle.certs.specs.declared.evidence.Node.{Node}
use Rattle.certs.specs.declared.solving.Stop.{Stop}
use Rattle.certs.specs.Tales.{IsNodeEnd}
use Rattle.certs.specs.Trees.{IsFoundNode, IsTreeNode}
use Rattle.branch_proof.specs.Pending.{IsKnown}
use Rattle.certs.specs.Proof.{IsFittingNode}
use Rattle.branch_oracle.specs.declared.nodes.Step.{Step}
use Rattle.branch_oracle.specs.declared.nodes.Step.TheVariants.{Found, Further}

-- a node of the tree on its path, at which the tree goes on; its column is one of the program, and its number fits
pub record IsFurtherNode (model : Program) (set : List Member) (pivots : ℕ) (path : List Branch) (node : Node) : Type 0 where
  pub is : IsTreeNode model set pivots path node
  pub known : IsKnown (length model.columns) node
  pub fitting : IsFittingNode node

-- the node's point breaks no mark; the tree goes on at the node; or its run stops
abbrev pub IsStep : Program → List Member → ℕ → List Branch → Result Step Stop → Type 0
IsStep model set pivots path (Ok (Found point)) = IsFoundNode model set pivots path point.values
IsStep model set pivots path (Ok (Further node)) = IsFurtherNode model set pivots path node
IsStep model set pivots path (Err stop) = IsNodeEnd model set path pivots (Err stop)
