-- What the check of a list of nodes answers: a walk over the list, with the paths of the subtrees that are still to come.
use Rattle.std.specs.Prelude.{ℕ, ◌+◌, ◌<◌, ◌≤◌, cond, List, [], ◌∷◌, ◌++◌, length, ⊤}
use Rattle.lp_model.specs.declared.members.Member.{Member}
use Rattle.lp_model.specs.Program.{Program}
use Rattle.certs.specs.declared.evidence.Branch.{Branch}
use Rattle.certs.specs.declared.evidence.Checked.{Checked}
use Rattle.certs.specs.declared.evidence.Checked.TheVariants.{Yes as Passes, No as Fails, Wide as TooWide}
use Rattle.certs.specs.declared.evidence.Node.{Node}
use Rattle.certs.specs.declared.evidence.Node.TheVariants.{Split, Leaf}
use Rattle.certs.specs.Checks.{outcome, combination_steps}
use Rattle.certs.specs.Trees.{child_paths, mark_test}
use Rattle.branch_proof.specs.declared.checks.Judged.{Judged}
use Rattle.branch_proof.specs.declared.checks.Judged.TheVariants.{Yes, No, Wide}

-- the check of a node on its path: of a split its mark, of a leaf its combination
abbrev pub node_check : Program → List Member → List Branch → Node → Checked
node_check model set path (Split j k) = cond (mark_test model set j) Passes Fails
node_check model set path (Leaf combo) = outcome (combination_steps model set path combo.shares)

-- what follows node n where it passes, and else how it fails
abbrev pub unless_failed : ℕ → Checked → Judged → Judged
unless_failed n Passes rest = rest
unless_failed n Fails rest = No n
unless_failed n (TooWide o) rest = Wide n o

-- The nodes are numbered from n on, and each stands on the first of the paths; those of its children come in the place of its own. The first node that does not pass is the answer. Where a path is left over, or a node, the answer is the number of all nodes.
abbrev pub walk : Program → List Member → ℕ → List (List Branch) → List Node → Judged
walk model set n [] [] = Yes
walk model set n [] (node ∷ nodes) = No (n + length (node ∷ nodes))
walk model set n (path ∷ paths) [] = No n
walk model set n (path ∷ paths) (node ∷ nodes) =
    unless_failed n (node_check model set path node) (walk model set (n + 1) (child_paths path node ++ paths) nodes)

-- all nodes, from the root on, whose path has no branch
abbrev pub judgement : Program → List Member → List Node → Judged
judgement model set nodes = walk model set 0 ([] ∷ []) nodes

-- the number that is answered is that of a node, or with `No` that of all nodes
abbrev pub IsWithin : ℕ → Judged → Type 0
IsWithin count Yes = ⊤
IsWithin count (No n) = n ≤ count
IsWithin count (Wide n o) = n < count
