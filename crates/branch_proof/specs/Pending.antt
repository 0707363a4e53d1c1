-- What one path tells of a walk over a tree: a branch that says at most leads to a lower child, and the upper one is still to come.
use Rattle.std.specs.Prelude.{◌≡◌, ℕ, ◌<◌, pos, ◌+ℤ◌, true, cond, List, [], ◌∷◌, ◌++◌, All, ⊤}
use Rattle.certs.specs.declared.evidence.Branch.{Branch}
use Rattle.certs.specs.declared.evidence.Node.{Node}
use Rattle.certs.specs.declared.evidence.Node.TheVariants.{Split, Leaf}
use Rattle.certs.specs.Combination.{IsFitting}
use Rattle.certs.specs.Proof.{at_least}

-- the branch to the upper child, from that to the lower one
abbrev pub turned : Branch → Branch
turned b = at_least b.column (b.at +ℤ pos 1)

-- the path to the upper child, where a branch behind a front leads to the lower one
abbrev pub turn_at : List Branch → Branch → List (List Branch)
turn_at front b = cond b.upper ((front ++ turned b ∷ []) ∷ []) []

-- of each branch behind a front, from the last on
abbrev pub pending_behind : List Branch → List Branch → List (List Branch)
pending_behind front [] = []
pending_behind front (b ∷ path) = pending_behind (front ++ b ∷ []) path ++ turn_at front b

-- the paths of the subtrees that come after that of a path, the next first
abbrev pub pending : List Branch → List (List Branch)
pending path = pending_behind [] path

-- the number of a branch fits, and that of the branch that it turns to
pub record IsTurnable (b : Branch) : Type 0 where
  pub fitting : IsFitting b
  pub turns : b.upper ≡ true → IsFitting (turned b)

-- the branches are on columns below n
abbrev pub AreKnown : ℕ → List Branch → Type 0
AreKnown n path = All (λ b. b.column < n) path

-- and so is a node, where it is a split
abbrev pub IsKnown : ℕ → Node → Type 0
IsKnown n (Split j k) = j < n
IsKnown n (Leaf combo) = ⊤
