-- Trees of which no sum is too wide.
use Rattle.std.specs.Prelude.{◌≡◌, pos, ◌+ℤ◌, false, List, [], ◌∷◌, ◌++◌, All}
use Rattle.lp_model.specs.declared.members.Member.{Member}
use Rattle.lp_model.specs.Program.{Program}
use Rattle.frac128.specs.Limit.{limit}
use Rattle.frac128.specs.Width.{is_wide}
use Rattle.certs.specs.declared.evidence.Branch.{Branch}
use Rattle.certs.specs.declared.evidence.Node.{Node}
use Rattle.certs.specs.Checks.{Step, combination_steps}
use Rattle.certs.specs.Proof.{Tree, Tip, Fork, at_most, at_least, IsProof}

-- no operation of the steps is too wide
abbrev pub AreNarrow : List Step → Type 0
AreNarrow steps = All (λ s. All (λ o. is_wide limit o ≡ false) s.operations) steps

-- none that the check of a leaf takes, on its path
abbrev pub IsNarrowTree : Program → List Member → List Branch → Tree → Type 0
IsNarrowTree model set path (Tip shares) = AreNarrow (combination_steps model set path shares)
IsNarrowTree model set path (Fork j k lower upper) =
    IsNarrowTree model set (path ++ at_most j k ∷ []) lower × IsNarrowTree model set (path ++ at_least j (k +ℤ pos 1) ∷ []) upper

-- the nodes are those of one tree that is a proof, and no sum of it is too wide
pub record IsNarrowProof (model : Program) (set : List Member) (nodes : List Node) : Type 0 where
  pub proof : IsProof model set nodes
  pub narrow : IsNarrowTree model set [] proof.tree
