-- The order in which the shares of a combination stand.
use Rattle.std.specs.Prelude.{⊤, Bool, true, false, ◌&&◌, nat_lt, nat_le, IsTrue, List, [], ◌∷◌, All, AllPairs}
use Rattle.std.specs.List.{list_all}
use Rattle.lp_model.specs.Members.{comes_before}
use Rattle.certs.specs.declared.evidence.Source.{Source}
use Rattle.certs.specs.declared.evidence.Source.TheVariants.{Member as Of, Below, Above}
use Rattle.certs.specs.declared.evidence.Share.{Share}
use Rattle.certs.specs.declared.evidence.Node.{Node}
use Rattle.certs.specs.declared.evidence.Node.TheVariants.{Split, Leaf}

-- what stands before what: members in their order, then the branches by column, below before above
abbrev pub source_before : Source → Source → Bool
source_before (Of m) (Of n) = comes_before m n
source_before (Of m) _ = true
source_before _ (Of n) = false
source_before (Below j) (Below k) = nat_lt j k
source_before (Below j) (Above k) = nat_le j k
source_before (Above j) (Below k) = nat_lt j k
source_before (Above j) (Above k) = nat_lt j k

-- each share stands before all after it, so none is there twice
abbrev pub AreSharesInOrder : List Share → Type 0
AreSharesInOrder shares = AllPairs (λ s t. IsTrue (source_before s.source t.source)) shares

-- the same as a test
abbrev pub are_in_order : List Share → Bool
are_in_order [] = true
are_in_order (s ∷ shares) = list_all (λ t. source_before s.source t.source) shares && are_in_order shares

-- the shares of a leaf do
abbrev pub IsNodeInOrder : Node → Type 0
IsNodeInOrder (Split j k) = ⊤
IsNodeInOrder (Leaf combo) = AreSharesInOrder combo.shares

-- and so do those of each leaf of a proof
abbrev pub AreLeavesInOrder : List Node → Type 0
AreLeavesInOrder nodes = All IsNodeInOrder nodes
