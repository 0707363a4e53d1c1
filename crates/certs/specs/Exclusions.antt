-- Exclusion trees: the irreducible parts of a set, found one after another, each where some members are out.
use Rattle.std.specs.Prelude.{◌≡◌, ◌≢◌, ℕ, zero, suc, Bool, not, List, [], ◌∷◌, ◌++◌, length, map, flat_map, filter, find, Option, Some, None, All, Contains}
use Rattle.std.specs.List.{list_any}
use Rattle.lp_model.specs.declared.members.Member.{Member}
use Rattle.lp_model.specs.Program.{Program}
use Rattle.lp_model.specs.Members.{has, IsInOrder}
use Rattle.lp_model.specs.Satisfaction.{IsSatisfiable, IsUnsatisfiable, IsIrreducible, IsPart}
use Rattle.certs.specs.Filter.{Late}

-- ---- nodes: each is the list of the members that are out
-- whether a set has none of them
abbrev pub avoids : List Member → List Member → Bool
avoids out k = not (list_any (has k) out)

-- what is left of a set without them
abbrev pub left_in : List Member → List Member → List Member
left_in set out = filter (λ m. not (has out m)) set

-- the first of the sets that has none of them
abbrev pub first_avoiding : List Member → List (List Member) → Option (List Member)
first_avoiding out sets = find (avoids out) sets

-- the nodes below one with a set: one of the set's members more is out, in member order
abbrev pub nodes_below : List Member → List Member → List (List Member)
nodes_below out k = map (λ m. out ++ m ∷ []) k

-- ---- trees
-- So many nodes are taken in preorder, from the root on, where no member is out. These sets are found, in this order; these nodes
-- are rests; and these are left to take, the next one first. A node's set is the first found one that has no member that is out;
-- where there is none, it is what a late filter finds in the set without those members, if that is unsatisfiable; and else the node is a rest.
pub data Lists (model : Program) (set : List Member) : ℕ → List (List Member) → List (List Member) → List (List Member) → Type 0 where
  root : Lists model set 0 [] [] ([] ∷ [])
  again : {n : ℕ} {found rests : List (List Member)} {out k : List Member} {todo : List (List Member)} → Lists model set n found rests (out ∷ todo)
      → first_avoiding out found ≡ Some k → Lists model set (suc n) found rests (nodes_below out k ++ todo)
  finds : {n : ℕ} {found rests : List (List Member)} {out k : List Member} {todo : List (List Member)} → Lists model set n found rests (out ∷ todo)
      → first_avoiding out found ≡ None → IsUnsatisfiable model (left_in set out) → Late model (left_in set out) k → Lists model set (suc n) (found ++ k ∷ []) rests (nodes_below out k ++ todo)
  ends : {n : ℕ} {found rests : List (List Member)} {out : List Member} {todo : List (List Member)} → Lists model set n found rests (out ∷ todo)
      → first_avoiding out found ≡ None → IsSatisfiable model (left_in set out) → Lists model set (suc n) found (rests ++ out ∷ []) todo

-- ---- what a full listing is
-- it stands in the list at one place
pub record StandsOnce {X : Type 0} (x : X) (list : List X) : Type 0 where
  pub front : List X
  pub back : List X
  pub list_is : list ≡ front ++ x ∷ back
  pub not_before : All (λ y. y ≢ x) front
  pub not_behind : All (λ y. y ≢ x) back

-- Each is an irreducible part of the set, in member order; and each such part is one of them, once.
pub record AreAllIrreducible (model : Program) (set : List Member) (found : List (List Member)) : Type 0 where
  pub each : All (λ k. IsPart k set × (IsInOrder k × IsIrreducible model k)) found
  pub once : (k : List Member) → IsPart k set → IsInOrder k → IsIrreducible model k → StandsOnce k found

-- ---- what a list of sets asks for
-- the rests below a node, in preorder, at most so many nodes deep, where its set is the first of these that has no member that is out
abbrev pub rests_under : ℕ → List (List Member) → List Member → List (List Member)
rests_under zero sets out = []
rests_under (suc deep) sets out = elim (first_avoiding out sets) [ None ↦ out ∷ [] | Some k ↦ flat_map (λ m. rests_under deep sets (out ++ m ∷ [])) k ]

-- those of the whole tree: no node has more members out than the set has
abbrev pub rests_of : List Member → List (List Member) → List (List Member)
rests_of set sets = rests_under (suc (length set)) sets []

-- ---- the laws
-- where no node is left to take, the sets found are all
abbrev pub ListingLaw : Type 0
ListingLaw = (model : Program) (set : List Member) (n : ℕ) (found rests : List (List Member)) → IsInOrder set
    → Lists model set n found rests [] → AreAllIrreducible model set found

-- and the rests are those that they ask for, where what is left of the set can be satisfied
abbrev pub ReplayLaw : Type 0
ReplayLaw = (model : Program) (set : List Member) (n : ℕ) (found rests : List (List Member)) → IsInOrder set
    → Lists model set n found rests [] → (rests_of set found ≡ rests) × All (λ out. IsSatisfiable model (left_in set out)) rests

-- where that holds of the rests that any irreducible parts ask for, none is missing among these
abbrev pub RestsLaw : Type 0
RestsLaw = (model : Program) (set : List Member) (sets : List (List Member)) → IsInOrder set
    → All (λ k. IsPart k set × (IsInOrder k × IsIrreducible model k)) sets
    → All (λ out. IsSatisfiable model (left_in set out)) (rests_of set sets)
    → (k : List Member) → IsPart k set → IsInOrder k → IsIrreducible model k → Contains sets k
