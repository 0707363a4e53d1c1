-- A set that is being reduced: no point satisfies it, and members are taken out one by one.
use Rattle.std.specs.Prelude.{◌≡◌, List, [], ◌∷◌, ◌++◌, filter, Contains}
use Rattle.std.specs.List.{list_any}
use Rattle.lp_model.specs.declared.members.Member.{Member}
use Rattle.lp_model.specs.Members.{has, IsInOrder}
use Rattle.lp_model.specs.MemberSets.{SetValue, possible_in, set_without}
use Rattle.lp_model.specs.Program.{Program}
use Rattle.certs.specs.declared.evidence.Point.{Point}
use Rattle.certs.specs.declared.evidence.Node.{Node}
use Rattle.certs.specs.Checks.{IsSetOf}
use Rattle.certs.specs.Named.{node_uses}
use Rattle.certs.specs.Proof.{IsProof}
use Rattle.certs.specs.Tales.{IsPointOf}

-- a set of members of the program, in order; a proof that no point satisfies it; and which of its members the proof uses
pub record IsReduction (model : Program) (left used : SetValue) (nodes : List Node) : Type 0 where
  pub left_sized : IsSetOf model left
  pub possible : left.members ≡ filter (has left.members) (possible_in left)
  pub in_order : IsInOrder left.members
  pub used_sized : IsSetOf model used
  pub proof : IsProof model left.members nodes
  pub uses : (m : Member) → Contains left.members m → has used.members m ≡ list_any (node_uses m) nodes

-- A member was tried: it stays, with a point that satisfies all others as its witness; or it is taken out.
pub data Tried (model : Program) (left : SetValue) (witnesses : List Point) (m : Member) : SetValue → List Point → Type 0 where
  stays : (p : Point) → IsPointOf model (set_without left m).members p → Tried model left witnesses m left (witnesses ++ p ∷ [])
  goes : Tried model left witnesses m (set_without left m) witnesses
