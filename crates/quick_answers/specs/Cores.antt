-- What quick runs show of the cheapest irreducible set.
use Rattle.std.specs.Prelude.{◌≡◌, List, [], ◌∷◌}
use Rattle.lp_model.specs.declared.members.Member.{Member}
use Rattle.lp_model.specs.Program.{Program}
use Rattle.lp_model.specs.MemberSets.{SetValue}
use Rattle.certs.specs.declared.evidence.Combo.{Combo}
use Rattle.certs.specs.declared.evidence.Node.TheVariants.{Leaf}
use Rattle.certs.specs.declared.evidence.Proof.{Proof}
use Rattle.certs.specs.Alternative.{members_of}
use Rattle.certs.specs.Checks.{IsSetOf}
use Rattle.certs.specs.Combination.{IsCombination}
use Rattle.certs.specs.Tales.{IsPointOf}
use Rattle.filter_steps.specs.Isolated.{AreWitnesses}
use Rattle.alt_polyhedron.specs.Pricing.{IsCheapestSet}
use Rattle.quick_answers.specs.declared.cheapest.QuickCore.{QuickCore}
use Rattle.quick_answers.specs.declared.cheapest.Weighed.{Weighed}
use Rattle.quick_answers.specs.declared.cheapest.Weighed.TheVariants.{Feasible, Core}

-- the members are those of the shares of the proof's one leaf, which refute them alone
pub record IsListed (model : Program) (proof : Proof) (members : SetValue) : Type 0 where
  pub combo : Combo
  pub leaf : proof.nodes ≡ Leaf combo ∷ []
  pub set_of : IsSetOf model members
  pub members_are : members.members ≡ members_of combo.shares
  pub own_combination : IsCombination model members.members [] combo.shares

-- a cheapest irreducible set, of which the proof's one leaf is the weighting, and a witness for each of its members
pub record IsQuickCore (model : Program) (set : List Member) (core : QuickCore) : Type 0 where
  pub combo : Combo
  pub leaf : core.proof.nodes ≡ Leaf combo ∷ []
  pub cheapest : IsCheapestSet model set core.members combo core.total core.price
  pub witnesses : AreWitnesses model core.members.members core.witnesses.items

-- a point of the set, or such a core
abbrev pub IsWeighed : Program → List Member → Weighed → Type 0
IsWeighed model set (Feasible point) = IsPointOf model set point
IsWeighed model set (Core core) = IsQuickCore model set core
