-- Weightings of the members of a set that cancel the columns and leave -1, their cost, and its lower bounds.
use Rattle.std.specs.Prelude.{◌≡◌, ℕ, List, [], ◌∷◌, ◌++◌, Some, IfSome, All}
use Rattle.rational.specs.Rational.{ℚ, ◌-ℚ◌, ◌*ℚ◌, neg_ℚ, zero_ℚ, one_ℚ, ◌≤ℚ◌, ◌<ℚ◌}
use Rattle.rational.specs.Sum.{sum_over}
use Rattle.rational.specs.Linear.{Assignment}
use Rattle.lp_model.specs.declared.members.Member.{Member}
use Rattle.lp_model.specs.declared.parts.Weight.{Weight}
use Rattle.lp_model.specs.declared.parts.Weight.TheVariants.{Soft, Rigid}
use Rattle.lp_model.specs.Program.{Program}
use Rattle.lp_model.specs.Members.{value, number, side, weight}
use Rattle.lp_model.specs.Satisfaction.{values_at, IsIrreducible}
use Rattle.certs.specs.declared.evidence.Source.{Source}
use Rattle.certs.specs.declared.evidence.Source.TheVariants.{Member as Of, Below, Above}
use Rattle.certs.specs.declared.evidence.Share.{Share}
use Rattle.certs.specs.Combination.{source_value, source_number, IsThere, signed, column_sum, right_side}

-- No weight is negative, the columns cancel, and the right side is -1.
pub record IsWeighting (model : Program) (set : List Member) (shares : List Share) : Type 0 where
  pub nonnegative : All (λ s. zero_ℚ ≤ℚ s.weight) shares
  pub there : All (IsThere model set []) shares
  pub cancels : (j : ℕ) → column_sum model shares j ≡ zero_ℚ
  pub contradicts : right_side model [] shares ≡ neg_ℚ one_ℚ

-- a rigid member costs 1
abbrev pub cost_of : Weight → ℚ
cost_of (Soft w) = w
cost_of Rigid = one_ℚ

-- the cost of a member; on the path 1
abbrev pub source_cost : Program → Source → ℚ
source_cost model (Of m) = cost_of (weight model m)
source_cost model (Below j) = one_ℚ
source_cost model (Above j) = one_ℚ

-- the weighted sum of the weights
abbrev pub cost : Program → List Share → ℚ
cost model shares = sum_over (λ s. source_cost model s.source *ℚ s.weight) shares

-- a weighting than which none is cheaper
pub record IsCheapest (model : Program) (set : List Member) (shares : List Share) : Type 0 where
  pub weighting : IsWeighting model set shares
  pub cheapest : (others : List Share) → IsWeighting model set others → cost model shares ≤ℚ cost model others

-- Where the member asks for a number, its value at the price less t times the number is at most its cost; both negated on `lo`.
abbrev pub IsPriced : Program → ℚ → Assignment → Member → Type 0
IsPriced model t z m = IfSome (number model m) (λ b. signed (side m) (value model m z) -ℚ t *ℚ signed (side m) b ≤ℚ cost_of (weight model m))

-- a price for a total: each member is priced
abbrev pub IsPrice : Program → List Member → ℚ → Assignment → Type 0
IsPrice model set t z = All (IsPriced model t z) set

-- ---- what a cheapest weighting uses
-- the members, with the one that a share comes from in front
abbrev pub with_source : Source → List Member → List Member
with_source (Of m) members = m ∷ members
with_source (Below j) members = members
with_source (Above j) members = members

-- the members that the shares come from
abbrev pub members_of : List Share → List Member
members_of [] = []
members_of (s ∷ shares) = with_source s.source (members_of shares)

-- the values meet the number of each share exactly
pub record IsMet (model : Program) (shares : List Share) : Type 0 where
  pub values : List ℚ
  pub meets : All (λ s. source_number model [] s.source ≡ Some (source_value model (values_at values) s.source)) shares

-- ---- the laws
-- where values meet all shares but one, whichever one it is, the members of the weighting are irreducible
abbrev pub SupportLaw : Type 0
SupportLaw = (model : Program) (shares : List Share) → All (λ s. zero_ℚ <ℚ s.weight) shares → IsWeighting model (members_of shares) shares
    → ((front : List Share) (s : Share) (back : List Share) → shares ≡ front ++ s ∷ back → IsMet model (front ++ back)) → IsIrreducible model (members_of shares)

-- no weighting costs less than what has a price
abbrev pub PriceLaw : Type 0
PriceLaw = (model : Program) (set : List Member) (t : ℚ) (z : Assignment) → IsPrice model set t z
    → (shares : List Share) → IsWeighting model set shares → t ≤ℚ cost model shares
