-- By how much members are missed, the least weighted violation, and its lower bounds.
use Rattle.std.specs.Prelude.{◌≡◌, ℕ, Bool, true, false, cond, List, [], Option, Some, None, filter, All}
use Rattle.rational.specs.Rational.{ℚ, ◌-ℚ◌, ◌*ℚ◌, neg_ℚ, zero_ℚ, lt_q, ◌≤ℚ◌, ◌<ℚ◌}
use Rattle.rational.specs.Sum.{sum_over}
use Rattle.rational.specs.Linear.{Assignment}
use Rattle.lp_model.specs.declared.members.Member.{Member}
use Rattle.lp_model.specs.declared.members.Side.{Side}
use Rattle.lp_model.specs.declared.members.Side.TheVariants.{Lo, Up}
use Rattle.lp_model.specs.declared.parts.Weight.{Weight}
use Rattle.lp_model.specs.declared.parts.Weight.TheVariants.{Soft, Rigid}
use Rattle.lp_model.specs.Program.{Program}
use Rattle.lp_model.specs.Members.{value, number, side, weight, is_same}
use Rattle.lp_model.specs.Satisfaction.{Point, coordinate, Satisfies}
use Rattle.certs.specs.declared.evidence.Branch.{Branch}
use Rattle.certs.specs.declared.evidence.Source.{Source}
use Rattle.certs.specs.declared.evidence.Source.TheVariants.{Member as Of, Below, Above}
use Rattle.certs.specs.declared.evidence.Share.{Share}
use Rattle.certs.specs.Combination.{KeepsPath, IsThere, column_sum, right_side}

-- the larger of two
abbrev pub larger : ℚ → ℚ → ℚ
larger a b = cond (lt_q a b) b a

-- how far a value is below a number, or above it, where the number is there; else 0
abbrev pub shortfall : Option ℚ → ℚ → ℚ
shortfall None v = zero_ℚ
shortfall (Some b) v = larger zero_ℚ (b -ℚ v)

-- and above it
abbrev pub overrun : Option ℚ → ℚ → ℚ
overrun None v = zero_ℚ
overrun (Some b) v = larger zero_ℚ (v -ℚ b)

-- how far a value is on the wrong side of a number, where the number is there; else 0
abbrev pub missed_by : Side → Option ℚ → ℚ → ℚ
missed_by Lo number v = shortfall number v
missed_by Up number v = overrun number v

-- by how much the member is missed, or 0
abbrev pub violation : Program → Assignment → Member → ℚ
violation model x m = missed_by (side m) (number model m) (value model m x)

-- whether it is missed at all
abbrev pub is_violated : Program → Assignment → Member → Bool
is_violated model x m = lt_q zero_ℚ (violation model x m)

-- a rigid member counts nothing here: it has to hold
abbrev pub weighed : Weight → ℚ → ℚ
weighed (Soft w) v = w *ℚ v
weighed Rigid v = zero_ℚ

-- the sum of weight times violation over the soft members
abbrev pub weighted_violation : Program → List Member → Assignment → ℚ
weighted_violation model set x = sum_over (λ m. weighed (weight model m) (violation model x m)) set

-- the sum of the violations, each with weight 1
abbrev pub total_violation : Program → List Member → Assignment → ℚ
total_violation model set x = sum_over (violation model x) set

-- whether a weight is rigid
abbrev pub is_rigid : Weight → Bool
is_rigid (Soft w) = false
is_rigid Rigid = true

-- the rigid members of the set, marks among them
abbrev pub rigid_members : Program → List Member → List Member
rigid_members model set = filter (λ m. is_rigid (weight model m)) set

-- The point satisfies the rigid members, and no point that does has a smaller weighted violation.
pub record IsLeast (model : Program) (set : List Member) (p : Point) : Type 0 where
  pub satisfies : Satisfies model (rigid_members model set) (coordinate p)
  pub least : (q : Point) → Satisfies model (rigid_members model set) (coordinate q)
      → weighted_violation model set (coordinate p) ≤ℚ weighted_violation model set (coordinate q)

-- ---- lower bounds
-- whether a source is this member
abbrev pub is_of : Member → Source → Bool
is_of m (Of n) = is_same m n
is_of m (Below j) = false
is_of m (Above j) = false

-- how much weight the shares put on a member
abbrev pub weight_on : List Share → Member → ℚ
weight_on shares m = sum_over (λ s. cond (is_of m s.source) s.weight zero_ℚ) shares

-- a rigid member may be given any weight
abbrev pub IsWithinWeight : ℚ → Weight → Type 0
IsWithinWeight q (Soft w) = q ≤ℚ w
IsWithinWeight q Rigid = Unit {0}

-- The columns cancel, no soft member is given more than its weight, and the right side is -t.
pub record IsLeastDual (model : Program) (set : List Member) (path : List Branch) (shares : List Share) (t : ℚ) : Type 0 where
  pub positive : All (λ s. zero_ℚ <ℚ s.weight) shares
  pub there : All (IsThere model set path) shares
  pub cancels : (j : ℕ) → column_sum model shares j ≡ zero_ℚ
  pub within : All (λ m. IsWithinWeight (weight_on shares m) (weight model m)) set
  pub total : t ≡ neg_ℚ (right_side model path shares)

-- t is at most the weighted violation of whatever satisfies the rigid members on the path
abbrev pub LeastLaw : Type 0
LeastLaw = (model : Program) (set : List Member) (path : List Branch) (shares : List Share) (t : ℚ) → IsLeastDual model set path shares t
    → (x : Assignment) → Satisfies model (rigid_members model set) x → KeepsPath x path → t ≤ℚ weighted_violation model set x

-- so a point that reaches t is least
abbrev pub LeastPointLaw : Type 0
LeastPointLaw = (model : Program) (set : List Member) (shares : List Share) (p : Point)
    → IsLeastDual model set [] shares (weighted_violation model set (coordinate p)) → Satisfies model (rigid_members model set) (coordinate p) → IsLeast model set p
