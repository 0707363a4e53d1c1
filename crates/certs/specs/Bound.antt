-- The objective: what is better, bounds that no point passes, and rays that leave every bound behind.
use Rattle.std.specs.Prelude.{◌≡◌, ℕ, cond, not, List, [], IsSome, filter, All}
use Rattle.rational.specs.Rational.{ℚ, neg_ℚ, zero_ℚ, ◌≤ℚ◌, ◌<ℚ◌}
use Rattle.rational.specs.Linear.{Assignment, form_value, factor_of}
use Rattle.lp_model.specs.declared.members.Member.{Member}
use Rattle.lp_model.specs.declared.members.Side.{Side}
use Rattle.lp_model.specs.declared.members.Side.TheVariants.{Lo, Up}
use Rattle.lp_model.specs.Program.{Program}
use Rattle.lp_model.specs.Members.{value, number, side, is_mark}
use Rattle.lp_model.specs.Satisfaction.{Point, coordinate, values_at, Satisfies}
use Rattle.certs.specs.declared.evidence.Share.{Share}
use Rattle.certs.specs.Combination.{IsThere, column_sum, right_side}

-- what the objective is at an assignment
abbrev pub objective_value : Program → Assignment → ℚ
objective_value model x = form_value model.objective x

-- negated when minimising
abbrev pub directed : Program → ℚ → ℚ
directed model q = cond model.maximise q (neg_ℚ q)

-- a is a better value of the objective than b
abbrev pub IsBetter : Program → ℚ → ℚ → Type 0
IsBetter model a b = directed model b <ℚ directed model a

-- a point that satisfies the set and has a better value than q
pub record Beats (model : Program) (set : List Member) (q : ℚ) : Type 0 where
  pub point : Point
  pub satisfies : Satisfies model set (coordinate point)
  pub better : IsBetter model (objective_value model (coordinate point)) q

-- for every number some point of the set has a better value
abbrev pub Unbounded : Program → List Member → Type 0
Unbounded model set = (q : ℚ) → Beats model set q

-- no point of the set has a better value
abbrev pub IsValidBound : Program → List Member → ℚ → Type 0
IsValidBound model set b = ¬ (Beats model set b)

-- The columns add up to the objective, and the right side is the bound; both negated when minimising.
pub record IsBoundDual (model : Program) (set : List Member) (shares : List Share) (b : ℚ) : Type 0 where
  pub positive : All (λ s. zero_ℚ <ℚ s.weight) shares
  pub there : All (IsThere model set []) shares
  pub matches : (j : ℕ) → column_sum model shares j ≡ directed model (factor_of model.objective j)
  pub bound : right_side model [] shares ≡ directed model b

-- a change is not towards the wrong side
abbrev pub IsKeptOn : Side → ℚ → Type 0
IsKeptOn Lo v = zero_ℚ ≤ℚ v
IsKeptOn Up v = v ≤ℚ zero_ℚ

-- a move along the ray does not leave the number that the member asks for
abbrev pub KeepsRay : Program → Assignment → Member → Type 0
KeepsRay model ray m = IsSome (number model m) → IsKeptOn (side m) (value model m ray)

-- every member keeps it, and the objective becomes better
pub record IsImproving (model : Program) (set : List Member) (ray : Assignment) : Type 0 where
  pub keeps : All (KeepsRay model ray) set
  pub improves : IsBetter model (objective_value model ray) zero_ℚ

-- the set without its marks
abbrev pub without_marks : List Member → List Member
without_marks set = filter (λ m. not (is_mark m)) set

-- ---- the laws
-- what a dual bounds, no assignment that satisfies the set passes
abbrev pub BoundLaw : Type 0
BoundLaw = (model : Program) (set : List Member) (shares : List Share) (b : ℚ) → IsBoundDual model set shares b
    → (x : Assignment) → Satisfies model set x → ¬ (IsBetter model (objective_value model x) b)

-- so such a bound is valid
abbrev pub ValidBoundLaw : Type 0
ValidBoundLaw = (model : Program) (set : List Member) (shares : List Share) (b : ℚ) → IsBoundDual model set shares b → IsValidBound model set b

-- a point of the set, marks included, and an improving ray of its members without marks: the objective has no bound
abbrev pub RayLaw : Type 0
RayLaw = (model : Program) (set : List Member) (p : Point) (ray : List ℚ) → Satisfies model set (coordinate p) → IsImproving model (without_marks set) (values_at ray)
    → Unbounded model set
