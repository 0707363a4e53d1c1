-- Combinations of members, and what a combination shows.
use Rattle.std.specs.Prelude.{◌≡◌, ℕ, ◌<◌, ◌≤◌, ◌==◌, ℤ, unsigned_abs, int_lt, ◌&&◌, not, cond, List, [], ◌∷◌, length, Option, Some, None, option_map, IsSome, All, Contains}
use Rattle.rational.specs.Rational.{ℚ, whole, ◌*ℚ◌, neg_ℚ, zero_ℚ, ◌≤ℚ◌, ◌<ℚ◌}
use Rattle.rational.specs.Sum.{sum_over}
use Rattle.rational.specs.Linear.{Term, Assignment, factor_of}
use Rattle.lp_model.specs.declared.members.Member.{Member}
use Rattle.lp_model.specs.declared.members.Side.{Side}
use Rattle.lp_model.specs.declared.members.Side.TheVariants.{Lo, Up}
use Rattle.certs.specs.declared.evidence.Branch.{Branch}
use Rattle.certs.specs.declared.evidence.Source.{Source}
use Rattle.certs.specs.declared.evidence.Source.TheVariants.{Member as Of, Below, Above}
use Rattle.certs.specs.declared.evidence.Share.{Share}
use Rattle.frac128.specs.Limit.{limit}
use Rattle.lp_model.specs.Program.{Program, IsWellFormed}
use Rattle.lp_model.specs.Members.{column_form, form, value, number, side as member_side}
use Rattle.lp_model.specs.Satisfaction.{Satisfies}

-- ---- branches
-- the column is on the branch's side
abbrev pub KeepsBranch : Assignment → Branch → Type 0
KeepsBranch x b = cond b.upper (x b.column ≤ℚ whole b.at) (whole b.at ≤ℚ x b.column)

-- the magnitude of the branch's number is one of a fraction's part
abbrev pub IsFitting : Branch → Type 0
IsFitting b = unsigned_abs b.at ≤ limit

-- every branch of the path is kept
abbrev pub KeepsPath : Assignment → List Branch → Type 0
KeepsPath x path = All (KeepsBranch x) path

-- the lesser, and the greater, of a number and one that may be absent
abbrev pub lesser : ℤ → Option ℤ → ℤ
lesser a None = a
lesser a (Some b) = cond (int_lt b a) b a

-- and the greater
abbrev pub greater : ℤ → Option ℤ → ℤ
greater a None = a
greater a (Some b) = cond (int_lt a b) b a

-- the least upper branch of the path on a column, and the greatest lower one
abbrev pub least_upper : List Branch → ℕ → Option ℤ
least_upper [] j = None
least_upper (b ∷ path) j = cond ((b.column == j) && b.upper) (Some (lesser b.at (least_upper path j))) (least_upper path j)

-- and the greatest lower one
abbrev pub greatest_lower : List Branch → ℕ → Option ℤ
greatest_lower [] j = None
greatest_lower (b ∷ path) j = cond ((b.column == j) && not b.upper) (Some (greater b.at (greatest_lower path j))) (greatest_lower path j)

-- ---- shares
-- the one of two that stands on the side
abbrev pub on_side : Side → Option ℚ → Option ℚ → Option ℚ
on_side Lo lo up = lo
on_side Up lo up = up

-- the terms of a source; on the path the column itself
abbrev pub source_form : Program → Source → List Term
source_form model (Of m) = form model m
source_form model (Below j) = column_form j
source_form model (Above j) = column_form j

-- a member's value; on the path, the column's
abbrev pub source_value : Program → Assignment → Source → ℚ
source_value model x (Of m) = value model m x
source_value model x (Below j) = x j
source_value model x (Above j) = x j

-- the side on which a source bounds its form: what is below bounds it above, and what is above, below
abbrev pub source_side : Source → Side
source_side (Of m) = member_side m
source_side (Below j) = Up
source_side (Above j) = Lo

-- the number that it asks for, where there is one
abbrev pub source_number : Program → List Branch → Source → Option ℚ
source_number model path (Of m) = number model m
source_number model path (Below j) = option_map whole (least_upper path j)
source_number model path (Above j) = option_map whole (greatest_lower path j)

-- 0 where there is none
abbrev pub number_or_zero : Option ℚ → ℚ
number_or_zero None = zero_ℚ
number_or_zero (Some b) = b

-- plus on `up`, minus on `lo`
abbrev pub signed : Side → ℚ → ℚ
signed Lo q = neg_ℚ q
signed Up q = q

-- how often the share takes its source, with the sign of the source's side
abbrev pub multiple : Share → ℚ
multiple s = signed (source_side s.source) s.weight

-- a member of the set, or the path
abbrev pub IsFrom : List Member → Source → Type 0
IsFrom set (Of m) = Contains set m
IsFrom set (Below j) = Unit {0}
IsFrom set (Above j) = Unit {0}

-- the source belongs to the set or the path, and asks for a number there
pub record IsThere (model : Program) (set : List Member) (path : List Branch) (s : Share) : Type 0 where
  pub from : IsFrom set s.source
  pub number : IsSome (source_number model path s.source)

-- what the shares add up to for a column
abbrev pub column_sum : Program → List Share → ℕ → ℚ
column_sum model shares j = sum_over (λ s. multiple s *ℚ factor_of (source_form model s.source) j) shares

-- and for the numbers
abbrev pub right_side : Program → List Branch → List Share → ℚ
right_side model path shares = sum_over (λ s. multiple s *ℚ number_or_zero (source_number model path s.source)) shares

-- The columns cancel, and what is left says that 0 is below 0.
pub record IsCombination (model : Program) (set : List Member) (path : List Branch) (shares : List Share) : Type 0 where
  pub positive : All (λ s. zero_ℚ <ℚ s.weight) shares
  pub there : All (IsThere model set path) shares
  pub cancels : (j : ℕ) → column_sum model shares j ≡ zero_ℚ
  pub contradicts : right_side model path shares <ℚ zero_ℚ

-- ---- the laws
-- where there is a combination, nothing on the path satisfies the set
abbrev pub CombinationLaw : Type 0
CombinationLaw = (model : Program) (set : List Member) (path : List Branch) (shares : List Share) → IsCombination model set path shares
    → (x : Assignment) → Satisfies model set x → KeepsPath x path → ⊥

-- the columns past the last have no part in a combination
abbrev pub FurtherColumnsLaw : Type 0
FurtherColumnsLaw = (model : Program) (set : List Member) (path : List Branch) (shares : List Share) → IsWellFormed model
    → All (λ b. b.column < length model.columns) path → All (IsThere model set path) shares
    → (j : ℕ) → length model.columns ≤ j → column_sum model shares j ≡ zero_ℚ
