-- Shares of an elastic system as shares of members, each put at its place.
use Rattle.std.specs.Prelude.{ℕ, ◌<◌, nat_lt, cond, List, [], ◌∷◌, slice_index_or, Option, Some, None}
use Rattle.rational.specs.Rational.{ℚ}
use Rattle.lp_model.specs.declared.members.Member.{Member}
use Rattle.lp_model.specs.declared.members.Member.TheVariants.{RowLo, RowUp, Lower, Upper, Whole}
use Rattle.lp_model.specs.declared.members.Side.{Side}
use Rattle.lp_model.specs.declared.members.Side.TheVariants.{Lo, Up}
use Rattle.certs.specs.declared.evidence.Source.{Source}
use Rattle.certs.specs.declared.evidence.Source.TheVariants.{Member as Of, Below, Above}
use Rattle.certs.specs.declared.evidence.Share.{Share}
use Rattle.certs.specs.Named.{row_side_of}
use Rattle.certs.specs.Order.{source_before}
use Rattle.relaxation.specs.declared.origins.Origin.{Origin}
use Rattle.relaxation.specs.declared.origins.Origin.TheVariants.{Row, Soft}

-- the member that a side of a row of the system is
abbrev pub origin_side : Origin → Side → Member
origin_side (Row i) side = row_side_of i side
origin_side (Soft e m) side = m

-- the member that a side of a row, or a limit of a column, of the system is; a limit of an elastic variable is none
abbrev pub member_for : ℕ → List Origin → Member → Option Member
member_for columns rows (RowLo k) = Some (origin_side (slice_index_or rows k (Row 0)) Lo)
member_for columns rows (RowUp k) = Some (origin_side (slice_index_or rows k (Row 0)) Up)
member_for columns rows (Lower j) = cond (nat_lt j columns) (Some (Lower j)) None
member_for columns rows (Upper j) = cond (nat_lt j columns) (Some (Upper j)) None
member_for columns rows (Whole j) = None

-- a row that it names is one of so many
abbrev pub IsOfRows : ℕ → Source → Type 0
IsOfRows rows (Of (RowLo k)) = k < rows
IsOfRows rows (Of (RowUp k)) = k < rows
IsOfRows rows _ = Unit {0}

-- and that of a source
abbrev pub source_member : ℕ → List Origin → Source → Option Member
source_member columns rows (Of m) = member_for columns rows m
source_member columns rows (Below j) = None
source_member columns rows (Above j) = None

-- a share before the first that it stands before
abbrev pub inserted : Share → List Share → List Share
inserted s [] = s ∷ []
inserted s (t ∷ list) = cond (source_before s.source t.source) (s ∷ t ∷ list) (t ∷ inserted s list)

-- one of a member, where there is one
abbrev pub with_share : ℚ → Option Member → List Share → List Share
with_share w None list = list
with_share w (Some m) list = inserted (record { source = Of m; weight = w }) list

-- those of the members that shares of the system are, put into the list one by one
abbrev pub placed : ℕ → List Origin → List Share → List Share → List Share
placed columns rows list [] = list
placed columns rows list (s ∷ shares) = placed columns rows (with_share s.weight (source_member columns rows s.source) list) shares
