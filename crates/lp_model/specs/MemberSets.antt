-- Sets of members: what contracts see of one, and what is asked of it.
use Rattle.std.specs.Prelude.{◌≡◌, ℕ, ◌+◌, ◌*◌, ◌<◌, ◌≤◌, Bool, true, false, not, ◌||◌, List, [], ◌++◌, length, filter, find, Contains, Option, Some, None}
use Rattle.std.specs.Int.{div_ceil}
use Rattle.std.proofs.Common.{zero, suc}
use Rattle.lane_scan.specs.Bits.{bit_of}
use Rattle.lp_model.specs.Program.{Program}
use Rattle.lp_model.specs.Members.{Member, RowLo, RowUp, Lower, Upper, Whole, comes_before, is_same, has, numbered, row_side, active_members}
use Rattle.lp_model.specs.Satisfaction.{IsPart}
use Rattle.lp_model.specs.Shown.{most_rows, most_columns}

-- how many rows and columns the program has, and the set's members in their order
pub record SetValue : Type 0 where
  pub rows : ℕ
  pub columns : ℕ
  pub members : List Member

-- the members that a program with so many rows and columns may have, in order
abbrev pub members_for : ℕ → ℕ → List Member
members_for rows columns = numbered row_side (2 * rows) ++ (numbered Lower columns ++ (numbered Upper columns ++ numbered Whole columns))

-- the members that may be in the set, in order
abbrev pub possible_in : SetValue → List Member
possible_in set = members_for set.rows set.columns

-- the member's number is below that of the rows, or of the columns
abbrev pub IsMemberFor : ℕ → ℕ → Member → Type 0
IsMemberFor rows columns (RowLo i) = i < rows
IsMemberFor rows columns (RowUp i) = i < rows
IsMemberFor rows columns (Lower j) = j < columns
IsMemberFor rows columns (Upper j) = j < columns
IsMemberFor rows columns (Whole j) = j < columns

-- the member may be in the set
abbrev pub IsPossibleIn : SetValue → Member → Type 0
IsPossibleIn set m = IsMemberFor set.rows set.columns m

-- no members of a program
abbrev pub empty_set : Program → SetValue
empty_set model = record { rows = length model.rows; columns = length model.columns; members = [] }

-- its active members
abbrev pub active_set : Program → SetValue
active_set model = record { rows = length model.rows; columns = length model.columns; members = active_members model }

-- the possible members that are the member, or are in the set
abbrev pub set_with : SetValue → Member → SetValue
set_with set m = record set { members = filter (λ n. is_same n m || has set.members n) (possible_in set) }

-- the members of the set that are not the member
abbrev pub set_without : SetValue → Member → SetValue
set_without set m = record set { members = filter (λ n. not (is_same n m)) set.members }

-- whether a member comes after the given one; where none is given, each does
abbrev pub follows : Option Member → Member → Bool
follows None n = true
follows (Some m) n = comes_before m n

-- the first member of the set that comes after the given one
abbrev pub next_after : SetValue → Option Member → Option Member
next_after set after = find (follows after) set.members

-- those of its members that come after the given one
abbrev pub members_after : SetValue → Option Member → List Member
members_after set after = filter (follows after) set.members

-- each member of the one set is in the other
abbrev pub IsWithin : SetValue → SetValue → Type 0
IsWithin a b = IsPart a.members b.members

-- some member is in both
abbrev pub HaveCommon : SetValue → SetValue → Type 0
HaveCommon a b = (m : Member) × Contains a.members m × Contains b.members m

-- ---- how the code keeps a set: one bit for each possible member, in order
-- how many possible members there are
abbrev pub place_count : ℕ → ℕ → ℕ
place_count rows columns = 2 * rows + (columns + (columns + columns))

-- the place of a member among them
abbrev pub place_in : ℕ → ℕ → Member → ℕ
place_in rows columns (RowLo i) = 2 * i
place_in rows columns (RowUp i) = 2 * i + 1
place_in rows columns (Lower j) = 2 * rows + j
place_in rows columns (Upper j) = 2 * rows + (columns + j)
place_in rows columns (Whole j) = 2 * rows + (columns + (columns + j))

-- the first place after that of the given member; where none is given, the first of all
abbrev pub place_after : ℕ → ℕ → Option Member → ℕ
place_after rows columns None = zero
place_after rows columns (Some m) = suc (place_in rows columns m)

-- how many words have a bit for each
abbrev pub word_count : ℕ → ℕ → ℕ
word_count rows columns = div_ceil (place_count rows columns) 64

-- whether a member's bit is set
abbrev pub is_marked : ℕ → ℕ → List ℕ → Member → Bool
is_marked rows columns words m = bit_of words (place_in rows columns m)

-- the set of the members whose bit is set
abbrev pub marked_set : ℕ → ℕ → List ℕ → SetValue
marked_set rows columns words = record { rows = rows; columns = columns; members = filter (is_marked rows columns words) (members_for rows columns) }

-- there is a bit for each, none past them is set, and the numbers are within the limits
pub record IsMarking (rows columns : ℕ) (words : List ℕ) : Type 0 where
  pub each : length words ≡ word_count rows columns
  pub none_past : (k : ℕ) → place_count rows columns ≤ k → bit_of words k ≡ false
  pub few_rows : rows ≤ most_rows
  pub few_columns : columns ≤ most_columns
