-- Points and rays with few values: the room that they take, which members of a set they reach, and how the others stand where every column is 0.
use Rattle.std.specs.Prelude.{◌≡◌, ℕ, ◌<◌, ◌≤◌, true, false, List, [], ◌∷◌, All, Contains, Option, None, Some, not, filter, length, map, replicate, slice_index_or}
use Rattle.std.specs.Global.{Vec}
use Rattle.rational.specs.Rational.{ℚ, zero_ℚ, eq_ℚ}
use Rattle.rational.specs.Linear.{Assignment}
use Rattle.lp_model.specs.declared.members.Member.{Member}
use Rattle.lp_model.specs.declared.members.Member.TheVariants.{RowLo, RowUp, Lower, Upper, Whole}
use Rattle.lp_model.specs.Program.{Program, row_at}
use Rattle.lp_model.specs.Members.{active_members, has}
use Rattle.lp_model.specs.MemberSets.{active_set}
use Rattle.lp_model.specs.Satisfaction.{values_at}
use Rattle.lp_model.specs.Shown.{most_columns}
use Rattle.certs.specs.declared.evidence.Checked.TheVariants.{Yes}
use Rattle.certs.specs.Checks.{IsSetOf, outcome, point_steps}
use Rattle.certs.specs.Packed.{HasNonzeros}
use Rattle.certs.specs.Trees.{has_mark}
use Rattle.cert_check.specs.declared.sparse.Sparse.{Sparse}
use Rattle.cert_check.specs.declared.active.Active.{Active}
use Rattle.cert_check.specs.declared.active.Kept.{Kept}

-- nothing that is calculated for the member at the point is too wide, and it holds
abbrev pub Passes : Program → Assignment → Member → Type 0
Passes model x m = outcome (point_steps model (m ∷ []) x) ≡ Yes

-- the rows that are listed for each column
abbrev pub listed_rows : List (Vec ℕ) → List (List ℕ)
listed_rows lists = map (λ v. v.items) lists

-- row i is listed for column j
abbrev pub IsListed : List (Vec ℕ) → ℕ → ℕ → Type 0
IsListed lists j i = Contains (slice_index_or (listed_rows lists) j []) i

-- each row is listed for each column that stands in it, and nothing but rows is
pub record ListsRows (model : Program) (lists : List (Vec ℕ)) : Type 0 where
  pub each : length lists ≡ length model.columns
  pub listed : (i : ℕ) → i < length model.rows → All (λ t. IsListed lists t.column i) (row_at model i).terms
  pub known : (j i : ℕ) → IsListed lists j i → i < length model.rows

-- A column with these rows reaches a member: that of one of the rows, or its own bound or mark.
abbrev pub Reaches : ℕ → List ℕ → Member → Type 0
Reaches j rows (RowLo i) = Contains rows i
Reaches j rows (RowUp i) = Contains rows i
Reaches j rows (Lower k) = j ≡ k
Reaches j rows (Upper k) = j ≡ k
Reaches j rows (Whole k) = j ≡ k

-- the members of the set that one of the columns reaches are in the part
abbrev pub HasReached : List (Vec ℕ) → List Member → List ℕ → List Member → Type 0
HasReached lists set columns part = (m : Member) (j : ℕ) → has set m ≡ true → Contains columns j → Reaches j (slice_index_or (listed_rows lists) j []) m → has part m ≡ true

-- the members of the set that fail where every column is 0 are among these
abbrev pub HasFailing : Program → List Member → List Member → Type 0
HasFailing model set failing = (m : Member) → has set m ≡ true → has failing m ≡ false → Passes model (values_at (replicate (length model.columns) zero_ℚ)) m

-- ---- room
-- so many zeros
pub record IsRoom (count : ℕ) (room : List ℚ) : Type 0 where
  pub zeros : room ≡ replicate count zero_ℚ
  pub few : count ≤ most_columns

-- values that stand in room, and columns, among which is that of each value that is not 0
pub record AreSpread (values : List ℚ) (columns : List ℕ) : Type 0 where
  pub nonzeros : HasNonzeros values columns
  pub within : All (λ j. j < length values) columns
  pub few : length values ≤ most_columns

-- how many values are not 0
abbrev pub nonzero_count : List ℚ → ℕ
nonzero_count values = length (filter (λ v. not (eq_ℚ v zero_ℚ)) values)

-- ---- what is kept
-- for a set of the program
pub record IsSparse (model : Program) (set : List Member) (s : Sparse) : Type 0 where
  pub rows : ListsRows model s.rows.items
  pub same : IsSetOf model s.failing
  pub failing : HasFailing model set s.failing.members

-- for it, where something is
abbrev pub IsSparseFor : Program → List Member → Option Sparse → Type 0
IsSparseFor model set None = Unit {0}
IsSparseFor model set (Some s) = IsSparse model set s

-- the set does not have this member, where one is told
abbrev pub Lacks : List Member → Option Member → Type 0
Lacks set None = Unit {0}
Lacks set (Some m) = has set m ≡ false

-- these are the active members of the program, with what is kept for them
pub record IsActive (model : Program) (a : Active) : Type 0 where
  pub set : a.set ≡ active_set model
  pub marked : a.marked ≡ has_mark (active_members model)
  pub sparse : IsSparseFor model (active_members model) a.sparse

-- where they are there
abbrev pub IsActiveFor : Program → Option Active → Type 0
IsActiveFor model None = Unit {0}
IsActiveFor model (Some a) = IsActive model a

-- from answer to answer
pub record IsKept (model : Program) (k : Kept) : Type 0 where
  pub active : IsActiveFor model k.active
  pub room : IsRoom (length model.columns) k.room.items
