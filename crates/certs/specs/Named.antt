-- Combinations of systems as combinations of members: what the limits of a system's variables are, and what each stands for in a program.
use Rattle.std.specs.Prelude.{◌≡◌, ℕ, ◌<◌, ◌-◌, ◌==◌, nat_lt, Bool, true, false, ◌&&◌, cond, List, ◌++◌, map, length, filter, flat_map, slice_index, All}
use Rattle.std.specs.List.{list_any}
use Rattle.lp_model.specs.declared.members.Member.{Member}
use Rattle.lp_model.specs.declared.members.Member.TheVariants.{RowLo, RowUp, Lower, Upper, Whole}
use Rattle.lp_model.specs.declared.members.Side.{Side}
use Rattle.lp_model.specs.declared.members.Side.TheVariants.{Lo, Up}
use Rattle.lp_model.specs.Program.{Program, IsWellFormed}
use Rattle.lp_model.specs.Members.{is_same, has}
use Rattle.lp_model.specs.MemberSets.{SetValue, IsPossibleIn, possible_in}
use Rattle.certs.specs.declared.evidence.Branch.{Branch}
use Rattle.certs.specs.declared.evidence.Source.{Source}
use Rattle.certs.specs.declared.evidence.Source.TheVariants.{Member as Of, Below, Above}
use Rattle.certs.specs.declared.evidence.Share.{Share}
use Rattle.certs.specs.declared.evidence.Node.{Node}
use Rattle.certs.specs.declared.evidence.Node.TheVariants.{Split, Leaf}
use Rattle.certs.specs.Combination.{IsCombination}
use Rattle.certs.specs.Violation.{is_of}
use Rattle.certs.specs.System.{LinearSystem, VariableShare, IsVariableCombination}
use Rattle.certs.specs.Ended.{numbers_from}
use Rattle.certs.specs.Plain.{limit_source, rows_in, plain_system}

-- ---- limits of variables as rows and bounds of the system
-- a bound of a column
abbrev pub bound_of : ℕ → Side → Member
bound_of j Lo = Lower j
bound_of j Up = Upper j

-- a side of a row
abbrev pub row_side_of : ℕ → Side → Member
row_side_of i Lo = RowLo i
row_side_of i Up = RowUp i

-- the constraint that a side of a variable is, in a system with so many columns
abbrev pub member_of : ℕ → ℕ → Side → Member
member_of columns v side = cond (nat_lt v columns) (bound_of v side) (row_side_of (v - columns) side)

-- the share of that
abbrev pub named : ℕ → VariableShare → Share
named columns s = record { source = Of (member_of columns s.variable s.side); weight = s.weight }

-- the shares are those that name a combination of the system
pub record IsNamedCombination (system : LinearSystem) (shares : List Share) : Type 0 where
  pub of : List VariableShare
  pub combination : IsVariableCombination system of
  pub same : shares ≡ map (named (length system.columns)) of

-- ---- what they stand for in a program
-- a side of a row of the plain system is that of the program's row, and a limit is the bound or the branches that gave it
abbrev pub stands_for : Program → List Member → List Branch → Source → Source
stands_for model set path (Of (RowLo k)) = Of (RowLo (slice_index (rows_in model set) k))
stands_for model set path (Of (RowUp k)) = Of (RowUp (slice_index (rows_in model set) k))
stands_for model set path (Of (Lower j)) = limit_source model set path j Lo
stands_for model set path (Of (Upper j)) = limit_source model set path j Up
stands_for model set path (Of (Whole j)) = Of (Whole j)
stands_for model set path (Below j) = Below j
stands_for model set path (Above j) = Above j

-- the share of that, with the same weight
abbrev pub translated : Program → List Member → List Branch → Share → Share
translated model set path s = record s { source = stands_for model set path s.source }

-- whether a source is a member, the branches on a column that bound it above, or those that bound it below
abbrev pub is_member : Source → Bool
is_member (Of m) = true
is_member (Below j) = false
is_member (Above j) = false

-- above
abbrev pub is_below : ℕ → Source → Bool
is_below j (Of m) = false
is_below j (Below k) = j == k
is_below j (Above k) = false

-- below
abbrev pub is_above : ℕ → Source → Bool
is_above j (Of m) = false
is_above j (Below k) = false
is_above j (Above k) = j == k

-- the shares of the branches on a column, those that bound it above first
abbrev pub on_column : List Share → ℕ → List Share
on_column shares j = filter (λ s. is_below j s.source) shares ++ filter (λ s. is_above j s.source) shares

-- the shares of members as they come, and then those of the branches by column
abbrev pub arranged : ℕ → List Share → List Share
arranged columns shares = filter (λ s. is_member s.source) shares ++ flat_map (on_column shares) (numbers_from 0 columns)

-- the shares of the plain system as shares of the program
abbrev pub program_shares : Program → List Member → List Branch → List Share → List Share
program_shares model set path shares = arranged (length model.columns) (map (translated model set path) shares)

-- a side of a row of a system with so many columns and rows, or a limit of a column of it
abbrev pub IsOfSystem : ℕ → ℕ → Source → Type 0
IsOfSystem columns rows (Of (RowLo k)) = k < rows
IsOfSystem columns rows (Of (RowUp k)) = k < rows
IsOfSystem columns rows (Of (Lower j)) = j < columns
IsOfSystem columns rows (Of (Upper j)) = j < columns
IsOfSystem columns rows _ = ⊥

-- what is a combination of the plain system is then one of the set on the path
abbrev pub TranslationLaw : Type 0
TranslationLaw = (model : Program) (set : List Member) (path : List Branch) (objective : Bool) (shares : List Share) → IsWellFormed model
    → All (λ b. b.column < length model.columns) path → IsNamedCombination (plain_system model set path objective) shares → IsCombination model set path (program_shares model set path shares)

-- ---- members that a proof uses
-- whether a node uses a member: a leaf by its shares, a split by the mark of its column
abbrev pub node_uses : Member → Node → Bool
node_uses m (Split j k) = is_same m (Whole j)
node_uses m (Leaf combo) = list_any (λ s. is_of m s.source) combo.shares

-- a member that a source names is one that the set may have
abbrev pub IsKnownSource : SetValue → Source → Type 0
IsKnownSource set (Of m) = IsPossibleIn set m
IsKnownSource set (Below j) = Unit {0}
IsKnownSource set (Above j) = Unit {0}

-- and those that a node names
abbrev pub IsKnownNode : SetValue → Node → Type 0
IsKnownNode set (Split j k) = j < set.columns
IsKnownNode set (Leaf combo) = All (λ s. IsKnownSource set s.source) combo.shares

-- a set of members of a program of the same size
pub record IsOfSize (set part : SetValue) : Type 0 where
  pub rows : part.rows ≡ set.rows
  pub columns : part.columns ≡ set.columns

-- the part is made of the members of the set that pass the test, in order
abbrev pub IsPartBy : SetValue → (Member → Bool) → SetValue → Type 0
IsPartBy set test part = part ≡ record set { members = filter (λ m. has set.members m && test m) (possible_in set) }

-- the members of a set that the nodes use
abbrev pub used_members : List Member → List Node → List Member
used_members set nodes = filter (λ m. list_any (node_uses m) nodes) set

-- as a set
abbrev pub used_set : SetValue → List Node → SetValue
used_set set nodes = record set { members = used_members set.members nodes }
