-- What steps have declared so far, by look-ups in their list.
use Rattle.std.specs.Prelude.{ℕ, Bool, true, false, ◌&&◌, ◌||◌, not, List, [], ◌∷◌, map, filter, find, slice_get, Option, Some, None}
use Rattle.std.specs.List.{filter_map, list_any}
use Rattle.std.specs.Option.{option_map, option_map_or}
use Rattle.std.specs.Str.{bytes_eq}
use Rattle.rational.specs.Rational.{ℚ, zero_ℚ}
use Rattle.frac128.specs.declared.literal.Literal.{Literal}
use Rattle.frac128.specs.declared.literal.Literal.TheVariants.{Fits, TooWide}
use Rattle.text_fields.specs.Numbers.{literal_in}
use Rattle.text_fields.specs.Numbers.{bound_of}
use Rattle.mps_lines.specs.declared.shapes.RowKind.{RowKind}
use Rattle.mps_lines.specs.declared.shapes.RowKind.TheVariants.{Free}
use Rattle.mps_lines.specs.declared.shapes.BoundKind.{BoundKind}
use Rattle.mps_lines.specs.declared.shapes.BoundKind.TheVariants.{Upper, Lower, Fixed, WholeLower, WholeUpper, Unbounded, NoLower, NoUpper, Binary}
use Rattle.mps_lines.specs.Shapes.{Figure, Bounded}
use Rattle.mps_lines.specs.Steps.{Step, ToSense, ToRow, ToColumn, ToEntry, ToSide, ToRange, ToBound}

-- ---- the sense
-- the sense that a step gives
abbrev pub sense_in : Step → Option Bool
sense_in (ToSense greatest) = Some greatest
sense_in _ = None

-- the senses that are given
abbrev pub senses_of : List Step → List Bool
senses_of steps = filter_map sense_in steps

-- ---- rows
-- a row that is declared
pub record RowRecord : Type 0 where
  pub name : List ℕ
  pub kind : RowKind

-- a step may declare one
abbrev pub row_in : Step → Option RowRecord
row_in (ToRow kind name) = Some (record { name = name; kind = kind })
row_in _ = None

-- the rows in order, free ones too
unfoldable pub rows_of : List Step → List RowRecord
rows_of steps = filter_map row_in steps

-- their names
abbrev pub row_names : List Step → List (List ℕ)
row_names steps = map (λ r. r.name) (rows_of steps)

-- a free row has no sides
abbrev pub is_free : RowKind → Bool
is_free Free = true
is_free _ = false

-- the free rows
abbrev pub free_rows : List Step → List RowRecord
free_rows steps = filter (λ r. is_free r.kind) (rows_of steps)

-- the rows of the program: those that are not free
abbrev pub kept_rows : List Step → List RowRecord
kept_rows steps = filter (λ r. not (is_free r.kind)) (rows_of steps)

-- the name of the objective, which is the first free row
abbrev pub objective_of : List Step → Option (List ℕ)
objective_of steps = option_map (λ r. r.name) (slice_get (free_rows steps) 0)

-- whether a row is free
abbrev pub is_free_row : List Step → List ℕ → Bool
is_free_row steps name = list_any (λ r. bytes_eq name r.name) (free_rows steps)

-- a free row that is not the objective is dropped
abbrev pub is_dropped : List Step → List ℕ → Bool
is_dropped steps name = is_free_row steps name && not (option_map_or (bytes_eq name) (objective_of steps) false)

-- ---- columns
-- a column that is named, and whether it is whole if it is new
pub record ColumnRecord : Type 0 where
  pub name : List ℕ
  pub whole : Bool

-- a step may name one
abbrev pub column_in : Step → Option ColumnRecord
column_in (ToColumn name whole) = Some (record { name = name; whole = whole })
column_in _ = None

-- each column where it is first named
abbrev pub firsts : List ColumnRecord → List ColumnRecord
firsts [] = []
firsts (c ∷ cs) = c ∷ filter (λ d. not (bytes_eq c.name d.name)) (firsts cs)

-- the columns in order
unfoldable pub columns_of : List Step → List ColumnRecord
columns_of steps = firsts (filter_map column_in steps)

-- their names
abbrev pub column_names : List Step → List (List ℕ)
column_names steps = map (λ c. c.name) (columns_of steps)

-- ---- numbers
-- the value of a text, where it is a literal that fits, else 0
abbrev pub fitting_value : Option Literal → ℚ
fitting_value (Some (Fits value)) = value
fitting_value (Some (TooWide huge negative)) = zero_ℚ
fitting_value None = zero_ℚ

-- the bound or side that a text says: none where it is huge
abbrev pub bound_in : List ℕ → Option ℚ
bound_in text = option_map_or bound_of (literal_in text) None

-- ---- entries
-- the number of a column in a row
pub record EntryRecord : Type 0 where
  pub column : List ℕ
  pub row : List ℕ
  pub number : List ℕ

-- a step may give one
abbrev pub entry_in : Step → Option EntryRecord
entry_in (ToEntry column figure) = Some (record { column = column; row = figure.row; number = figure.number })
entry_in _ = None

-- the entries as they are written
unfoldable pub entries_of : List Step → List EntryRecord
entries_of steps = filter_map entry_in steps

-- whether an entry is that of the column and the row
abbrev pub is_entry_at : List ℕ → List ℕ → EntryRecord → Bool
is_entry_at column row e = bytes_eq column e.column && bytes_eq row e.row

-- the factor of a column in a row: the number of the one entry that names both, else 0
unfoldable pub factor_in : List Step → List ℕ → List ℕ → ℚ
factor_in steps column row = option_map_or (λ e. fitting_value (literal_in e.number)) (find (is_entry_at column row) (entries_of steps)) zero_ℚ

-- ---- right sides and ranges
-- a step may give a right side
abbrev pub side_in : Step → Option Figure
side_in (ToSide figure) = Some figure
side_in _ = None

-- or a range
abbrev pub range_in : Step → Option Figure
range_in (ToRange figure) = Some figure
range_in _ = None

-- the right sides as they are written
unfoldable pub sides_of : List Step → List Figure
sides_of steps = filter_map side_in steps

-- and the ranges
unfoldable pub ranges_of : List Step → List Figure
ranges_of steps = filter_map range_in steps

-- the figure of a row
abbrev pub figure_of : List Figure → List ℕ → Option Figure
figure_of figures row = find (λ f. bytes_eq row f.row) figures

-- the right side of a row: 0 where none is given, and none where it is huge
abbrev pub right_side : List Step → List ℕ → Option ℚ
right_side steps row = option_map_or (λ f. bound_in f.number) (figure_of (sides_of steps) row) (Some zero_ℚ)

-- the range of a row, where one is given
abbrev pub range_of : List Step → List ℕ → Option Literal
range_of steps row = option_map_or (λ f. literal_in f.number) (figure_of (ranges_of steps) row) None

-- ---- bounds
-- a step may give a bound
abbrev pub bounded_in : Step → Option Bounded
bounded_in (ToBound bound) = Some bound
bounded_in _ = None

-- the bounds as they are written
unfoldable pub bounds_of : List Step → List Bounded
bounds_of steps = filter_map bounded_in steps

-- the kinds that set the lower bound, be it that they take it away
abbrev pub sets_lower : BoundKind → Bool
sets_lower Lower = true
sets_lower WholeLower = true
sets_lower NoLower = true
sets_lower Fixed = true
sets_lower Unbounded = true
sets_lower Binary = true
sets_lower _ = false

-- and those that set the upper one
abbrev pub sets_upper : BoundKind → Bool
sets_upper Upper = true
sets_upper WholeUpper = true
sets_upper NoUpper = true
sets_upper Fixed = true
sets_upper Unbounded = true
sets_upper Binary = true
sets_upper _ = false

-- the kinds that make a column whole
abbrev pub makes_whole : BoundKind → Bool
makes_whole WholeLower = true
makes_whole WholeUpper = true
makes_whole Binary = true
makes_whole _ = false

-- whether two kinds set the same bound
abbrev pub sets_same : BoundKind → BoundKind → Bool
sets_same a b = (sets_lower a && sets_lower b) || (sets_upper a && sets_upper b)

-- the one bound of a column whose kind sets this
abbrev pub setting : (BoundKind → Bool) → List Step → List ℕ → Option Bounded
setting sets steps column = find (λ b. bytes_eq column b.column && sets b.kind) (bounds_of steps)
