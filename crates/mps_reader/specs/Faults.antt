-- The first fault of a model.
use Rattle.std.specs.Prelude.{ℕ, nat_le, nat_lt, Bool, true, false, ◌&&◌, ◌||◌, not, is_some, cond, List, [], ◌∷◌, ◌++◌, length, find, Option, Some, None}
use Rattle.std.specs.List.{list_any}
use Rattle.std.specs.Option.{option_map, option_map_or}
use Rattle.std.specs.Str.{bytes_eq}
use Rattle.frac128.specs.declared.literal.Literal.{Literal}
use Rattle.frac128.specs.declared.literal.Literal.TheVariants.{Fits, TooWide}
use Rattle.text_fields.specs.Numbers.{literal_in}
use Rattle.text_fields.specs.declared.faults.TextKind.TheVariants.{BadNumber, NumberWide}
use Rattle.text_fields.specs.declared.faults.ReadKind.{ReadKind}
use Rattle.text_fields.specs.declared.faults.ReadKind.TheVariants.{Text, UnknownName, DuplicateName, DuplicateEntry, BadField, Limit, SumWide}
use Rattle.text_fields.specs.declared.faults.ReadStop.{ReadStop}
use Rattle.lp_model.specs.Shown.{is_named, longest_name, most_rows, most_columns, most_free_rows, most_entries}
use Rattle.text_fields.specs.Numbers.{is_wide_bound}
use Rattle.mps_lines.specs.declared.shapes.RowKind.{RowKind}
use Rattle.mps_lines.specs.Shapes.{Figure, Bounded}
use Rattle.mps_lines.specs.Steps.{Step, Placed, Refused, ToSense, ToRow, ToColumn, ToEntry, ToSide, ToRange, ToBound, all_steps}
use Rattle.mps_reader.specs.Tables.{row_names, rows_of, free_rows, kept_rows, is_free, is_free_row, is_dropped, column_names, columns_of, entries_of, is_entry_at, sides_of, ranges_of, figure_of, right_side, bounds_of, sets_same, senses_of}
use Rattle.mps_reader.specs.Sides.{is_range_wide}

-- ---- tests
-- tests in order, each with the fault that it finds: the first that is true
unfoldable pub first_true : List (Bool × ReadKind) → Option ReadKind
first_true [] = None
first_true (test ∷ tests) = cond test.0 (Some test.1) (first_true tests)

-- a name of more than 255 bytes
abbrev pub is_too_long : List ℕ → Bool
is_too_long name = nat_lt longest_name (length name)

-- there is no room for one more row of this kind
abbrev pub is_full : List Step → RowKind → Bool
is_full front kind = cond (is_free kind) (nat_le most_free_rows (length (free_rows front))) (nat_le most_rows (length (kept_rows front)))

-- a text that is no literal
abbrev pub is_no_number : List ℕ → Bool
is_no_number text = not (is_some (literal_in text))

-- a literal that does not fit
abbrev pub is_wide_literal : Literal → Bool
is_wide_literal (Fits value) = false
is_wide_literal (TooWide huge negative) = true

-- a text that is one
abbrev pub is_wide_number : List ℕ → Bool
is_wide_number text = option_map_or is_wide_literal (literal_in text) false

-- a text that is one, and is not huge
abbrev pub is_wide_side : List ℕ → Bool
is_wide_side text = option_map_or is_wide_bound (literal_in text) false

-- the kind of a row
abbrev pub kind_of : List Step → List ℕ → Option RowKind
kind_of steps name = option_map (λ r. r.kind) (find (λ r. bytes_eq name r.name) (rows_of steps))

-- whether the sum of a row's range is too wide
abbrev pub is_sum_wide : List Step → Figure → Bool
is_sum_wide front figure = option_map_or (λ kind. option_map_or (is_range_wide kind (right_side front figure.row)) (literal_in figure.number) false) (kind_of front figure.row) false

-- whether a bound of the same column sets the same
abbrev pub is_set_twice : List Step → Bounded → Bool
is_set_twice front bound = list_any (λ b. bytes_eq bound.column b.column && sets_same bound.kind b.kind) (bounds_of front)

-- ---- steps
-- the tests of a row: its name is new, it is not too long, and there is room
abbrev pub row_tests : List Step → RowKind → List ℕ → List (Bool × ReadKind)
row_tests front kind name =
    (is_named (row_names front) name, DuplicateName)
    ∷ (is_too_long name || is_full front kind, Limit) ∷ []

-- the tests of a column: one that is new is not too long, and there is room
abbrev pub column_tests : List Step → List ℕ → List (Bool × ReadKind)
column_tests front name = (not (is_named (column_names front) name) && (is_too_long name || nat_le most_columns (length (columns_of front))), Limit) ∷ []

-- the tests of an entry: its row is declared, its number is one and, unless the row is dropped, fits, the entry is the first of the two, and there is room
abbrev pub entry_tests : List Step → List ℕ → Figure → List (Bool × ReadKind)
entry_tests front column figure =
    (not (is_named (row_names front) figure.row), UnknownName)
    ∷ (is_no_number figure.number, Text BadNumber)
    ∷ (not (is_dropped front figure.row) && is_wide_number figure.number, Text NumberWide)
    ∷ (not (is_dropped front figure.row) && list_any (is_entry_at column figure.row) (entries_of front), DuplicateEntry)
    ∷ (nat_le most_entries (length (entries_of front)), Limit) ∷ []

-- the tests of a right side or a range among those before: its row is declared, its number is one and, unless the row is free, fits or is huge, and it is the first of its row
abbrev pub figure_tests : List Step → List Figure → Figure → List (Bool × ReadKind)
figure_tests front figures figure =
    (not (is_named (row_names front) figure.row), UnknownName)
    ∷ (is_no_number figure.number, Text BadNumber)
    ∷ (not (is_free_row front figure.row) && is_wide_side figure.number, Text NumberWide)
    ∷ (not (is_free_row front figure.row) && is_some (figure_of figures figure.row), DuplicateEntry) ∷ []

-- the tests of a bound: its column is declared, its number, if it has one, is one and fits or is huge, and no bound sets the same
abbrev pub bound_tests : List Step → Bounded → List (Bool × ReadKind)
bound_tests front bound =
    (not (is_named (column_names front) bound.column), UnknownName)
    ∷ (option_map_or is_no_number bound.number false, Text BadNumber)
    ∷ (option_map_or is_wide_side bound.number false, Text NumberWide)
    ∷ (is_set_twice front bound, DuplicateEntry) ∷ []

-- what is wrong with a step after those of a front
unfoldable pub fault : List Step → Step → Option ReadKind
fault front (Refused kind) = Some kind
fault front (ToSense greatest) = first_true ((nat_lt 0 (length (senses_of front)), BadField) ∷ [])
fault front (ToRow kind name) = first_true (row_tests front kind name)
fault front (ToColumn name whole) = first_true (column_tests front name)
fault front (ToEntry column figure) = first_true (entry_tests front column figure)
fault front (ToSide figure) = first_true (figure_tests front (sides_of front) figure)
fault front (ToRange figure) = first_true (figure_tests front (ranges_of front) figure ++ (not (is_free_row front figure.row) && is_sum_wide front figure, SumWide) ∷ [])
fault front (ToBound bound) = first_true (bound_tests front bound)

-- ---- the first
-- the fault at a line, or that of the rest
abbrev pub stop_or : ℕ → Option ReadKind → Option ReadStop → Option ReadStop
stop_or line (Some kind) rest = Some (record { line = line; kind = kind })
stop_or line None rest = rest

-- the first step after a front that has a fault after the steps before it
unfoldable pub first_fault : List Step → List Placed → Option ReadStop
first_fault front [] = None
first_fault front (p ∷ ps) = stop_or p.line (fault front p.step) (first_fault (front ++ p.step ∷ []) ps)

-- the first fault of a text, if it has one
unfoldable pub mps_fault : List ℕ → Option ReadStop
mps_fault bytes = first_fault [] (all_steps bytes)
