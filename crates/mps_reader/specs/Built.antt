-- The program of a reader, by the places of rows and columns.
use Rattle.std.specs.Prelude.{◌≡◌, ℕ, ◌<◌, ◌≤◌, ◌&&◌, ◌||◌, not, nat_eq, cond, Bool, false, is_some, unwrap_or, All, IfSome, List, [], length, map, slice_index_or, Option, Some, None}
use Rattle.std.specs.Option.{option_map_or}
use Rattle.std.specs.List.{IsDistinct}
use Rattle.std.specs.Map.{lookup}
use Rattle.std.specs.Str.{bytes_eq}
use Rattle.rational.specs.Rational.{ℚ, zero_ℚ, lt_q}
use Rattle.rational.specs.Linear.{Term}
use Rattle.lp_model.specs.declared.parts.Note.TheVariants.{LowerRemoved}
use Rattle.lp_model.specs.Program.{Program, NamedRow, NamedColumn}
use Rattle.lp_model.specs.Shown.{most_columns, most_rows, longest_name, named_row, named_column, new_row, new_column}
use Rattle.name_map.specs.Names.{name_at}
use Rattle.mps_lines.specs.Steps.{Step}
use Rattle.mps_reader.specs.declared.tables.Reader.{Reader}
use Rattle.mps_reader.specs.Tables.{is_free}
use Rattle.mps_reader.specs.Sides.{row_sides, is_range_wide}
use Rattle.mps_reader.specs.Held.{Holds, tables, MakeSides, row_names_held, column_names_held, kind_held, right_held}
use Rattle.mps_reader.specs.Gathered.{factor_kept, terms_to, listed, listed_where}

-- a reader that keeps what some steps say, whose ranges make sides that fit
pub record IsRead (reader : Reader) : Type 0 where
  pub steps : List Step
  pub holds : Holds reader steps
  pub sides : MakeSides (tables steps)

-- ---- columns
-- the upper bound of a column
abbrev pub upper_held : Reader → ℕ → Option ℚ
upper_held reader column = unwrap_or (lookup (nat_eq column) reader.uppers.entries) None

-- a bound below 0
abbrev pub is_negative_bound : Option ℚ → Bool
is_negative_bound bound = option_map_or (λ value. lt_q value zero_ℚ) bound false

-- whether its lower bound 0 is removed
abbrev pub is_removed_held : Reader → ℕ → Bool
is_removed_held reader column = not (is_some (lookup (nat_eq column) reader.lowers.entries)) && is_negative_bound (upper_held reader column)

-- its lower bound
abbrev pub lower_held : Reader → ℕ → Option ℚ
lower_held reader column = unwrap_or (lookup (nat_eq column) reader.lowers.entries) (cond (is_negative_bound (upper_held reader column)) None (Some zero_ℚ))

-- whether it is whole
abbrev pub whole_held : Reader → ℕ → Bool
whole_held reader column = slice_index_or (map (λ e. e.1) reader.columns) column false || is_some (lookup (nat_eq column) reader.wholes.entries)

-- a column of the program
abbrev pub column_held : Reader → ℕ → NamedColumn
column_held reader column = named_column (name_at (column_names_held reader) column) (new_column (lower_held reader column) (upper_held reader column) (whole_held reader column))

-- the program after some columns, with no rows
abbrev pub columns_to : Reader → ℕ → Program
columns_to reader n = record {
  rows = [];
  columns = listed (column_held reader) n;
  objective = [];
  maximise = unwrap_or reader.sense false;
  notes = listed_where (is_removed_held reader) LowerRemoved n;
}

-- ---- rows
-- the terms of a row
abbrev pub terms_held : Reader → ℕ → List Term
terms_held reader row = terms_to (factor_kept reader.entries.entries row) (length reader.columns)

-- lists of terms are, from a place on, those of the rows
abbrev pub AreTermsFrom : Reader → ℕ → List (List Term) → Type 0
AreTermsFrom reader first lists = (i : ℕ) → first ≤ i → i < length reader.rows → slice_index_or lists i [] ≡ terms_held reader i

-- its sides
abbrev pub sides_held : Reader → ℕ → Option ℚ × Option ℚ
sides_held reader row = row_sides (kind_held reader row) (right_held reader row) (lookup (nat_eq row) reader.ranges.entries)

-- a row of the program
abbrev pub row_held : Reader → ℕ → NamedRow
row_held reader row = named_row (name_at (row_names_held reader) row) (new_row (terms_held reader row) (sides_held reader row).0 (sides_held reader row).1)

-- whether a row is one of the program's
abbrev pub is_kept_held : Reader → ℕ → Bool
is_kept_held reader row = not (is_free (kind_held reader row))

-- the objective
abbrev pub objective_held : Reader → List Term
objective_held reader = option_map_or (terms_held reader) reader.objective []

-- the program after all columns and some rows
abbrev pub rows_to : Reader → ℕ → Program
rows_to reader n = record (columns_to reader (length reader.columns)) {
  rows = listed_where (is_kept_held reader) (row_held reader) n;
  objective = objective_held reader;
}

-- the whole program
abbrev pub program_held : Reader → Program
program_held reader = rows_to reader (length reader.rows)

-- ---- what is asked of a reader
-- names that differ, none of which is too long
pub record AreNames (names : List (List ℕ)) : Type 0 where
  pub apart : IsDistinct bytes_eq names
  pub short : All (λ name. length name ≤ longest_name) names

-- the side that the range of a row makes fits, where the row has a range and is not free
abbrev pub HasSides : Reader → ℕ → Type 0
HasSides reader row = is_free (kind_held reader row) ≡ false → IfSome (lookup (nat_eq row) reader.ranges.entries) (λ range. is_range_wide (kind_held reader row) (right_held reader row) range ≡ false)

-- each place is one of a row or a column, their names may be added, there are few columns and few rows that are not free, and their sides fit
pub record IsSound (reader : Reader) : Type 0 where
  pub few : length reader.columns ≤ most_columns
  pub few_rows : length (listed_where (is_kept_held reader) (row_held reader) (length reader.rows)) ≤ most_rows
  pub rows : AreNames (row_names_held reader)
  pub columns : AreNames (column_names_held reader)
  pub entries : All (λ e. (e.0.0 < length reader.rows) × (e.0.1 < length reader.columns)) reader.entries.entries
  pub objective : IfSome reader.objective (λ row. row < length reader.rows)
  pub sides : (row : ℕ) → row < length reader.rows → HasSides reader row
