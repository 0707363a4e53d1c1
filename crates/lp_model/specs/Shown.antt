-- How a program stands in the code's parts, and what is asked of a new name.
use Rattle.std.specs.Prelude.{◌+◌, ◌*◌, ◌≡◌, ℕ, ◌<◌, ◌≤◌, ◌⊎◌, Bool, true, false, List, [], ◌∷◌, ◌++◌, length, map, Option}
use Rattle.std.specs.List.{list_any}
use Rattle.std.specs.Str.{bytes_eq}
use Rattle.rational.specs.Rational.{ℚ, one_ℚ}
use Rattle.rational.specs.Linear.{Term}
use Rattle.lp_model.specs.declared.parts.Row.{Row}
use Rattle.lp_model.specs.declared.parts.Column.{Column}
use Rattle.lp_model.specs.Program.{Program, NamedRow, NamedColumn, Soft, IsWellFormed}
use Rattle.lp_model.specs.declared.limits.TheConstants.{MOST_ROWS, MOST_COLUMNS, MOST_FREE_ROWS, MOST_ENTRIES, LONGEST_NAME}

-- a row between these sides, which are kept and weigh 1
abbrev pub new_row : List Term → Option ℚ → Option ℚ → Row
new_row terms lo up = record {
  terms = terms;
  lo = lo;
  up = up;
  lo_active = true;
  up_active = true;
  lo_weight = Soft one_ℚ;
  up_weight = Soft one_ℚ;
}

-- a column between these bounds, which are kept and weigh 1, and with its mark kept where it has one
abbrev pub new_column : Option ℚ → Option ℚ → Bool → Column
new_column lo up whole = record {
  lo = lo;
  up = up;
  whole = whole;
  lower_active = true;
  upper_active = true;
  whole_active = true;
  lower_weight = Soft one_ℚ;
  upper_weight = Soft one_ℚ;
}

-- a row of the code, with a name
abbrev pub named_row : List ℕ → Row → NamedRow
named_row name row = record {
  name = name;
  terms = row.terms;
  lower = row.lo;
  upper = row.up;
  lower_active = row.lo_active;
  upper_active = row.up_active;
  lower_weight = row.lo_weight;
  upper_weight = row.up_weight;
}

-- and a column
abbrev pub named_column : List ℕ → Column → NamedColumn
named_column name column = record {
  name = name;
  lower = column.lo;
  upper = column.up;
  whole = column.whole;
  lower_active = column.lower_active;
  upper_active = column.upper_active;
  whole_active = column.whole_active;
  lower_weight = column.lower_weight;
  upper_weight = column.upper_weight;
}

-- a program without rows and columns, whose objective is 0
abbrev pub empty_program : Bool → Program
empty_program maximise = record { rows = []; columns = []; objective = []; maximise = maximise; notes = [] }

-- the names of the rows
abbrev pub row_names : Program → List (List ℕ)
row_names model = map (λ r. r.name) model.rows

-- and of the columns
abbrev pub column_names : Program → List (List ℕ)
column_names model = map (λ c. c.name) model.columns

-- one row more, at the end
abbrev pub with_more_row : Program → NamedRow → Program
with_more_row model row = record model { rows = model.rows ++ row ∷ [] }

-- and one column more
abbrev pub with_more_column : Program → NamedColumn → Program
with_more_column model column = record model { columns = model.columns ++ column ∷ [] }

-- ---- limits
-- the most rows
abbrev pub most_rows : ℕ
most_rows = MOST_ROWS

-- the most columns
abbrev pub most_columns : ℕ
most_columns = MOST_COLUMNS

-- the most members of a program: two sides of each row, and two bounds and a mark of each column
abbrev pub most_members : ℕ
most_members = 2 * most_rows + 3 * most_columns

-- the most rows without sides that a text may have
abbrev pub most_free_rows : ℕ
most_free_rows = MOST_FREE_ROWS

-- the most numbers that a text may give
abbrev pub most_entries : ℕ
most_entries = MOST_ENTRIES

-- the most bytes of a name
abbrev pub longest_name : ℕ
longest_name = LONGEST_NAME

-- whether a name is one of the names
abbrev pub is_named : List (List ℕ) → List ℕ → Bool
is_named names name = list_any (bytes_eq name) names

-- a new name is not there yet, there is room for one more, and it is not too long
pub record CanAdd (names : List (List ℕ)) (most : ℕ) (name : List ℕ) : Type 0 where
  pub fresh : is_named names name ≡ false
  pub room : length names < most
  pub short : length name ≤ longest_name

-- it is not there yet, but there is no room, or it is too long
pub record IsPastLimit (names : List (List ℕ)) (most : ℕ) (name : List ℕ) : Type 0 where
  pub fresh : is_named names name ≡ false
  pub past : (most ≤ length names) ⊎ (longest_name < length name)

-- a well-formed program within the limits, which is what the code keeps
pub record IsKept (model : Program) : Type 0 where
  pub well_formed : IsWellFormed model
  pub few_rows : length model.rows ≤ most_rows
  pub few_columns : length model.columns ≤ most_columns
