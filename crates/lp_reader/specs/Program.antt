-- The program that statements declare.
use Rattle.std.specs.Prelude.{ℕ, ◌+◌, ◌&&◌, not, Bool, false, cond, List, [], ◌∷◌, map, Option, Some, None}
use Rattle.std.specs.List.{filter_map}
use Rattle.rational.specs.Rational.{ℚ, zero_ℚ, lt_q, eq_ℚ}
use Rattle.rational.specs.Linear.{Term as LinearTerm}
use Rattle.lp_model.specs.declared.parts.Row.{Row}
use Rattle.lp_model.specs.declared.parts.Note.{Note}
use Rattle.lp_model.specs.declared.parts.Note.TheVariants.{LowerKept}
use Rattle.lp_model.specs.Program.{Program, NamedRow, NamedColumn}
use Rattle.lp_model.specs.Shown.{named_row, named_column, new_row, new_column}
use Rattle.lp_statements.specs.Statements.{Constant, Term, Statement, Objective}
use Rattle.lp_reader.specs.Numbers.{side_of, sum_of}
use Rattle.lp_reader.specs.Names.{RowPart, rows_of, columns_of, row_name}
use Rattle.lp_reader.specs.Bounds.{lower_constant, upper_constant, last_or, lower_of, upper_of, whole_of, is_lower_set}

-- a term before others, unless its factor is 0
abbrev pub with_term : ℕ → ℚ → List LinearTerm → List LinearTerm
with_term column value terms = cond (eq_ℚ value zero_ℚ) terms (record { column = column; factor = value } ∷ terms)

-- the form that terms give over columns from number j on
unfoldable pub form_from : ℕ → List (List ℕ) → List Term → List LinearTerm
form_from j [] terms = []
form_from j (name ∷ names) terms = with_term j (sum_of name terms) (form_from (j + 1) names terms)

-- the form that terms give: for each column in order the sum of its factors, where it is not 0
abbrev pub form_of : List (List ℕ) → List Term → List LinearTerm
form_of columns terms = form_from 0 columns terms

-- a side that a constant gives, if it is there
abbrev pub side_by : Option Constant → Option ℚ
side_by (Some constant) = side_of constant
side_by None = None

-- a row without its name
abbrev pub row_of : List (List ℕ) → RowPart → Row
row_of columns row =
    new_row (form_of columns row.terms) (side_by (lower_constant row.left row.relation (Some row.right))) (side_by (upper_constant row.left row.relation (Some row.right)))

-- the rows from the n-th on
unfoldable pub rows_from : ℕ → List (List ℕ) → List RowPart → List NamedRow
rows_from n columns [] = []
rows_from n columns (row ∷ rows) = named_row (row_name n row.label) (row_of columns row) ∷ rows_from (n + 1) columns rows

-- a column
abbrev pub column_of : List Statement → List ℕ → NamedColumn
column_of statements name = named_column name (new_column (lower_of statements name) (upper_of statements name) (whole_of statements name))

-- the terms of an objective, and whether it is to be made greatest
abbrev pub objective_in : Statement → Option (List Term)
objective_in (Objective maximise label terms) = Some terms
objective_in _ = None

-- its sense
abbrev pub sense_in : Statement → Option Bool
sense_in (Objective maximise label terms) = Some maximise
sense_in _ = None

-- a bound below 0
abbrev pub is_negative : Option ℚ → Bool
is_negative (Some value) = lt_q value zero_ℚ
is_negative None = false

-- a negative upper bound where no statement sets the lower one
unfoldable pub keeps_lower : List Statement → List ℕ → Bool
keeps_lower statements name = is_negative (upper_of statements name) && not (is_lower_set statements name)

-- the notes of columns from number j on
unfoldable pub notes_from : List Statement → ℕ → List (List ℕ) → List Note
notes_from statements j [] = []
notes_from statements j (name ∷ names) = cond (keeps_lower statements name) (LowerKept j ∷ notes_from statements (j + 1) names) (notes_from statements (j + 1) names)

-- the whole program
unfoldable pub program_of : List Statement → Program
program_of statements = record {
  rows = rows_from 1 (columns_of statements) (rows_of statements);
  columns = map (column_of statements) (columns_of statements);
  objective = form_of (columns_of statements) (last_or [] (filter_map objective_in statements));
  maximise = last_or false (filter_map sense_in statements);
  notes = notes_from statements 0 (columns_of statements);
}
