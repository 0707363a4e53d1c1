-- The program that a model declares.
use Rattle.std.specs.Prelude.{ℕ, ◌+◌, false, cond, List, [], ◌∷◌, map, slice_get}
use Rattle.std.specs.Option.{option_map_or}
use Rattle.rational.specs.Rational.{ℚ, zero_ℚ, eq_ℚ}
use Rattle.rational.specs.Linear.{Term}
use Rattle.lp_model.specs.declared.parts.Note.{Note}
use Rattle.lp_model.specs.declared.parts.Note.TheVariants.{LowerRemoved}
use Rattle.lp_model.specs.Program.{Program, NamedRow, NamedColumn}
use Rattle.lp_model.specs.Shown.{named_row, named_column, new_row, new_column}
use Rattle.mps_lines.specs.Steps.{Step, all_steps}
use Rattle.mps_reader.specs.Tables.{RowRecord, ColumnRecord, kept_rows, columns_of, column_names, objective_of, factor_in, right_side, range_of, senses_of}
use Rattle.mps_reader.specs.Sides.{row_sides, lower_in, upper_in, whole_in, is_removed}

-- the term of a column before others, where its factor is not 0
abbrev pub with_term : ℕ → ℚ → List Term → List Term
with_term column factor terms = cond (eq_ℚ factor zero_ℚ) terms (record { column = column; factor = factor } ∷ terms)

-- the terms of columns, the first of which has this number
unfoldable pub terms_from : (List ℕ → ℚ) → ℕ → List (List ℕ) → List Term
terms_from factor column [] = []
terms_from factor column (name ∷ names) = with_term column (factor name) (terms_from factor (column + 1) names)

-- the terms of a row: each column in order whose factor is not 0
unfoldable pub terms_of : List Step → List ℕ → List Term
terms_of steps row = terms_from (λ column. factor_in steps column row) 0 (column_names steps)

-- a row of the program
abbrev pub named_row_of : List Step → RowRecord → NamedRow
named_row_of steps r =
    let sides = row_sides r.kind (right_side steps r.name) (range_of steps r.name) in
    named_row r.name (new_row (terms_of steps r.name) sides.0 sides.1)

-- a column of the program
abbrev pub named_column_of : List Step → ColumnRecord → NamedColumn
named_column_of steps c = named_column c.name (new_column (lower_in steps c.name) (upper_in steps c.name) (whole_in steps c))

-- the notes of columns, the first of which has this number: where the lower bound 0 is removed
unfoldable pub notes_from : List Step → ℕ → List (List ℕ) → List Note
notes_from steps column [] = []
notes_from steps column (name ∷ names) = cond (is_removed steps name) (LowerRemoved column ∷ notes_from steps (column + 1) names) (notes_from steps (column + 1) names)

-- the program that steps declare
unfoldable pub program_of : List Step → Program
program_of steps = record {
  rows = map (named_row_of steps) (kept_rows steps);
  columns = map (named_column_of steps) (columns_of steps);
  objective = option_map_or (terms_of steps) (objective_of steps) [];
  maximise = option_map_or (λ b. b) (slice_get (senses_of steps) 0) false;
  notes = notes_from steps 0 (column_names steps);
}

-- the program that a text declares
abbrev pub mps_program : List ℕ → Program
mps_program bytes = program_of (map (λ p. p.step) (all_steps bytes))
