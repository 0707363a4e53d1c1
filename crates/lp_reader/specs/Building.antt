-- Columns of a model from a reader's tables.
use Rattle.std.specs.Prelude.{ℕ, zero, suc, ◌&&◌, not, Bool, cond, List, [], ◌∷◌, ◌++◌, None, slice_index_or}
use Rattle.lp_model.specs.declared.parts.Row.{Row}
use Rattle.lp_model.specs.declared.parts.Note.{Note}
use Rattle.lp_model.specs.declared.parts.Note.TheVariants.{LowerKept}
use Rattle.lp_model.specs.Program.{NamedColumn, NamedRow}
use Rattle.lp_model.specs.Shown.{named_row, named_column, new_row, new_column}
use Rattle.name_map.specs.Names.{name_at}
use Rattle.lp_reader.specs.State.{plain}
use Rattle.lp_reader.specs.declared.columns.Bounds.{Bounds}
use Rattle.lp_reader.specs.Program.{is_negative}

-- a column with these bounds
abbrev pub column_shown : List ℕ → Bounds → NamedColumn
column_shown name bounds = named_column name (new_column bounds.lo bounds.up bounds.whole)

-- a negative upper bound where no statement set the lower one
abbrev pub keeps_lower_in : Bounds → Bool
keeps_lower_in bounds = is_negative bounds.up && not bounds.lower_set

-- f 0, f 1 up to f (n - 1)
abbrev pub listed : {X : Type 0} → (ℕ → X) → ℕ → List X
listed f zero = []
listed f (suc n) = listed f n ++ f n ∷ []

-- the first n columns
abbrev pub columns_listed : List (List ℕ) → List Bounds → ℕ → List NamedColumn
columns_listed names bounds n = listed (λ i. column_shown (name_at names i) (slice_index_or bounds i plain)) n

-- what stands past the last row
abbrev pub no_row : Row
no_row = new_row [] None None

-- the first n rows
abbrev pub rows_listed : List (List ℕ) → List Row → ℕ → List NamedRow
rows_listed names rows n = listed (λ i. named_row (name_at names i) (slice_index_or rows i no_row)) n

-- the note of a column with these bounds, if it has one
abbrev pub note_of : ℕ → Bounds → List Note
note_of j bounds = cond (keeps_lower_in bounds) (LowerKept j ∷ []) []

-- the notes of the first n columns
abbrev pub notes_listed : List Bounds → ℕ → List Note
notes_listed bounds zero = []
notes_listed bounds (suc n) = notes_listed bounds n ++ note_of n (slice_index_or bounds n plain)
