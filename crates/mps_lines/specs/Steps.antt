-- What a model says step by step: the parts of its lines from the left, each with the number of its line.
use Rattle.std.specs.Prelude.{ℕ, max, Bool, cond, List, [], ◌∷◌, ◌++◌, length, map, drop, slice_index_or, Option, Some, None, Result, Ok, Err}
use Rattle.std.specs.List.{list_any}
use Rattle.text_fields.specs.Fields.{fields_of, field_fault}
use Rattle.text_fields.specs.Lines.{lines_of}
use Rattle.text_fields.specs.declared.faults.TextKind.{TextKind}
use Rattle.text_fields.specs.declared.faults.ReadKind.{ReadKind}
use Rattle.text_fields.specs.declared.faults.ReadKind.TheVariants.{Text, Order, Unsupported, BadField, Truncated}
use Rattle.mps_lines.specs.Sections.{Section, Name, Sense, Rows, Columns, Sides, Ranges, Bounds, heading_word, may_follow}
use Rattle.mps_lines.specs.Records.{Record, is_passed_over, is_header, is_last, records}
use Rattle.mps_lines.specs.Shapes.{RowKind, Figure, ColumnsLine, SetLine, Bounded, BoundLine, sense_word, row_word, columns_line, set_line, bound_line}
use Rattle.mps_lines.specs.Shapes.ColumnsLine.{Marker, Entries}
use Rattle.mps_lines.specs.Contexts.{Context, context_of, is_used}

-- a step: a line or the whole text is refused as such; the sense is given (true to make the objective greatest); a row is declared; a column is named, and whole where it is new; an entry; the right side of a row; its range; a bound of a column
pub data Step : Type 0 where
  Refused : ReadKind → Step
  ToSense : Bool → Step
  ToRow : RowKind → List ℕ → Step
  ToColumn : List ℕ → Bool → Step
  ToEntry : List ℕ → Figure → Step
  ToSide : Figure → Step
  ToRange : Figure → Step
  ToBound : Bounded → Step

-- a line that is refused
abbrev pub refused : ReadKind → List Step
refused kind = Refused kind ∷ []

-- ---- headers
-- the sense, as a word says it
abbrev pub sense_steps : Option Bool → List Step
sense_steps None = refused BadField
sense_steps (Some greatest) = ToSense greatest ∷ []

-- after OBJSENSE at most one word
abbrev pub sense_further : List (List ℕ) → List Step
sense_further [] = []
sense_further (word ∷ []) = sense_steps (sense_word word)
sense_further _ = refused BadField

-- after others nothing
abbrev pub bare_further : List (List ℕ) → List Step
bare_further [] = []
bare_further _ = refused BadField

-- what follows on a header's line; after NAME it is anything
abbrev pub further_steps : Section → List (List ℕ) → List Step
further_steps Name further = []
further_steps Sense further = sense_further further
further_steps _ further = bare_further further

-- a header in its order, or not
abbrev pub heading_steps : Section → Option Section → List (List ℕ) → List Step
heading_steps before None further = refused Unsupported
heading_steps before (Some next) further = cond (may_follow before next) (further_steps next further) (refused Order)

-- ---- data
-- a row: its kind and its name
abbrev pub row_steps : Option RowKind → List ℕ → List Step
row_steps None name = refused BadField
row_steps (Some kind) name = ToRow kind name ∷ []

-- a line of COLUMNS: a marker says nothing by itself
abbrev pub columns_steps : Bool → Option ColumnsLine → List Step
columns_steps whole None = refused BadField
columns_steps whole (Some (Marker on)) = []
columns_steps whole (Some (Entries column figures)) = ToColumn column whole ∷ map (ToEntry column) figures

-- a line of RHS or RANGES: one of another set says nothing
abbrev pub set_steps : (Figure → Step) → Option (List ℕ) → Option SetLine → List Step
set_steps to first None = refused BadField
set_steps to first (Some line) = cond (is_used first line.set) (map to line.figures) []

-- a line of BOUNDS
abbrev pub bound_steps : Option (List ℕ) → Result BoundLine ReadKind → List Step
bound_steps first (Err kind) = refused kind
bound_steps first (Ok line) = cond (is_used first line.set) (ToBound line.bound ∷ []) []

-- one word under OBJSENSE
abbrev pub sense_data : List (List ℕ) → List Step
sense_data (word ∷ []) = sense_steps (sense_word word)
sense_data _ = refused BadField

-- a kind and a name under ROWS
abbrev pub row_data : List (List ℕ) → List Step
row_data (kind ∷ name ∷ []) = row_steps (row_word kind) name
row_data _ = refused BadField

-- the fields of a data line; `context` is that of the lines up to it, with it
abbrev pub data_steps : Section → Context → List (List ℕ) → List Step
data_steps Sense context fields = sense_data fields
data_steps Rows context fields = row_data fields
data_steps Columns context fields = columns_steps context.marked (columns_line fields)
data_steps Sides context fields = set_steps ToSide context.sides (set_line fields)
data_steps Ranges context fields = set_steps ToRange context.ranges (set_line fields)
data_steps Bounds context fields = bound_steps context.bounds (bound_line fields)
data_steps _ context fields = refused Order

-- ---- the whole
-- a line without a fault of its own
abbrev pub whole_steps : Record → Context → List Step
whole_steps r context =
    cond (is_passed_over r.text) []
    (cond (is_header r.text)
    (heading_steps r.section (heading_word (slice_index_or (fields_of r.text) 0 [])) (drop 1 (fields_of r.text)))
    (data_steps r.section context (fields_of r.text)))

-- a line with one has only that
abbrev pub steps_unless : Option TextKind → List Step → List Step
steps_unless (Some kind) steps = refused (Text kind)
steps_unless None steps = steps

-- the steps of a line after those of a front
unfoldable pub steps_of : List Record → Record → List Step
steps_of front r = steps_unless (field_fault r.text) (whole_steps r (context_of (front ++ r ∷ [])))

-- a step with the number of its line
pub record Placed : Type 0 where
  pub line : ℕ
  pub step : Step

-- a step of this line
abbrev pub placed : ℕ → Step → Placed
placed line step = record { line = line; step = step }

-- the steps of records after those of a front
unfoldable pub steps_after : List Record → List Record → List Placed
steps_after front [] = []
steps_after front (r ∷ rs) = map (placed r.number) (steps_of front r) ++ steps_after (front ++ r ∷ []) rs

-- a text whose model has no end is refused at its last line
abbrev pub ending : List (List ℕ) → List Placed
ending lines = cond (list_any is_last lines) [] (placed (max 1 (length lines)) (Refused Truncated) ∷ [])

-- all steps of a text
unfoldable pub all_steps : List ℕ → List Placed
all_steps bytes = steps_after [] (records bytes) ++ ending (lines_of bytes)
