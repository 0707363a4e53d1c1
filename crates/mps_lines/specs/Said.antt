-- What the reading of one line gives.
use Rattle.std.specs.Prelude.{◌≡◌, ⊤, ℕ, ◌<◌, true, false, cond, List, [], ◌∷◌, ◌++◌, length, slice_index, slice_index_or, drop, map, Option, Some, None, Result, Ok, Err}
use Rattle.std.specs.Option.{option_map, option_map_or}
use Rattle.lane_scan.specs.Bytes.{is_blank}
use Rattle.text_fields.specs.Fields.{fields_of}
use Rattle.text_fields.specs.Lines.{line_text}
use Rattle.text_fields.specs.declared.spans.Line.{Line}
use Rattle.text_fields.specs.declared.faults.ReadFault.{ReadFault}
use Rattle.text_fields.specs.declared.faults.ReadFault.TheVariants.{Stop, Memory}
use Rattle.mps_lines.specs.declared.fielding.Fields.{Fields}
use Rattle.mps_lines.specs.declared.fielding.Fields.TheVariants.{Zero, One, Two, Three, Four, Five, More}
use Rattle.mps_lines.specs.declared.contexts.Context.{Context as ContextRead}
use Rattle.mps_lines.specs.declared.shapes.Figure.{Figure as FigureRead}
use Rattle.mps_lines.specs.declared.shapes.Bounded.{Bounded as BoundRead}
use Rattle.mps_lines.specs.declared.data.ColumnsRead.{ColumnsRead}
use Rattle.mps_lines.specs.declared.data.ColumnsRead.TheVariants.{Marker as ReadMarker, Entries as ReadEntries}
use Rattle.mps_lines.specs.declared.data.SetRead.{SetRead}
use Rattle.mps_lines.specs.declared.data.BoundRead.{BoundRead as BoundLineRead}
use Rattle.text_fields.specs.declared.faults.ReadKind.{ReadKind}
use Rattle.mps_lines.specs.declared.lines.Shape.{Shape}
use Rattle.mps_lines.specs.declared.lines.Shape.TheVariants.{PassedOver, Header, Data}
use Rattle.mps_lines.specs.declared.lines.Said.{Said}
use Rattle.mps_lines.specs.declared.lines.Said.TheVariants.{Nothing, Sense, Row, Entries, Sides, Ranges, Bound}
use Rattle.mps_lines.specs.Sections.{heading_word}
use Rattle.mps_lines.specs.Records.{Record, is_passed_over}
use Rattle.mps_lines.specs.Shapes.{Figure, Bounded, ColumnsLine, SetLine, BoundLine}
use Rattle.mps_lines.specs.Shapes.ColumnsLine.{Marker, Entries as EntriesOf}
use Rattle.mps_lines.specs.Contexts.{Context, context_of, data_context}
use Rattle.mps_lines.specs.Steps.{Step, Refused, ToSense, ToRow, ToColumn, ToEntry, ToSide, ToRange, ToBound, steps_of, data_steps, heading_steps, whole_steps}

-- at most five fields, or the first of more
abbrev pub AreFields : Fields → List (List ℕ) → Type 0
AreFields Zero fs = fs ≡ []
AreFields (One a) fs = fs ≡ a.now ∷ []
AreFields (Two a b) fs = fs ≡ a.now ∷ b.now ∷ []
AreFields (Three a b c) fs = fs ≡ a.now ∷ b.now ∷ c.now ∷ []
AreFields (Four a b c d) fs = fs ≡ a.now ∷ b.now ∷ c.now ∷ d.now ∷ []
AreFields (Five a b c d e) fs = fs ≡ a.now ∷ b.now ∷ c.now ∷ d.now ∷ e.now ∷ []
AreFields (More a) fs = (5 < length fs) × (slice_index_or fs 0 [] ≡ a.now)

-- ---- the code's parts, by their bytes
-- a figure
abbrev pub figure_shown : FigureRead → Figure
figure_shown f = record { row = f.row.now; number = f.number.now }

-- a bound
abbrev pub bound_shown : BoundRead → Bounded
bound_shown b = record { kind = b.kind; column = b.column.now; number = option_map (λ n. n.now) b.number }

-- a context
abbrev pub context_shown : ContextRead → Context
context_shown c = record {
  section = c.section;
  marked = c.marked;
  sides = option_map (λ s. s.now) c.sides;
  ranges = option_map (λ s. s.now) c.ranges;
  bounds = option_map (λ s. s.now) c.bounds;
}

-- ---- what is said
-- a figure and perhaps another
abbrev pub figures_said : FigureRead → Option FigureRead → List Figure
figures_said first None = figure_shown first ∷ []
figures_said first (Some second) = figure_shown first ∷ figure_shown second ∷ []

-- the steps that a line says
abbrev pub steps_said : Said → List Step
steps_said Nothing = []
steps_said (Sense greatest) = ToSense greatest ∷ []
steps_said (Row kind name) = ToRow kind name.now ∷ []
steps_said (Entries column whole first second) = ToColumn column.now whole ∷ map (ToEntry column.now) (figures_said first second)
steps_said (Sides first second) = map ToSide (figures_said first second)
steps_said (Ranges first second) = map ToRange (figures_said first second)
steps_said (Bound bound) = ToBound (bound_shown bound) ∷ []

-- ---- lines of sections
-- a marker, or a column with its figures
abbrev pub columns_shown : ColumnsRead → ColumnsLine
columns_shown (ReadMarker whole) = Marker whole
columns_shown (ReadEntries column first second) = EntriesOf column.now (figures_said first second)

-- a line of RHS or RANGES
abbrev pub set_shown : SetRead → SetLine
set_shown line = record { set = option_map (λ s. s.now) line.set; figures = figures_said line.first line.second }

-- a line of BOUNDS
abbrev pub bound_line_shown : BoundLineRead → BoundLine
bound_line_shown line = record { set = option_map (λ s. s.now) line.set; bound = bound_shown line.bound }

-- steps are those that are said, or the line is refused
abbrev pub Gives : List Step → Result Said ReadKind → Type 0
Gives steps (Ok said) = steps ≡ steps_said said
Gives steps (Err kind) = steps ≡ Refused kind ∷ []

-- the fields of a data line in a context are said so, and this is the context after it
abbrev pub Leads : ContextRead → List (List ℕ) → Result (Said × ContextRead) ReadKind → Type 0
Leads context fields (Ok found) = (context_shown found.1 ≡ data_context context.section (context_shown context) fields) × (data_steps context.section (context_shown found.1) fields ≡ steps_said found.0)
Leads context fields (Err kind) = data_steps context.section (data_context context.section (context_shown context) fields) fields ≡ Refused kind ∷ []

-- ---- headers
-- how a header leads: the section is its own, and all else stays
abbrev pub LeadsHeading : ContextRead → List (List ℕ) → Result (Said × ContextRead) ReadKind → Type 0
LeadsHeading context fields (Ok found) = (Some (context_shown found.1) ≡ option_map (λ s. record (context_shown context) { section = s }) (heading_word (slice_index_or fields 0 []))) × (heading_steps context.section (heading_word (slice_index_or fields 0 [])) (drop 1 fields) ≡ steps_said found.0)
LeadsHeading context fields (Err kind) = heading_steps context.section (heading_word (slice_index_or fields 0 [])) (drop 1 fields) ≡ Refused kind ∷ []

-- ---- the whole
-- what a line is
abbrev pub HasShape : List ℕ → Shape → Type 0
HasShape text PassedOver = is_passed_over text ≡ true
HasShape text Header = (is_passed_over text ≡ false) × (is_blank (slice_index text 0) ≡ false)
HasShape text Data = (is_passed_over text ≡ false) × (is_blank (slice_index text 0) ≡ true)

-- how the line after a line is to be read
abbrev pub next_context : Context → Record → Context
next_context context r =
    cond (is_passed_over r.text) context
    (cond (is_blank (slice_index r.text 0)) (data_context context.section context (fields_of r.text))
    (record context { section = option_map_or (λ s. s) (heading_word (slice_index_or (fields_of r.text) 0 [])) context.section }))

-- how a line without a fault of its own leads
abbrev pub LeadsLine : ContextRead → Record → Result (Said × ContextRead) ReadKind → Type 0
LeadsLine context r (Ok found) = (context_shown found.1 ≡ next_context (context_shown context) r) × (whole_steps r (context_shown found.1) ≡ steps_said found.0)
LeadsLine context r (Err kind) = whole_steps r (next_context (context_shown context) r) ≡ Refused kind ∷ []

-- the record of a line that is to be read so
abbrev pub record_at : List ℕ → Line → ContextRead → Record
record_at bytes line context = record { number = line.number; section = context.section; text = line_text bytes line }

-- the steps of a line that is not refused, and how the next line is to be read
pub record Says (front : List Record) (r : Record) (steps : List Step) (context : ContextRead) : Type 0 where
  pub steps_are : steps_of front r ≡ steps
  pub context_is : context_shown context ≡ context_of (front ++ r ∷ [])

-- a line that is refused, at its number; want of memory may come at any time
abbrev pub IsRefusal : List Record → Record → ReadFault → Type 0
IsRefusal front r (Stop stop) = (steps_of front r ≡ Refused stop.kind ∷ []) × (stop.line ≡ r.number)
IsRefusal front r Memory = ⊤
