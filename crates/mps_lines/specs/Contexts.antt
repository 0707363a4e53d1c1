-- What the lines before a line say about how it is to be read: its section, whether its columns are whole, and which sets are used.
use Rattle.std.specs.Prelude.{ℕ, Bool, true, false, ◌&&◌, cond, List, slice_get, Option, Some, None, Result, Ok, Err}
use Rattle.std.specs.List.{filter_map, last_or}
use Rattle.std.specs.Option.{option_map_or}
use Rattle.std.specs.Str.{bytes_eq}
use Rattle.text_fields.specs.Fields.{fields_of}
use Rattle.text_fields.specs.declared.faults.ReadKind.{ReadKind}
use Rattle.mps_lines.specs.Sections.{Section, Columns, Sides, Ranges, Bounds, is_section}
use Rattle.mps_lines.specs.Records.{Record, is_data, section_after}
use Rattle.mps_lines.specs.Shapes.{ColumnsLine, SetLine, BoundLine, columns_line, set_line, bound_line}
use Rattle.mps_lines.specs.Shapes.ColumnsLine.{Marker, Entries}

-- the fields of a data line of a section
abbrev pub fields_in : Section → Record → Option (List (List ℕ))
fields_in section r = cond (is_section section r.section && is_data r.text) (Some (fields_of r.text)) None

-- ---- markers
-- what a marker says
abbrev pub marker_of : Option ColumnsLine → Option Bool
marker_of (Some (Marker whole)) = Some whole
marker_of (Some (Entries column figures)) = None
marker_of None = None

-- a line of COLUMNS may be a marker
abbrev pub marker_in : Record → Option Bool
marker_in r = option_map_or (λ fields. marker_of (columns_line fields)) (fields_in Columns r) None

-- whether columns are whole after some lines: the last marker says so
abbrev pub is_marked : List Record → Bool
is_marked records = option_map_or (λ b. b) (last_or None (filter_map marker_in records)) false

-- ---- sets
-- the set that a line of RHS or RANGES names
abbrev pub set_of_line : Option SetLine → Option (List ℕ)
set_of_line (Some line) = line.set
set_of_line None = None

-- and the one that a line of BOUNDS names
abbrev pub set_of_bound : Result BoundLine ReadKind → Option (List ℕ)
set_of_bound (Ok line) = line.set
set_of_bound (Err kind) = None

-- the set that fields name in a section
abbrev pub set_of_fields : Section → List (List ℕ) → Option (List ℕ)
set_of_fields Sides fields = set_of_line (set_line fields)
set_of_fields Ranges fields = set_of_line (set_line fields)
set_of_fields Bounds fields = set_of_bound (bound_line fields)
set_of_fields _ fields = None

-- the set that a line of a section names
abbrev pub set_in : Section → Record → Option (List ℕ)
set_in section r = option_map_or (set_of_fields section) (fields_in section r) None

-- the first set that is named in a section
abbrev pub first_set : Section → List Record → Option (List ℕ)
first_set section records = slice_get (filter_map (set_in section) records) 0

-- a line without a set is used, and one of the first set
abbrev pub is_used : Option (List ℕ) → Option (List ℕ) → Bool
is_used first None = true
is_used None (Some set) = true
is_used (Some first) (Some set) = bytes_eq first set

-- ---- all of it
-- how the line after some lines is to be read
pub record Context : Type 0 where
  pub section : Section
  pub marked : Bool
  pub sides : Option (List ℕ)
  pub ranges : Option (List ℕ)
  pub bounds : Option (List ℕ)

-- what some lines say about it
unfoldable pub context_of : List Record → Context
context_of records = record {
  section = section_after records;
  marked = is_marked records;
  sides = first_set Sides records;
  ranges = first_set Ranges records;
  bounds = first_set Bounds records;
}

-- ---- line by line
-- the first of two that is there
abbrev pub first_or : Option (List ℕ) → Option (List ℕ) → Option (List ℕ)
first_or (Some first) second = Some first
first_or None second = second

-- how the line after a data line is to be read
abbrev pub data_context : Section → Context → List (List ℕ) → Context
data_context Columns context fields = record context { marked = option_map_or (λ b. b) (marker_of (columns_line fields)) context.marked }
data_context Sides context fields = record context { sides = first_or context.sides (set_of_line (set_line fields)) }
data_context Ranges context fields = record context { ranges = first_or context.ranges (set_of_line (set_line fields)) }
data_context Bounds context fields = record context { bounds = first_or context.bounds (set_of_bound (bound_line fields)) }
data_context _ context fields = context
