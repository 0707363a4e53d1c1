-- What a reader keeps of the steps so far: by the places of rows and columns what the look-ups find by their names.
use Rattle.std.specs.Prelude.{◌≡◌, ⊤, ℕ, ◌<◌, ◌≤◌, ◌&&◌, ◌||◌, not, cond, nat_eq, nat_le, Bool, true, false, is_some, unwrap_or, All, IfSome, List, [], ◌∷◌, ◌++◌, length, map, filter, find, slice_get, slice_index_or, Option, Some, None, Result, Ok, Err, MatchResult}
use Rattle.std.specs.Map.{lookup}
use Rattle.indexmap.specs.IndexMap.{insert_entry}
use Rattle.std.specs.List.{list_any}
use Rattle.std.specs.Option.{option_map, option_map_or}
use Rattle.std.specs.Str.{bytes_eq}
use Rattle.rational.specs.Rational.{ℚ, zero_ℚ}
use Rattle.frac128.specs.declared.literal.Literal.{Literal}
use Rattle.frac128.specs.declared.literal.Literal.TheVariants.{Fits, TooWide}
use Rattle.text_fields.specs.Numbers.{literal_in}
use Rattle.text_fields.specs.declared.faults.TextKind.{TextKind}
use Rattle.text_fields.specs.declared.faults.TextKind.TheVariants.{BadNumber, NumberWide}
use Rattle.text_fields.specs.declared.faults.ReadKind.{ReadKind}
use Rattle.text_fields.specs.declared.faults.ReadFault.{ReadFault}
use Rattle.text_fields.specs.declared.faults.ReadFault.TheVariants.{Stop, Memory}
use Rattle.lp_model.specs.Shown.{most_rows, most_free_rows, most_columns, longest_name}
use Rattle.name_map.specs.Names.{name_at, names_of}
use Rattle.mps_lines.specs.declared.shapes.RowKind.{RowKind}
use Rattle.mps_lines.specs.declared.shapes.RowKind.TheVariants.{Free}
use Rattle.mps_lines.specs.declared.shapes.BoundKind.{BoundKind}
use Rattle.mps_lines.specs.Shapes.{Figure, Bounded}
use Rattle.mps_lines.specs.Steps.{Step}
use Rattle.mps_reader.specs.Tables.{RowRecord, ColumnRecord, EntryRecord, is_free, is_entry_at, fitting_value, bound_in, figure_of, sets_lower, sets_upper, makes_whole, senses_of, rows_of, columns_of, entries_of, sides_of, ranges_of, bounds_of}
use Rattle.mps_reader.specs.Sides.{Move, lower_set, upper_set, is_range_wide}
use Rattle.mps_reader.specs.Sides.Move.{Down, Up, Stays}
use Rattle.mps_reader.specs.Faults.{fault, is_no_number, is_wide_side}
use Rattle.mps_reader.specs.declared.tables.Reader.{Reader}
use Rattle.mps_reader.specs.declared.sides.Direction.{Direction}
use Rattle.mps_reader.specs.declared.sides.Direction.TheVariants.{Down as ToDown, Up as ToUp, Stays as ToNone}

-- ---- the lists of what steps say
-- what steps have said, kind by kind
pub record Tables : Type 0 where
  pub senses : List Bool
  pub rows : List RowRecord
  pub columns : List ColumnRecord
  pub entries : List EntryRecord
  pub sides : List Figure
  pub ranges : List Figure
  pub bounds : List Bounded

-- those of some steps
abbrev pub tables : List Step → Tables
tables steps = record {
  senses = senses_of steps;
  rows = rows_of steps;
  columns = columns_of steps;
  entries = entries_of steps;
  sides = sides_of steps;
  ranges = ranges_of steps;
  bounds = bounds_of steps;
}

-- the free ones of rows
abbrev pub free_among : List RowRecord → List RowRecord
free_among rows = filter (λ r. is_free r.kind) rows

-- and the others
abbrev pub kept_among : List RowRecord → List RowRecord
kept_among rows = filter (λ r. not (is_free r.kind)) rows

-- the name of the first free one
abbrev pub objective_among : List RowRecord → Option (List ℕ)
objective_among rows = option_map (λ r. r.name) (slice_get (free_among rows) 0)

-- whether a row is free
abbrev pub is_free_among : List RowRecord → List ℕ → Bool
is_free_among rows name = list_any (λ r. bytes_eq name r.name) (free_among rows)

-- and is not the first of these
abbrev pub is_dropped_among : List RowRecord → List ℕ → Bool
is_dropped_among rows name = is_free_among rows name && not (option_map_or (bytes_eq name) (objective_among rows) false)

-- the bound of a column whose kind sets this
abbrev pub setting_among : (BoundKind → Bool) → List Bounded → List ℕ → Option Bounded
setting_among sets bounds column = find (λ b. bytes_eq column b.column && sets b.kind) bounds

-- the kind of a row
abbrev pub kind_among : List RowRecord → List ℕ → Option RowKind
kind_among rows name = option_map (λ r. r.kind) (find (λ r. bytes_eq name r.name) rows)

-- the right side of a row: 0 where none is given, and none where it is huge
abbrev pub side_among : List Figure → List ℕ → Option ℚ
side_among sides name = option_map_or (λ f. bound_in f.number) (figure_of sides name) (Some zero_ℚ)

-- the row of a range is declared, and where it is not free the side that the range makes fits
pub record MakesSide (rows : List RowRecord) (sides : List Figure) (name : List ℕ) (range : Figure) : Type 0 where
  pub kind : RowKind
  pub declared : kind_among rows name ≡ Some kind
  pub fits : is_free_among rows name ≡ false → IfSome (literal_in range.number) (λ literal. is_range_wide kind (side_among sides name) literal ≡ false)

-- each range makes a side that fits
abbrev pub MakeSides : Tables → Type 0
MakeSides t = (name : List ℕ) → IfSome (figure_of t.ranges name) (MakesSide t.rows t.sides name)

-- ---- what is kept
-- a row by its name and kind
abbrev pub row_record : List ℕ × RowKind → RowRecord
row_record e = record { name = e.0; kind = e.1 }

-- a column by its name and mark
abbrev pub column_record : List ℕ × Bool → ColumnRecord
column_record e = record { name = e.0; whole = e.1 }

-- the names of a reader's rows
abbrev pub row_names_held : Reader → List (List ℕ)
row_names_held reader = names_of reader.rows

-- and of its columns
abbrev pub column_names_held : Reader → List (List ℕ)
column_names_held reader = names_of reader.columns

-- the kind of the row at a place
abbrev pub kind_held : Reader → ℕ → RowKind
kind_held reader row = slice_index_or (map (λ e. e.1) reader.rows) row Free

-- whether what is kept by a place is that of a name
abbrev pub is_at : {V : Type 0} → List (List ℕ) → List ℕ → ℕ × V → Bool
is_at names name e = bytes_eq name (name_at names e.0)

-- what a table keeps of a name
abbrev pub kept_of : {V : Type 0} → List (List ℕ) → List (ℕ × V) → List ℕ → Option V
kept_of names table name = option_map (λ e. e.1) (find (is_at names name) table)

-- whether an entry that is kept by places is that of a column and a row
abbrev pub is_entry_kept : {V : Type 0} → List (List ℕ) → List (List ℕ) → List ℕ → List ℕ → (ℕ × ℕ) × V → Bool
is_entry_kept rows columns column row e = bytes_eq column (name_at columns e.0.1) && bytes_eq row (name_at rows e.0.0)

-- the value that is kept of an entry
abbrev pub entry_value : EntryRecord → ℚ
entry_value e = fitting_value (literal_in e.number)

-- the value of a literal that fits
abbrev pub value_fitting : Literal → Option ℚ
value_fitting (Fits value) = Some value
value_fitting (TooWide huge negative) = None

-- ---- what is kept of what is said
-- the sense is the first that is given
abbrev pub KeepsSense : Option Bool → List Bool → Type 0
KeepsSense sense said = slice_get said 0 ≡ sense

-- the rows, how many are free and how many are not, and the place of the first free one
pub record KeepsRows (rows : List (List ℕ × RowKind)) (free kept : ℕ) (objective : Option ℕ) (said : List RowRecord) : Type 0 where
  pub same : said ≡ map row_record rows
  pub free_is : length (free_among said) ≡ free
  pub kept_is : length (kept_among said) ≡ kept
  pub objective_is : objective_among said ≡ option_map (name_at (names_of rows)) objective
  pub objective_within : IfSome objective (λ row. row < length rows)
  pub few : kept ≤ most_rows
  pub short : All (λ name. length name ≤ longest_name) (names_of rows)

-- the columns
pub record KeepsColumns (columns : List (List ℕ × Bool)) (said : List ColumnRecord) : Type 0 where
  pub same : said ≡ map column_record columns
  pub few : length columns ≤ most_columns
  pub short : All (λ name. length name ≤ longest_name) (names_of columns)

-- how many entries there are, and the value of each in a row that is not dropped
pub record KeepsEntries (declared : List RowRecord) (rows columns : List (List ℕ)) (entries : List ((ℕ × ℕ) × ℚ)) (count : ℕ) (said : List EntryRecord) : Type 0 where
  pub count_is : length said ≡ count
  pub found : (column row : List ℕ) → is_dropped_among declared row ≡ false → option_map entry_value (find (is_entry_at column row) said) ≡ option_map (λ e. e.1) (find (is_entry_kept rows columns column row) entries)
  pub within : All (λ e. (e.0.0 < length rows) × (e.0.1 < length columns)) entries

-- what the figures of rows that are not free say
pub record KeepsFigures {V W : Type 0} (value : List ℕ → W) (show : V → W) (declared : List RowRecord) (rows : List (List ℕ)) (table : List (ℕ × V)) (said : List Figure) : Type 0 where
  pub found : (row : List ℕ) → is_free_among declared row ≡ false → option_map (λ f. value f.number) (figure_of said row) ≡ option_map (λ e. show e.1) (find (is_at rows row) table)
  pub within : All (λ e. e.0 < length rows) table

-- what the bounds of some kinds set
pub record KeepsSettings {V : Type 0} (sets : BoundKind → Bool) (value : Bounded → V) (columns : List (List ℕ)) (table : List (ℕ × V)) (said : List Bounded) : Type 0 where
  pub found : (column : List ℕ) → option_map value (setting_among sets said column) ≡ kept_of columns table column
  pub within : All (λ e. e.0 < length columns) table

-- a reader keeps what the lists say, but for numbers of dropped rows and of sides of free ones
pub record Keeps (reader : Reader) (t : Tables) : Type 0 where
  pub sense : KeepsSense reader.sense t.senses
  pub rows : KeepsRows reader.rows reader.free reader.kept reader.objective t.rows
  pub columns : KeepsColumns reader.columns t.columns
  pub entries : KeepsEntries t.rows (row_names_held reader) (column_names_held reader) reader.entries.entries reader.count t.entries
  pub rights : KeepsFigures bound_in (λ v. v) t.rows (row_names_held reader) reader.rights.entries t.sides
  pub ranges : KeepsFigures literal_in Some t.rows (row_names_held reader) reader.ranges.entries t.ranges
  pub lowers : KeepsSettings sets_lower lower_set (column_names_held reader) reader.lowers.entries t.bounds
  pub uppers : KeepsSettings sets_upper upper_set (column_names_held reader) reader.uppers.entries t.bounds
  pub wholes : KeepsSettings makes_whole (λ b. tt) (column_names_held reader) reader.wholes.entries t.bounds

-- there is no room for one more row of a kind
abbrev pub lacks_room : Reader → RowKind → Bool
lacks_room reader kind = cond (is_free kind) (nat_le most_free_rows reader.free) (nat_le most_rows reader.kept)

-- a reader keeps what steps say
abbrev pub Holds : Reader → List Step → Type 0
Holds reader steps = Keeps reader (tables steps)

-- ---- what is put
-- the right side that is kept of a row: 0 where there is none
abbrev pub right_held : Reader → ℕ → Option ℚ
right_held reader row = unwrap_or (lookup (nat_eq row) reader.rights.entries) (Some zero_ℚ)

-- whether a bound sets what is set before
abbrev pub is_set_held : Reader → ℕ → BoundKind → Bool
is_set_held reader column kind = (sets_lower kind && is_some (lookup (nat_eq column) reader.lowers.entries)) || (sets_upper kind && is_some (lookup (nat_eq column) reader.uppers.entries))

-- a value that is put at a place, where it is to be put
abbrev pub put_where : {V : Type 0} → Bool → List (ℕ × V) → ℕ → V → List (ℕ × V)
put_where is_put table place value = cond is_put (insert_entry nat_eq table place value) table

-- the number of a bound, or what is wrong with it
abbrev pub GivesNumber : Option (List ℕ) → Result (Option ℚ) TextKind → Type 0
GivesNumber text (Ok number) = (option_map_or is_no_number text false ≡ false) × (option_map_or is_wide_side text false ≡ false) × (number ≡ option_map_or bound_in text None)
GivesNumber text (Err BadNumber) = option_map_or is_no_number text false ≡ true
GivesNumber text (Err NumberWide) = (option_map_or is_no_number text false ≡ false) × (option_map_or is_wide_side text false ≡ true)
GivesNumber text (Err _) = ⊥

-- where the other side of a row lies
abbrev pub Moves : Direction → Move → Type 0
Moves ToDown move = move ≡ Down
Moves ToUp move = move ≡ Up
Moves ToNone move = move ≡ Stays

-- ---- steps
-- a fault at its line; want of memory may come at any time
abbrev pub IsStepStop : ℕ → Option ReadKind → ReadFault → Type 0
IsStepStop line found (Stop stop) = (found ≡ Some stop.kind) × (stop.line ≡ line)
IsStepStop line found Memory = ⊤

-- a step is taken, and is kept with those before it, exactly where it has no fault after them
abbrev pub Takes : Reader → Reader → ℕ → Step → Result ⊤ ReadFault → Type 0
Takes old new line step result = (steps : List Step) → Holds old steps → MatchResult result
    (λ _. (fault steps step ≡ None) × Holds new (steps ++ step ∷ []))
    (IsStepStop line (fault steps step))
