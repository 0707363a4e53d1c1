-- What the fields of a single line say.
use Rattle.std.specs.Prelude.{ℕ, Bool, true, false, ◌||◌, cond, List, [], ◌∷◌, codes, Option, Some, None, Result, Err}
use Rattle.std.specs.Option.{option_map, ok_or}
use Rattle.std.specs.Str.{bytes_eq, str_eq_ignore_ascii_case}
use Rattle.text_fields.specs.declared.faults.ReadKind.{ReadKind}
use Rattle.text_fields.specs.declared.faults.ReadKind.TheVariants.{BadField, Unsupported}
pub use Rattle.mps_lines.specs.declared.shapes.RowKind.{RowKind}
pub use Rattle.mps_lines.specs.declared.shapes.RowKind.TheVariants.{Free, AtMost, AtLeast, Equal}
pub use Rattle.mps_lines.specs.declared.shapes.BoundKind.{BoundKind}
pub use Rattle.mps_lines.specs.declared.shapes.BoundKind.TheVariants.{Upper, Lower, Fixed, WholeLower, WholeUpper, Unbounded, NoLower, NoUpper, Binary}

-- ---- words
-- the sense that a word names, in any case of letters: whether the objective is to be made greatest
abbrev pub sense_word : List ℕ → Option Bool
sense_word word =
    cond (str_eq_ignore_ascii_case word (codes "MAX") || str_eq_ignore_ascii_case word (codes "MAXIMIZE")) (Some true)
    (cond (str_eq_ignore_ascii_case word (codes "MIN") || str_eq_ignore_ascii_case word (codes "MINIMIZE")) (Some false) None)

-- the kind of row that a word names
abbrev pub row_word : List ℕ → Option RowKind
row_word word =
    cond (bytes_eq word (codes "N")) (Some Free)
    (cond (bytes_eq word (codes "L")) (Some AtMost)
    (cond (bytes_eq word (codes "G")) (Some AtLeast)
    (cond (bytes_eq word (codes "E")) (Some Equal) None)))

-- a marker: whether the columns after it are whole
abbrev pub marker_word : List ℕ → Option Bool
marker_word word =
    cond (bytes_eq word (codes "'INTORG'")) (Some true)
    (cond (bytes_eq word (codes "'INTEND'")) (Some false) None)

-- the kind of bound that a word names
abbrev pub bound_word : List ℕ → Option BoundKind
bound_word word =
    cond (bytes_eq word (codes "UP")) (Some Upper)
    (cond (bytes_eq word (codes "LO")) (Some Lower)
    (cond (bytes_eq word (codes "FX")) (Some Fixed)
    (cond (bytes_eq word (codes "LI")) (Some WholeLower)
    (cond (bytes_eq word (codes "UI")) (Some WholeUpper)
    (cond (bytes_eq word (codes "FR")) (Some Unbounded)
    (cond (bytes_eq word (codes "MI")) (Some NoLower)
    (cond (bytes_eq word (codes "PL")) (Some NoUpper)
    (cond (bytes_eq word (codes "BV")) (Some Binary) None))))))))

-- whether a bound of this kind has a number
abbrev pub takes_number : BoundKind → Bool
takes_number Upper = true
takes_number Lower = true
takes_number Fixed = true
takes_number WholeLower = true
takes_number WholeUpper = true
takes_number _ = false

-- ---- lines
-- the name of a row, and a number's text
pub record Figure : Type 0 where
  pub row : List ℕ
  pub number : List ℕ

-- a row with this number
abbrev pub figure : List ℕ → List ℕ → Figure
figure row number = record { row = row; number = number }

-- a line of COLUMNS: a marker, or a column with one figure or two
pub data ColumnsLine : Type 0 where
  Marker : Bool → ColumnsLine
  Entries : List ℕ → List Figure → ColumnsLine

-- three fields with 'MARKER' second are a marker, and no line where the third is none
abbrev pub columns_line : List (List ℕ) → Option ColumnsLine
columns_line (a ∷ b ∷ c ∷ []) = cond (bytes_eq b (codes "'MARKER'")) (option_map Marker (marker_word c)) (Some (Entries a (figure b c ∷ [])))
columns_line (a ∷ b ∷ c ∷ d ∷ e ∷ []) = Some (Entries a (figure b c ∷ figure d e ∷ []))
columns_line _ = None

-- a line of RHS or RANGES: the name of its set, if it has one, and one figure or two
pub record SetLine : Type 0 where
  pub set : Option (List ℕ)
  pub figures : List Figure

-- two or four fields have no set, three or five have one, which comes first
abbrev pub set_line : List (List ℕ) → Option SetLine
set_line (a ∷ b ∷ []) = Some (record { set = None; figures = figure a b ∷ [] })
set_line (s ∷ a ∷ b ∷ []) = Some (record { set = Some s; figures = figure a b ∷ [] })
set_line (a ∷ b ∷ c ∷ d ∷ []) = Some (record { set = None; figures = figure a b ∷ figure c d ∷ [] })
set_line (s ∷ a ∷ b ∷ c ∷ d ∷ []) = Some (record { set = Some s; figures = figure a b ∷ figure c d ∷ [] })
set_line _ = None

-- a bound: its kind, its column, and its number, if the kind has one
pub record Bounded : Type 0 where
  pub kind : BoundKind
  pub column : List ℕ
  pub number : Option (List ℕ)

-- a line of BOUNDS: the name of its set, if it has one, and the bound
pub record BoundLine : Type 0 where
  pub set : Option (List ℕ)
  pub bound : Bounded

-- a line of a bound
abbrev pub bound_line_of : Option (List ℕ) → BoundKind → List ℕ → Option (List ℕ) → Option BoundLine
bound_line_of set kind column number = Some (record { set = set; bound = record { kind = kind; column = column; number = number } })

-- after its kind, a bound with a number has two fields, or three with its set first
abbrev pub numbered_bound : BoundKind → List (List ℕ) → Option BoundLine
numbered_bound kind (column ∷ number ∷ []) = bound_line_of None kind column (Some number)
numbered_bound kind (set ∷ column ∷ number ∷ []) = bound_line_of (Some set) kind column (Some number)
numbered_bound kind _ = None

-- one without has one field, or two with its set first, and after these a third that is not looked at
abbrev pub plain_bound : BoundKind → List (List ℕ) → Option BoundLine
plain_bound kind (column ∷ []) = bound_line_of None kind column None
plain_bound kind (set ∷ column ∷ []) = bound_line_of (Some set) kind column None
plain_bound kind (set ∷ column ∷ ignored ∷ []) = bound_line_of (Some set) kind column None
plain_bound kind _ = None

-- the fields after the kind
abbrev pub bound_fields : BoundKind → List (List ℕ) → Option BoundLine
bound_fields kind fields = cond (takes_number kind) (numbered_bound kind fields) (plain_bound kind fields)

-- what no kind of bound is called: semi-continuous columns are not read
abbrev pub no_bound : List ℕ → ReadKind
no_bound word = cond (bytes_eq word (codes "SC")) Unsupported BadField

-- a kind that is none is a fault, and then the fields are looked at
abbrev pub bound_after : Option BoundKind → List ℕ → List (List ℕ) → Result BoundLine ReadKind
bound_after None word fields = Err (no_bound word)
bound_after (Some kind) word fields = ok_or (bound_fields kind fields) BadField

-- a line of BOUNDS, or what is wrong with it
abbrev pub bound_line : List (List ℕ) → Result BoundLine ReadKind
bound_line [] = Err BadField
bound_line (word ∷ fields) = bound_after (bound_word word) word fields
