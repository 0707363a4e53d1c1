-- The fields of a line.
use Rattle.std.specs.Prelude.{◌≡◌, ℕ, ◌+◌, ◌<◌, ◌≤◌, ◌==◌, nat_lt, Bool, cond, List, [], ◌∷◌, ◌++◌, length, map, filter, slice_index, slice_range, Option, Some, None}
use Rattle.std.specs.List.{All, slice_split, list_any, position_or_len}
use Rattle.lane_scan.specs.Bytes.{is_blank, is_foreign}
use Rattle.text_fields.specs.declared.spans.Span.{Span}
use Rattle.text_fields.specs.declared.spans.Line.{Line}
use Rattle.text_fields.specs.declared.faults.TextKind.{TextKind}
use Rattle.text_fields.specs.declared.faults.TextKind.TheVariants.{ForeignByte, LongLine}
use Rattle.text_fields.specs.declared.faults.FieldStop.{FieldStop}
use Rattle.text_fields.specs.declared.faults.FieldStop.TheVariants.{Text, Memory}
use Rattle.text_fields.specs.Lines.{text_of, line_text}

-- a part that is not empty
abbrev pub is_filled : List ℕ → Bool
is_filled part = nat_lt 0 (length part)

-- the fields of a line: what stands between its blanks, where something does
unfoldable pub fields_of : List ℕ → List (List ℕ)
fields_of line = filter is_filled (slice_split is_blank line)

-- the first place from `from` on that has a blank, or `to`
abbrev pub blank_within : List ℕ → ℕ → ℕ → ℕ
blank_within bytes from to = from + position_or_len is_blank (slice_range bytes from to)

-- a line that begins with `*`
abbrev pub is_comment : List ℕ → Bool
is_comment line = slice_index line 0 == 42

-- a line of more than 65,536 bytes
abbrev pub is_long : List ℕ → Bool
is_long line = nat_lt 65536 (length line)

-- what is wrong with a line as such: that it is long, or, where it is no comment, that it has a foreign byte
unfoldable pub field_fault : List ℕ → Option TextKind
field_fault line = cond (is_long line) (Some LongLine) (cond (is_comment line) None (cond (list_any is_foreign line) (Some ForeignByte) None))

-- the spans stand in order from `from` to `to`, each with something in it
abbrev pub AreInOrder : ℕ → ℕ → List Span → Type 0
AreInOrder from to [] = from ≤ to
AreInOrder from to (span ∷ spans) = (from ≤ span.from) × (span.from < span.to) × AreInOrder span.to to spans

-- the span has something in it, and stands within the text
abbrev pub IsInside : List ℕ → Span → Type 0
IsInside bytes span = (span.from < span.to) × (span.to ≤ length bytes)

-- the line has no fault, and its fields, as spans in order, are appended
pub record AddsFields (bytes : List ℕ) (line : Line) (old new : List Span) : Type 0 where
  pub spans : List Span
  pub no_fault : field_fault (line_text bytes line) ≡ None
  pub appended : new ≡ old ++ spans
  pub texts : map (text_of bytes) spans ≡ fields_of (line_text bytes line)
  pub in_order : AreInOrder line.from line.to spans
  pub inside : All (IsInside bytes) spans

-- the line's fault, with nothing appended; or memory was refused, the line has no fault, and some of the first fields are appended
abbrev pub StopsFields : List ℕ → Line → List Span → List Span → FieldStop → Type 0
StopsFields bytes line old new (Text fault) = (field_fault (line_text bytes line) ≡ Some fault.kind) × (fault.line ≡ line.number) × (new ≡ old)
StopsFields bytes line old new Memory =
    (spans : List Span) × (rest : List (List ℕ)) × (field_fault (line_text bytes line) ≡ None) × (new ≡ old ++ spans) × (map (text_of bytes) spans ++ rest ≡ fields_of (line_text bytes line))
