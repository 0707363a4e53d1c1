-- The lines of a model up to its end, each with its number and its section.
use Rattle.std.specs.Prelude.{ℕ, ◌+◌, ◌==◌, ◌&&◌, ◌||◌, not, Bool, false, cond, List, [], ◌∷◌, ◌++◌, length, slice_index, slice_index_or, Option, None}
use Rattle.std.specs.List.{filter_map, last_or}
use Rattle.std.specs.Option.{option_map_or}
use Rattle.lane_scan.specs.Bytes.{is_blank}
use Rattle.text_fields.specs.Fields.{fields_of, is_comment}
use Rattle.text_fields.specs.Lines.{lines_of}
use Rattle.mps_lines.specs.Sections.{Section, Start, End, heading_word, is_section}

-- a line that says nothing: a comment, or one of blanks alone
unfoldable pub is_passed_over : List ℕ → Bool
is_passed_over text = is_comment text || (length (fields_of text) == 0)

-- any other line that begins with no blank is a header
unfoldable pub is_header : List ℕ → Bool
is_header text = not (is_passed_over text) && not (is_blank (slice_index text 0))

-- and the rest are data lines
unfoldable pub is_data : List ℕ → Bool
is_data text = not (is_passed_over text) && is_blank (slice_index text 0)

-- the section that a header begins, where its first field names one
unfoldable pub heading_of : List ℕ → Option Section
heading_of text = cond (is_header text) (heading_word (slice_index_or (fields_of text) 0 [])) None

-- a line with its number and the section in which it stands, which for a header is the section before it
pub record Record : Type 0 where
  pub number : ℕ
  pub section : Section
  pub text : List ℕ

-- the section after some lines: that of their last header
abbrev pub section_after : List Record → Section
section_after front = option_map_or (λ s. s) (last_or None (filter_map (λ r. heading_of r.text) front)) Start

-- the header that ends the model
abbrev pub is_last : List ℕ → Bool
is_last text = option_map_or (is_section End) (heading_of text) false

-- the record of a line after those of a front
abbrev pub record_after : List Record → ℕ → List ℕ → Record
record_after front number text = record { number = number; section = section_after front; text = text }

-- the records of lines, the first of which has this number, after those of a front, up to the header that ends the model
unfoldable pub records_after : List Record → ℕ → List (List ℕ) → List Record
records_after front number [] = []
records_after front number (text ∷ texts) =
    record_after front number text ∷ cond (is_last text) [] (records_after (front ++ record_after front number text ∷ []) (number + 1) texts)

-- the records of a text
abbrev pub records : List ℕ → List Record
records bytes = records_after [] 1 (lines_of bytes)
