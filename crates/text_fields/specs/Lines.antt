-- The lines of a text.
use Rattle.std.specs.Prelude.{◌≡◌, ℕ, ◌+◌, ◌<◌, ◌≤◌, ◌==◌, cond, List, [], ◌∷◌, length, drop, slice_range, min}
use Rattle.std.specs.List.{slice_split}
use Rattle.lane_scan.specs.Bytes.{is_end}
use Rattle.text_fields.specs.declared.spans.Span.{Span}
use Rattle.text_fields.specs.declared.spans.Line.{Line}

-- the parts without a last one that is empty
abbrev pub ended : List (List ℕ) → List (List ℕ)
ended [] = []
ended (part ∷ []) = cond (length part == 0) [] (part ∷ [])
ended (part ∷ next ∷ parts) = part ∷ ended (next ∷ parts)

-- the lines of a text: what stands between its ends, and after the last where something does
unfoldable pub lines_of : List ℕ → List (List ℕ)
lines_of bytes = ended (slice_split is_end bytes)

-- the bytes of a part of a text
abbrev pub text_of : List ℕ → Span → List ℕ
text_of bytes span = slice_range bytes span.from span.to

-- the bytes of a line
abbrev pub line_text : List ℕ → Line → List ℕ
line_text bytes line = slice_range bytes line.from line.to

-- where the next line begins, or the length
abbrev pub after : List ℕ → Line → ℕ
after bytes line = min (line.to + 1) (length bytes)

-- the line has this number, begins at `at`, and is the first of the lines that stand from there on
pub record IsLineAt (bytes : List ℕ) (at number : ℕ) (line : Line) : Type 0 where
  pub number_is : line.number ≡ number
  pub from_is : line.from ≡ at
  pub some : at < length bytes
  pub in_order : line.from ≤ line.to
  pub within : line.to ≤ length bytes
  pub first : lines_of (drop at bytes) ≡ line_text bytes line ∷ lines_of (drop (after bytes line) bytes)
