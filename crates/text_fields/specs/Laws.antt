-- What holds of the fields of a line and of the tokens of a text.
use Rattle.std.specs.Prelude.{◌≡◌, ℕ, ◌<◌, ◌≤◌, false, List, length, take, slice_index, Some}
use Rattle.std.specs.List.{All, list_any}
use Rattle.lane_scan.specs.Bytes.{is_blank}
use Rattle.text_fields.specs.Fields.{fields_of}
use Rattle.frac128.specs.Literal.{Spelling, spelling_of}
use Rattle.text_fields.specs.Pieces.{is_sign, number_len}
use Rattle.text_fields.specs.Tokens.{scan_of, scan_at}

-- at least one byte, and no blank
abbrev pub IsField : List ℕ → Type 0
IsField field = (0 < length field) × (list_any is_blank field ≡ false)

-- each field of a line is one
abbrev pub FieldLaw : Type 0
FieldLaw = (line : List ℕ) → All IsField (fields_of line)

-- the bytes are a decimal literal, and begin with no sign
pub record IsUnsigned (bs : List ℕ) : Type 0 where
  pub spelling : Spelling
  pub says : spelling_of bs ≡ Some spelling
  pub unsigned : is_sign (slice_index bs 0) ≡ false

-- what holds of numbers and of scans
pub record TokenLaws : Type 0 where
  -- the number that stands first in a text is a literal without a sign
  pub number : (bs : List ℕ) → 0 < number_len bs → IsUnsigned (take (number_len bs) bs)
  -- and no longer front of the text is one
  pub longest : (bs : List ℕ) (n : ℕ) → number_len bs < n → n ≤ length bs → IsUnsigned (take n bs) → ⊥
  -- the scan from the begin on is that of the text
  pub whole : (bytes : List ℕ) → scan_at bytes 0 1 ≡ scan_of bytes
