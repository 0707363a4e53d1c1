-- The tokens of a text in the LP format, line by line, up to the first fault of a line.
use Rattle.std.specs.Prelude.{◌≡◌, ℕ, zero, suc, ◌+◌, ◌-◌, ◌<◌, ◌≤◌, ◌==◌, ◌||◌, Bool, true, false, cond, List, [], ◌∷◌, ◌++◌, length, take, drop, slice_index, Option, Some, None}
use Rattle.std.specs.List.{list_any, before_first, after_first}
use Rattle.lane_scan.specs.Bytes.{is_end, is_blank, is_foreign}
use Rattle.text_fields.specs.declared.pieces.TokenKind.{TokenKind}
use Rattle.text_fields.specs.declared.tokens.Place.{Place}
use Rattle.text_fields.specs.declared.tokens.Token.{Token}
use Rattle.text_fields.specs.declared.faults.TextKind.{TextKind}
use Rattle.text_fields.specs.declared.faults.TextKind.TheVariants.{ForeignByte, LongLine}
use Rattle.text_fields.specs.declared.faults.TextFault.{TextFault}
use Rattle.text_fields.specs.Lines.{lines_of, text_of}
use Rattle.text_fields.specs.Fields.{is_long}
use Rattle.text_fields.specs.Pieces.{piece_at}

-- the byte that begins a comment
abbrev pub is_backslash : ℕ → Bool
is_backslash b = b == 92

-- what is wrong with a line as such: that it is long, or that it has a foreign byte before a comment
unfoldable pub token_fault : List ℕ → Option TextKind
token_fault line = cond (is_long line) (Some LongLine) (cond (list_any is_foreign (before_first is_backslash line)) (Some ForeignByte) None)

-- a byte at which a look for that stops: the end of the line, the begin of a comment, or a foreign byte
abbrev pub stops_look : ℕ → Bool
stops_look b = is_end b || (is_backslash b || is_foreign b)

-- a token as its text says it: its kind, its bytes, its line, and whether it is the first of its line
pub record Lexeme : Type 0 where
  pub kind : TokenKind
  pub text : List ℕ
  pub line : ℕ
  pub first : Bool

-- a piece and its bytes, which stand first in a text
abbrev pub lexeme : Bool → ℕ → List ℕ → Lexeme
lexeme first line bs = record { kind = (piece_at bs).kind; text = take (piece_at bs).len bs; line = line; first = first }

-- the tokens of a line: blanks are passed over, each piece is a token, and a comment ends the line; `skip` counts the bytes that are left of the piece before
unfoldable pub lexemes : Bool → ℕ → ℕ → List ℕ → List Lexeme
lexemes first line skip [] = []
lexemes first line (suc skip) (c ∷ cs) = lexemes first line skip cs
lexemes first line zero (c ∷ cs) =
    cond (is_backslash c) []
    (cond (is_blank c) (lexemes first line zero cs) (lexeme first line (c ∷ cs) ∷ lexemes false line ((piece_at (c ∷ cs)).len - 1) cs))

-- tokens, and the fault that ends them, if there is one
pub record Scan : Type 0 where
  pub found : List Lexeme
  pub fault : Option TextFault

-- tokens before those of a scan
abbrev pub before : List Lexeme → Scan → Scan
before found scan = record { found = found ++ scan.found; fault = scan.fault }

-- a line's tokens and then the rest; a line with a fault has no tokens, and ends the scan
abbrev pub line_scan : Option TextKind → ℕ → List Lexeme → Scan → Scan
line_scan None line found rest = before found rest
line_scan (Some kind) line found rest = record { found = []; fault = Some (record { line = line; kind = kind }) }

-- the scan of lines, the first of which has this number
unfoldable pub scan_lines : ℕ → List (List ℕ) → Scan
scan_lines number [] = record { found = []; fault = None }
scan_lines number (line ∷ lines) = line_scan (token_fault line) number (lexemes true number zero line) (scan_lines (number + 1) lines)

-- the scan of a text: its tokens up to the first line that has a fault
abbrev pub scan_of : List ℕ → Scan
scan_of bytes = scan_lines 1 (lines_of bytes)

-- ---- the scan from a place on
-- a line begins at the place
abbrev pub is_line_start : List ℕ → ℕ → Bool
is_line_start bytes zero = true
is_line_start bytes (suc i) = is_end (slice_index bytes i)

-- only blanks stand between the begin of the line and the place
unfoldable pub only_blanks : List ℕ → ℕ → Bool
only_blanks bytes zero = true
only_blanks bytes (suc i) = is_end (slice_index bytes i) || cond (is_blank (slice_index bytes i)) (only_blanks bytes i) false

-- the scan of the rest of a line, which is not looked at for faults, and of the lines after it
unfoldable pub rest_scan : Bool → ℕ → List ℕ → Scan
rest_scan first number bs = before (lexemes first number zero (before_first is_end bs)) (scan_lines (number + 1) (lines_of (after_first is_end bs)))

-- the scan from a place on: of whole lines, or of the rest of a line and those after it
unfoldable pub scan_at : List ℕ → ℕ → ℕ → Scan
scan_at bytes at number = cond (is_line_start bytes at) (scan_lines number (lines_of (drop at bytes))) (rest_scan (only_blanks bytes at) number (drop at bytes))

-- what a token's text says
abbrev pub lexeme_of : List ℕ → Token → Lexeme
lexeme_of bytes token = record { kind = token.kind; text = text_of bytes token.span; line = token.line; first = token.first }

-- the token is the first of a scan from the place on, and the others are those of the scan from the next place on, which is where the token ends
pub record IsTokenAt (bytes : List ℕ) (scan : Scan) (place : Place) (token : Token) (next : Place) : Type 0 where
  pub first : scan ≡ before (lexeme_of bytes token ∷ []) (scan_at bytes next.at next.line)
  pub next_at : next.at ≡ token.span.to
  pub next_line : next.line ≡ token.line
  pub low : place.at ≤ token.span.from
  pub some : token.span.from < token.span.to
  pub within : token.span.to ≤ length bytes
  pub line_low : place.line ≤ token.line
  pub line_high : token.line ≤ token.span.from + 1

-- a scan that has nothing
abbrev pub nothing : Scan
nothing = record { found = []; fault = None }

-- the scan begins with the token, or has nothing
abbrev pub IsNext : List ℕ → Scan → Place → Option (Token × Place) → Type 0
IsNext bytes scan place (Some found) = IsTokenAt bytes scan place found.0 found.1
IsNext bytes scan place None = scan ≡ nothing

-- the scan has a fault before any token
abbrev pub IsFaultOf : Scan → TextFault → Type 0
IsFaultOf scan fault = scan ≡ record { found = []; fault = Some fault }
