-- The tokens of a text as statements see them: pieces, the last of which tells how the text ends.
use Rattle.std.specs.Prelude.{◌≡◌, ℕ, ◌+◌, ◌^◌, ◌<◌, ◌≤◌, ◌==◌, ◌&&◌, Bool, true, false, cond, not, List, [], ◌∷◌, length, max, is_some, Option, Some, None, Result, Ok, Err, MatchResult}
use Rattle.std.specs.List.{list_any}
use Rattle.text_fields.specs.declared.pieces.TokenKind.{TokenKind}
use Rattle.text_fields.specs.declared.tokens.Place.{Place}
use Rattle.text_fields.specs.declared.tokens.Token.{Token}
use Rattle.text_fields.specs.declared.faults.TextFault.{TextFault}
use Rattle.text_fields.specs.declared.faults.TextKind.TheVariants.{BadNumber}
use Rattle.text_fields.specs.declared.faults.ReadKind.{ReadKind}
use Rattle.text_fields.specs.declared.faults.ReadKind.TheVariants.{Text, Unsupported, Truncated}
use Rattle.text_fields.specs.declared.faults.ReadStop.{ReadStop}
use Rattle.text_fields.specs.Lines.{lines_of}
use Rattle.text_fields.specs.Tokens.{Lexeme, Scan, before, scan_of, scan_at, IsNext, IsFaultOf}
use Rattle.lp_statements.specs.declared.items.Look.{Look}
use Rattle.lp_statements.specs.declared.parts.Relation.{Relation}
use Rattle.lp_statements.specs.declared.parts.Heading.{Heading}
use Rattle.lp_statements.specs.declared.parts.Item.{Item}
use Rattle.lp_statements.specs.Words.{is_infinity, heading_of, pair_of}

-- the bytes of a token, and its line
pub record Written : Type 0 where
  pub text : List ℕ
  pub line : ℕ

-- a token of a statement; or what no statement has, at its line: a token that is not read, or the end of the text
pub data Piece : Type 0 where
  Seen : Item → Written → Piece
  Stops : ReadStop → Piece

-- the fault at a line
abbrev pub stop_at : ℕ → ReadKind → ReadStop
stop_at line kind = record { line = line; kind = kind }

-- a token as it is written
abbrev pub written : Lexeme → Written
written token = record { text = token.text; line = token.line }

-- ---- headings
-- a word
abbrev pub is_word_kind : TokenKind → Bool
is_word_kind TokenKind.Word = true
is_word_kind _ = false

-- a colon
abbrev pub is_colon_kind : TokenKind → Bool
is_colon_kind TokenKind.Colon = true
is_colon_kind _ = false

-- the first of the tokens is a colon
abbrev pub is_colon_first : List Lexeme → Bool
is_colon_first [] = false
is_colon_first (token ∷ tokens) = is_colon_kind token.kind

-- the token that is found
abbrev pub token_in : Result (Option (Token × Place)) TextFault → Option (Token × Place)
token_in (Ok found) = found
token_in (Err fault) = None

-- it is a colon
abbrev pub is_colon_found : Option (Token × Place) → Bool
is_colon_found (Some found) = is_colon_kind found.0.kind
is_colon_found None = false

-- what two tokens say together: both are words on one line, and no colon comes after them
unfoldable pub pair_heading : Lexeme → List Lexeme → Option Heading
pair_heading token [] = None
pair_heading token (next ∷ tokens) =
    cond (is_word_kind next.kind && ((next.line == token.line) && not (is_colon_first tokens))) (pair_of token.text next.text) None

-- what a word says by itself: no colon comes after it
unfoldable pub word_heading : Lexeme → List Lexeme → Option Heading
word_heading token tokens = cond (is_colon_first tokens) None (heading_of token.text)

-- a token that may be a heading: the first of its line, and a word
unfoldable pub may_head : Bool → TokenKind → Bool
may_head first kind = first && is_word_kind kind

-- the two words that the token begins, where they are a heading
unfoldable pub pair_at : Lexeme → List Lexeme → Option Heading
pair_at token tokens = cond (may_head token.first token.kind) (pair_heading token tokens) None

-- the word that the token is, where it is a heading
unfoldable pub word_at : Lexeme → List Lexeme → Option Heading
word_at token tokens = cond (may_head token.first token.kind) (word_heading token tokens) None

-- ---- pieces
-- a relation: one with `<` is at most, one with `>` is at least
unfoldable pub relation_of : List ℕ → Relation
relation_of text = cond (list_any (λ b. b == 60) text) Relation.AtMost (cond (list_any (λ b. b == 62) text) Relation.AtLeast Relation.Equal)

-- a sign
unfoldable pub sign_of : List ℕ → Item
sign_of text = Item.Sign (list_any (λ b. b == 45) text)

-- a word that is no heading
unfoldable pub name_or_infinity : List ℕ → Item
name_or_infinity text = cond (is_infinity text) Item.Infinite Item.Name

-- what a token is where it is no heading
unfoldable pub item_of : TokenKind → List ℕ → Item
item_of TokenKind.Word text = name_or_infinity text
item_of TokenKind.Number text = Item.Number
item_of TokenKind.Sign text = sign_of text
item_of TokenKind.Relation text = Item.Relation (relation_of text)
item_of TokenKind.Colon text = Item.Colon
item_of TokenKind.Refused text = Item.Refused Unsupported
item_of TokenKind.Loose text = Item.Refused (Text BadNumber)

-- a heading
abbrev pub heading_item : Heading → Item
heading_item (Heading.Keyword keyword) = Item.Keyword keyword
heading_item Heading.Unsupported = Item.Refused Unsupported

-- an item at its place in the text: what is refused stops
abbrev pub piece_of : Item → Written → Piece
piece_of (Item.Refused kind) text = Stops (stop_at text.line kind)
piece_of item text = Seen item text

-- what is told apart first: two words, then one, then what is no heading
abbrev pub item_at : Option Heading → Option Heading → Lexeme → Item
item_at (Some heading) word token = heading_item heading
item_at None (Some heading) token = heading_item heading
item_at None None token = item_of token.kind token.text

-- the pieces that tokens are, and after them how the text ends; a heading of two words is one piece, so the second is passed over
unfoldable pub pieces : Piece → Bool → List Lexeme → List Piece
pieces ending skip [] = ending ∷ []
pieces ending true (token ∷ tokens) = pieces ending false tokens
pieces ending false (token ∷ tokens) =
    piece_of (item_at (pair_at token tokens) (word_at token tokens) token) (written token) ∷ pieces ending (is_some (pair_at token tokens)) tokens

-- the number of the last line, or 1 where there is none
abbrev pub last_line : List ℕ → ℕ
last_line bytes = max 1 (length (lines_of bytes))

-- how a text ends: by the fault of a line, or before a model does
abbrev pub ending_of : List ℕ → Option TextFault → Piece
ending_of bytes (Some fault) = Stops (stop_at fault.line (Text fault.kind))
ending_of bytes None = Stops (stop_at (last_line bytes) Truncated)

-- the pieces of a scan of the text
unfoldable pub pieces_in : List ℕ → Scan → List Piece
pieces_in bytes scan = pieces (ending_of bytes scan.fault) false scan.found

-- the pieces of a text
abbrev pub pieces_of : List ℕ → List Piece
pieces_of bytes = pieces_in bytes (scan_of bytes)

-- and those from a place on
abbrev pub pieces_at : List ℕ → Place → List Piece
pieces_at bytes place = pieces_in bytes (scan_at bytes place.at place.line)

-- a place in the text, and a line that it may be on
pub record IsPlace (bytes : List ℕ) (place : Place) : Type 0 where
  pub within : place.at ≤ length bytes
  pub few : place.line ≤ place.at + 1

-- what stands at a place of a text that is short enough: a token and the place after it, nothing more, or a fault
pub record IsLook (bytes : List ℕ) (look : Look) : Type 0 where
  pub short : length bytes < 2 ^ 31
  pub at : IsPlace bytes look.place
  pub found : MatchResult look.found (IsNext bytes (scan_at bytes look.place.at look.place.line) look.place) (IsFaultOf (scan_at bytes look.place.at look.place.line))

-- a fault stands first
pub record IsStopFirst (pieces : List Piece) (stop : ReadStop) : Type 0 where
  pub rest : List Piece
  pub is : pieces ≡ Stops stop ∷ rest

-- the first token from a place on is this, and the others are those from the next place on
pub record IsPast (bytes : List ℕ) (place next : Place) : Type 0 where
  pub token : Lexeme
  pub first : scan_at bytes place.at place.line ≡ before (token ∷ []) (scan_at bytes next.at next.line)

-- what the token is, where these tokens come after it
abbrev pub item_before : Lexeme → List Lexeme → Item
item_before token tokens = item_at (pair_at token tokens) (word_at token tokens) token

-- the pieces that come after it
abbrev pub pieces_after : List ℕ → Lexeme → Scan → List Piece
pieces_after bytes token scan = pieces (ending_of bytes scan.fault) (is_some (pair_at token scan.found)) scan.found

-- the tokens that stand from a place on
abbrev pub tokens_at : List ℕ → Place → List Lexeme
tokens_at bytes place = (scan_at bytes place.at place.line).found

-- the pieces from a token on
abbrev pub pieces_from : List ℕ → Lexeme → Place → List Piece
pieces_from bytes token place = piece_of (item_before token (tokens_at bytes place)) (written token) ∷ pieces_after bytes token (scan_at bytes place.at place.line)

-- what the token before a place is, and the place from which on the other pieces stand
pub record IsItem (bytes : List ℕ) (token : Lexeme) (place : Place) (item : Item) (next : Place) : Type 0 where
  pub item_is : item ≡ item_before token (tokens_at bytes place)
  pub rest : pieces_after bytes token (scan_at bytes place.at place.line) ≡ pieces_at bytes next
