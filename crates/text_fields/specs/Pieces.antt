-- The pieces of a line in the LP format: what stands first in a text, and how long it is.
use Rattle.std.specs.Prelude.{ℕ, ◌+◌, ◌==◌, ◌&&◌, ◌||◌, nat_le, nat_lt, Bool, cond, List, [], ◌∷◌, drop, slice_index, ◌≡◌}
use Rattle.std.specs.List.{prefix_len, list_any}
use Rattle.frac128.specs.Literal.{is_dec}
use Rattle.text_fields.specs.declared.pieces.TokenKind.{TokenKind}
use Rattle.text_fields.specs.declared.pieces.TokenKind.TheVariants.{Word, Number, Sign, Relation, Colon, Refused, Loose}

-- a letter
abbrev pub is_letter : ℕ → Bool
is_letter b = (nat_le 65 b && nat_le b 90) || (nat_le 97 b && nat_le b 122)

-- ! " # $ % & ' ( ) , / ; ? @ _ ` { | } ~
abbrev pub name_signs : List ℕ
name_signs = 33 ∷ 34 ∷ 35 ∷ 36 ∷ 37 ∷ 38 ∷ 39 ∷ 40 ∷ 41 ∷ 44 ∷ 47 ∷ 59 ∷ 63 ∷ 64 ∷ 95 ∷ 96 ∷ 123 ∷ 124 ∷ 125 ∷ 126 ∷ []

-- one of these
abbrev pub is_name_sign : ℕ → Bool
is_name_sign b = list_any (λ c. b == c) name_signs

-- a byte with which a word begins
unfoldable pub is_word_start : ℕ → Bool
is_word_start b = is_letter b || is_name_sign b

-- a byte with which a word goes on
unfoldable pub is_word_byte : ℕ → Bool
is_word_byte b = is_word_start b || (is_dec b || (b == 46))

-- the length of a point and the digits after it, where one stands first
unfoldable pub point_len : List ℕ → ℕ
point_len [] = 0
point_len (c ∷ cs) = cond (c == 46) (1 + prefix_len is_dec cs) 0

-- a sign
abbrev pub is_sign : ℕ → Bool
is_sign b = (b == 43) || (b == 45)

-- the length of a sign, where one stands first
unfoldable pub sign_len : List ℕ → ℕ
sign_len [] = 0
sign_len (c ∷ cs) = cond (is_sign c) 1 0

-- that of a mark, a sign and digits, where there are digits
abbrev pub marked_len : ℕ → ℕ → ℕ
marked_len sign digits = cond (digits == 0) 0 (1 + sign + digits)

-- the length of `e` or `E`, a sign, if there is one, and at least one digit, where these stand first
unfoldable pub exponent_len : List ℕ → ℕ
exponent_len [] = 0
exponent_len (c ∷ cs) = cond ((c == 101) || (c == 69)) (marked_len (sign_len cs) (prefix_len is_dec (drop (sign_len cs) cs))) 0

-- the length of the number that stands first, without a sign: digits, a point and digits, at least one digit in all, and an exponent; 0 where none does
unfoldable pub number_len : List ℕ → ℕ
number_len bs =
    let whole = prefix_len is_dec bs in
    let part = point_len (drop whole bs) in
    cond ((whole == 0) && nat_le part 1) 0 (whole + (part + exponent_len (drop part (drop whole bs))))

-- the length of the relation that begins with c, where d comes after it: `<=`, `=<`, `>=` and `=>` have two bytes
abbrev pub relation_len : ℕ → ℕ → ℕ
relation_len c d = cond (((d == 61) && ((c == 60) || (c == 62))) || ((c == 61) && ((d == 60) || (d == 62)))) 2 1

-- a kind of piece, and its length
pub record Piece : Type 0 where
  pub kind : TokenKind
  pub len : ℕ

-- the piece of this kind and length
abbrev pub piece : TokenKind → ℕ → Piece
piece kind len = record { kind = kind; len = len }

-- what begins with c and is no word and no number, where d comes after it: a sign, a relation, a colon, a loose point; `->` and all else are refused
unfoldable pub mark_of : ℕ → ℕ → Piece
mark_of c d =
    cond (c == 45) (cond (d == 62) (piece Refused 2) (piece Sign 1))
    (cond (c == 43) (piece Sign 1)
    (cond ((c == 60) || ((c == 61) || (c == 62))) (piece Relation (relation_len c d))
    (cond (c == 58) (piece Colon 1)
    (cond (c == 46) (piece Loose 1) (piece Refused 1)))))

-- what stands first in a text that is not empty: a word as long as it goes, a number, or a mark (the byte after the first is 0 where there is none)
unfoldable pub piece_at : List ℕ → Piece
piece_at bs =
    cond (is_word_start (slice_index bs 0)) (piece Word (prefix_len is_word_byte bs))
    (cond (nat_lt 0 (number_len bs)) (piece Number (number_len bs)) (mark_of (slice_index bs 0) (slice_index bs 1)))

-- a kind and a length are those of the piece
abbrev pub Is : TokenKind × ℕ → Piece → Type 0
Is found p = p ≡ record { kind = found.0; len = found.1 }
