-- Pieces, one after another.
use Rattle.std.proofs.Common.{◌≡◌, ℕ, ◌+◌, Bool, true, false, cond, not, nat_eq, ◌&&◌, List, [], ◌∷◌, length, drop, max, Option, Some, None, is_some, refl, sym, ap, ◌∙◌, subst, arith, ne_eqb, eq-eqb}
use Rattle.text_fields.specs.declared.tokens.Place.{Place}
use Rattle.text_fields.specs.declared.tokens.Token.{Token}
use Rattle.std.proofs.Math.Seq.{drop-length}
use Rattle.text_fields.specs.Lines.{lines_of}
use Rattle.text_fields.proofs.LineLists.{lines_of-nil}
use Rattle.text_fields.specs.Tokens.{Lexeme, Scan, scan_at, lexeme_of, IsTokenAt, IsNext, IsFaultOf}
use Rattle.text_fields.specs.declared.faults.ReadKind.{ReadKind}
use Rattle.text_fields.specs.declared.faults.ReadKind.TheVariants.{Text, Truncated}
use Rattle.text_fields.specs.declared.pieces.TokenKind.{TokenKind}
use Rattle.text_fields.specs.declared.faults.TextFault.{TextFault}
use Rattle.std.specs.Prelude.{Result, Ok, Err, MatchOption, MatchResult}
use Rattle.lp_statements.specs.declared.items.Look.{Look}
use Rattle.lp_statements.specs.Grammar.{is_first, is_colon}
use Rattle.lp_statements.specs.Words.{pair_of, is_infinity}
use Rattle.lp_statements.specs.declared.parts.Heading.{Heading}
use Rattle.lp_statements.specs.declared.parts.Item.{Item}
use Rattle.lp_statements.specs.Items.{Written, Piece, written, tokens_at, is_word_kind, is_colon_kind, is_colon_found, token_in, is_colon_first, may_head, pair_heading, word_heading, pair_at, word_at, item_of, name_or_infinity, sign_of, item_at, item_before, pieces, pieces_in, pieces_at, pieces_from, ending_of, piece_of, heading_item, last_line, IsPlace, IsLook, IsPast, IsItem, IsStopFirst, stop_at}

-- the tokens from a place on, where one is next
pub tokens_next : (bytes : List ℕ) (place : Place) (token : Token) (next : Place) → IsTokenAt bytes (scan_at bytes place.at place.line) place token next → tokens_at bytes place ≡ lexeme_of bytes token ∷ tokens_at bytes next
tokens_next bytes place token next at = ap (λ (s : Scan). s.found) at.first

-- a place after a token
pub place_next : (bytes : List ℕ) (place : Place) (token : Token) (next : Place) → IsTokenAt bytes (scan_at bytes place.at place.line) place token next → IsPlace bytes next
place_next bytes place token next at =
    let a = at.next_at in let b = at.next_line in let d = at.within in let e = at.line_high in let f = at.some in
    record { within = omega arith; few = omega arith }

pub past_next : (bytes : List ℕ) (place : Place) (token : Token) (next : Place) → IsTokenAt bytes (scan_at bytes place.at place.line) place token next → IsPast bytes place next
past_next bytes place token next at = record { token = lexeme_of bytes token; first = at.first }

-- what a look finds
abbrev Finds : List ℕ → Place → Option (Token × Place) → Type 0
Finds bytes place found = MatchOption found (tokens_at bytes place ≡ []) (λ f. IsTokenAt bytes (scan_at bytes place.at place.line) place f.0 f.1)

pub looked : (bytes : List ℕ) (look : Look) (found : Option (Token × Place)) → IsLook bytes look → found ≡ token_in look.found → Finds bytes look.place found
looked bytes look found is same = subst (Finds bytes look.place) (sym same) (by look.found is.found)
  where
    by : (found : Result (Option (Token × Place)) TextFault) → MatchResult found (IsNext bytes (scan_at bytes look.place.at look.place.line) look.place) (IsFaultOf (scan_at bytes look.place.at look.place.line)) → Finds bytes look.place (token_in found)
    by (Ok (Some f)) is = is
    by (Ok None) is = ap (λ (s : Scan). s.found) is
    by (Err fault) is = ap (λ (s : Scan). s.found) is

-- the token that it finds, and the place after it
pub next_at : (bytes : List ℕ) (look : Look) (token : Token) (past next : Place) → IsLook bytes look → Some (token, past) ≡ token_in look.found → next ≡ past → IsTokenAt bytes (scan_at bytes look.place.at look.place.line) look.place token next
next_at bytes look token past next is found same = subst (IsTokenAt bytes (scan_at bytes look.place.at look.place.line) look.place token) (sym same) (looked bytes look (Some (token, past)) is found)

pub colon_found : (bytes : List ℕ) (look : Look) → IsLook bytes look → is_colon_found (token_in look.found) ≡ is_colon_first (tokens_at bytes look.place)
colon_found bytes look is = by (token_in look.found) (looked bytes look (token_in look.found) is refl)
  where
    by : (found : Option (Token × Place)) → Finds bytes look.place found → is_colon_found found ≡ is_colon_first (tokens_at bytes look.place)
    by (Some f) is = sym (ap is_colon_first (tokens_next bytes look.place f.0 f.1 is))
    by None is = sym (ap is_colon_first is)

-- two tokens
pub pair_is : (token next : Lexeme) (tokens all : List Lexeme) (w e c : Bool) → all ≡ next ∷ tokens → is_word_kind next.kind ≡ w → nat_eq next.line token.line ≡ e → is_colon_first tokens ≡ c
    → pair_heading token all ≡ cond (w && (e && not c)) (pair_of token.text next.text) None
unfolding pair_heading
pair_is token next tokens all w e c is a b d = rw (is, a, b, d) refl

-- no pair
pub pair_not_word : (token next : Lexeme) (tokens all : List Lexeme) → all ≡ next ∷ tokens → is_word_kind next.kind ≡ false → pair_heading token all ≡ None
pair_not_word token next tokens all is a = pair_is token next tokens all false (nat_eq next.line token.line) (is_colon_first tokens) is a refl refl

pub pair_other_line : (token next : Lexeme) (tokens all : List Lexeme) → all ≡ next ∷ tokens → (next.line ≡ token.line → ⊥) → pair_heading token all ≡ None
pair_other_line token next tokens all is a = pair_is token next tokens all (is_word_kind next.kind) false (is_colon_first tokens) is refl (ne_eqb next.line token.line a) refl ∙ by (is_word_kind next.kind)
  where
    by : (w : Bool) → cond (w && false) (pair_of token.text next.text) None ≡ None
    by true = refl
    by false = refl

pub pair_colon : (token next : Lexeme) (tokens all : List Lexeme) → all ≡ next ∷ tokens → is_colon_first tokens ≡ true → pair_heading token all ≡ None
pair_colon token next tokens all is a = pair_is token next tokens all (is_word_kind next.kind) (nat_eq next.line token.line) true is refl refl a ∙ by (is_word_kind next.kind) (nat_eq next.line token.line)
  where
    by : (w e : Bool) → cond (w && (e && false)) (pair_of token.text next.text) None ≡ None
    by true true = refl
    by true false = refl
    by false e = refl

pub pair_none : (token next : Lexeme) (tokens all : List Lexeme) → all ≡ next ∷ tokens → pair_of token.text next.text ≡ None → pair_heading token all ≡ None
pair_none token next tokens all is none =
    pair_is token next tokens all (is_word_kind next.kind) (nat_eq next.line token.line) (is_colon_first tokens) is refl refl refl
    ∙ (ap (λ o. cond (is_word_kind next.kind && (nat_eq next.line token.line && not (is_colon_first tokens))) o None) none ∙ by (is_word_kind next.kind && (nat_eq next.line token.line && not (is_colon_first tokens))))
  where
    nothing : Option Heading
    nothing = None

    by : (b : Bool) → cond b nothing None ≡ None
    by true = refl
    by false = refl

pub pair_words : (token next : Lexeme) (tokens all : List Lexeme) → all ≡ next ∷ tokens → is_word_kind next.kind ≡ true → next.line ≡ token.line → is_colon_first tokens ≡ false → pair_heading token all ≡ pair_of token.text next.text
pair_words token next tokens all is a b d = pair_is token next tokens all true true false is a (eq-eqb next.line token.line b) d

-- what comes after a token, where no second word is passed over
pub item_alone : (bytes : List ℕ) (token : Lexeme) (place : Place) (item : Item) → pair_at token (tokens_at bytes place) ≡ None → item ≡ item_before token (tokens_at bytes place) → IsItem bytes token place item place
unfolding pieces_in
item_alone bytes token place item none is = record {
  item_is = is;
  rest = ap (λ (o : Option Heading). pieces (ending_of bytes (scan_at bytes place.at place.line).fault) (is_some o) (tokens_at bytes place)) none;
}

-- a token that is no heading
pub item_plain : (bytes : List ℕ) (token : Lexeme) (place : Place) (item : Item) → may_head token.first token.kind ≡ false → item ≡ item_of token.kind token.text → IsItem bytes token place item place
unfolding pair_at word_at
item_plain bytes token place item plain is =
    let tokens = tokens_at bytes place in
    let pair : pair_at token tokens ≡ None = ap (λ b. cond b (pair_heading token tokens) None) plain in
    let word : word_at token tokens ≡ None = ap (λ b. cond b (word_heading token tokens) None) plain in
    item_alone bytes token place item pair (is ∙ sym (rw (pair, word) refl))

pub item_name : (bytes : List ℕ) (token : Lexeme) (place : Place) (item : Item) → may_head token.first token.kind ≡ true → pair_heading token (tokens_at bytes place) ≡ None → word_heading token (tokens_at bytes place) ≡ None → item ≡ item_of token.kind token.text → IsItem bytes token place item place
unfolding pair_at word_at
item_name bytes token place item may a b is =
    let tokens = tokens_at bytes place in
    let pair : pair_at token tokens ≡ None = ap (λ b. cond b (pair_heading token tokens) None) may ∙ a in
    let word : word_at token tokens ≡ None = ap (λ b. cond b (word_heading token tokens) None) may ∙ b in
    item_alone bytes token place item pair (is ∙ sym (rw (pair, word) refl))

pub item_word : (bytes : List ℕ) (token : Lexeme) (place : Place) (item : Item) (heading : Heading) → may_head token.first token.kind ≡ true → pair_heading token (tokens_at bytes place) ≡ None → word_heading token (tokens_at bytes place) ≡ Some heading → item ≡ heading_item heading → IsItem bytes token place item place
unfolding pair_at word_at
item_word bytes token place item heading may a b is =
    let tokens = tokens_at bytes place in
    let pair : pair_at token tokens ≡ None = ap (λ b. cond b (pair_heading token tokens) None) may ∙ a in
    let word : word_at token tokens ≡ Some heading = ap (λ b. cond b (word_heading token tokens) None) may ∙ b in
    item_alone bytes token place item pair (is ∙ sym (rw (pair, word) refl))

-- two words
pub item_pair : (bytes : List ℕ) (token : Lexeme) (place next : Place) (item : Item) (heading : Heading) → may_head token.first token.kind ≡ true → pair_heading token (tokens_at bytes place) ≡ Some heading → IsPast bytes place next → item ≡ heading_item heading → IsItem bytes token place item next
unfolding pair_at word_at pieces_in pieces
item_pair bytes token place next item heading may a past is =
    let tokens = tokens_at bytes place in
    let pair : pair_at token tokens ≡ Some heading = ap (λ b. cond b (pair_heading token tokens) None) may ∙ a in
    record {
      item_is = is ∙ sym (rw pair refl);
      rest = ap (λ (o : Option Heading). pieces (ending_of bytes (scan_at bytes place.at place.line).fault) (is_some o) tokens) pair
          ∙ ap (λ (s : Scan). pieces (ending_of bytes s.fault) true s.found) past.first;
    }

-- the pieces, where a token is next
pub piece_next : (bytes : List ℕ) (place : Place) (token : Token) (past : Place) → IsTokenAt bytes (scan_at bytes place.at place.line) place token past → pieces_at bytes place ≡ pieces_from bytes (lexeme_of bytes token) past
unfolding pieces_in pieces
piece_next bytes place token past at = ap (pieces_in bytes) at.first

pub piece_looked : (bytes : List ℕ) (look : Look) (token : Token) (past next : Place) → IsLook bytes look → Some (token, past) ≡ token_in look.found → next ≡ past → pieces_at bytes look.place ≡ pieces_from bytes (lexeme_of bytes token) next
piece_looked bytes look token past next is found same = piece_next bytes look.place token next (next_at bytes look token past next is found same)

item_from : (bytes : List ℕ) (token : Lexeme) (past next : Place) (item : Item) → IsItem bytes token past item next → pieces_from bytes token past ≡ piece_of item (written token) ∷ pieces_at bytes next
item_from bytes token past next item is = ap (λ (p : Item × List Piece). piece_of p.0 (written token) ∷ p.1) (λ i. (sym is.item_is i, is.rest i))

-- a scan that has nothing but its end
pub ends_at : (bytes : List ℕ) (place : Place) (scan : Scan) → scan_at bytes place.at place.line ≡ scan → scan.found ≡ [] → pieces_at bytes place ≡ ending_of bytes scan.fault ∷ []
unfolding pieces_in pieces
ends_at bytes place scan is none = ap (pieces_in bytes) is ∙ ap (λ tokens. pieces (ending_of bytes scan.fault) false tokens) none

pub fault_looked : (bytes : List ℕ) (look : Look) (fault : TextFault) → IsLook bytes look → look.found ≡ Err fault → IsStopFirst (pieces_at bytes look.place) (stop_at fault.line (Text fault.kind))
fault_looked bytes look fault is found =
    let e = subst (λ r. MatchResult r (IsNext bytes (scan_at bytes look.place.at look.place.line) look.place) (IsFaultOf (scan_at bytes look.place.at look.place.line))) found is.found in
    record { rest = []; is = ends_at bytes look.place _ e refl }

pub end_looked : (bytes : List ℕ) (look : Look) → IsLook bytes look → look.found ≡ Ok None → IsStopFirst (pieces_at bytes look.place) (stop_at (last_line bytes) Truncated)
end_looked bytes look is found =
    let e = subst (λ r. MatchResult r (IsNext bytes (scan_at bytes look.place.at look.place.line) look.place) (IsFaultOf (scan_at bytes look.place.at look.place.line))) found is.found in
    record { rest = []; is = ends_at bytes look.place _ e refl }

-- the number of the last line, from the number of lines
pub last_counted : (bytes : List ℕ) (at number : ℕ) → at ≡ length bytes → length (lines_of bytes) ≡ number + length (lines_of (drop at bytes)) → length (lines_of bytes) ≡ number
last_counted bytes at number is counted =
    let none : lines_of (drop at bytes) ≡ [] = ap (λ n. lines_of (drop n bytes)) is ∙ ap lines_of (drop-length bytes) ∙ lines_of-nil in
    let zero_left = ap length none in
    omega arith

pub last_is_one : (bytes : List ℕ) (number : ℕ) → length (lines_of bytes) ≡ number → number ≡ 0 → 1 ≡ last_line bytes
last_is_one bytes number counted none = sym (ap (max 1) (counted ∙ none))

pub last_is_count : (bytes : List ℕ) (number : ℕ) → length (lines_of bytes) ≡ number → (number ≡ 0 → ⊥) → number ≡ last_line bytes
last_is_count bytes number counted some = omega (arith, ap (max 1) counted)

pub refused_from : (bytes : List ℕ) (token : Lexeme) (past next : Place) (item : Item) (kind : ReadKind) → IsItem bytes token past item next → item ≡ Item.Refused kind → IsStopFirst (pieces_from bytes token past) (stop_at token.line kind)
refused_from bytes token past next item kind is refused = record { rest = pieces_at bytes next; is = item_from bytes token past next item is ∙ ap (λ i. piece_of i (written token) ∷ pieces_at bytes next) refused }

-- ---- colons
heading_no_colon : (heading : Heading) (text : Written) (rest : List Piece) → is_first is_colon (piece_of (heading_item heading) text ∷ rest) ≡ false
heading_no_colon (Heading.Keyword keyword) text rest = refl
heading_no_colon Heading.Unsupported text rest = refl

word_no_colon : (token : Lexeme) (pair word : Option Heading) (rest : List Piece) → token.kind ≡ TokenKind.Word → is_first is_colon (piece_of (item_at pair word token) (written token) ∷ rest) ≡ false
unfolding item_of name_or_infinity
word_no_colon token (Some heading) word rest is = heading_no_colon heading (written token) rest
word_no_colon token None (Some heading) rest is = heading_no_colon heading (written token) rest
word_no_colon token None None rest is = rw is (by (is_infinity token.text))
  where
    by : (b : Bool) → is_first is_colon (piece_of (cond b Item.Infinite Item.Name) (written token) ∷ rest) ≡ false
    by true = refl
    by false = refl

-- what is no word heads nothing
no_head : (first : Bool) (kind : TokenKind) → is_word_kind kind ≡ false → may_head first kind ≡ false
unfolding may_head
no_head true kind is = is
no_head false kind is = refl

alone : (token : Lexeme) (tokens : List Lexeme) → is_word_kind token.kind ≡ false → item_before token tokens ≡ item_of token.kind token.text
unfolding pair_at word_at
alone token tokens is = rw (no_head token.first token.kind is) refl

first_colon : (token : Lexeme) (tokens : List Lexeme) (kind : TokenKind) (rest : List Piece) → token.kind ≡ kind → is_first is_colon (piece_of (item_before token tokens) (written token) ∷ rest) ≡ is_colon_kind kind
unfolding item_of sign_of
first_colon token tokens TokenKind.Word rest is = word_no_colon token (pair_at token tokens) (word_at token tokens) rest is
first_colon token tokens TokenKind.Number rest is = rw (alone token tokens (ap is_word_kind is), is) refl
first_colon token tokens TokenKind.Sign rest is = rw (alone token tokens (ap is_word_kind is), is) refl
first_colon token tokens TokenKind.Relation rest is = rw (alone token tokens (ap is_word_kind is), is) refl
first_colon token tokens TokenKind.Colon rest is = rw (alone token tokens (ap is_word_kind is), is) refl
first_colon token tokens TokenKind.Refused rest is = rw (alone token tokens (ap is_word_kind is), is) refl
first_colon token tokens TokenKind.Loose rest is = rw (alone token tokens (ap is_word_kind is), is) refl

ending_stops : (bytes : List ℕ) (fault : Option TextFault) → is_first is_colon (ending_of bytes fault ∷ []) ≡ false
ending_stops bytes (Some fault) = refl
ending_stops bytes None = refl

-- a colon is a token and a piece
pub colon_first : (bytes : List ℕ) (place : Place) → is_colon_first (tokens_at bytes place) ≡ is_first is_colon (pieces_at bytes place)
unfolding pieces_in pieces
colon_first bytes place = by (ending_of bytes (scan_at bytes place.at place.line).fault) (tokens_at bytes place) (ending_stops bytes (scan_at bytes place.at place.line).fault)
  where
    by : (ending : Piece) (tokens : List Lexeme) → is_first is_colon (ending ∷ []) ≡ false → is_colon_first tokens ≡ is_first is_colon (pieces ending false tokens)
    by ending [] none = sym none
    by ending (token ∷ tokens) none = sym (first_colon token tokens token.kind (pieces ending (is_some (pair_at token tokens)) tokens) refl)

pub colon_after : (bytes : List ℕ) (look : Look) → IsLook bytes look → is_colon_found (token_in look.found) ≡ is_first is_colon (pieces_at bytes look.place)
colon_after bytes look is = colon_found bytes look is ∙ colon_first bytes look.place
