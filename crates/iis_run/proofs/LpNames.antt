-- The names of an LP text are words.
use Rattle.std.proofs.Common.{◌≡◌, ℕ, zero, suc, ◌+◌, ◌-◌, ◌<◌, ◌==◌, ltb, ◌||◌, Bool, true, false, cond, List, [], ◌∷◌, ◌++◌, length, take, get_or, Option, Some, None, is_some, refl, sym, ap, subst, ◌∙◌, arith, true≢false, All}
use Rattle.std.specs.List.{prefix_len}
use Rattle.std.proofs.lemmas.List.Elements.{All-nil, All-cons, All-map}
use Rattle.text_fields.specs.declared.pieces.TokenKind.{TokenKind}
use Rattle.text_fields.specs.declared.faults.TextFault.{TextFault}
use Rattle.text_fields.specs.declared.faults.TextKind.{TextKind}
use Rattle.lane_scan.specs.Bytes.{is_blank}
use Rattle.text_fields.specs.Lines.{lines_of}
use Rattle.text_fields.specs.Pieces.{Piece as TextPiece, piece, is_word_start, is_word_byte, number_len, mark_of, piece_at}
use Rattle.text_fields.specs.Tokens.{Lexeme, lexeme, lexemes, line_scan, token_fault, scan_lines, scan_of, is_backslash}
use Rattle.text_fields.proofs.PieceLists.{piece-by, word-some}
use Rattle.lp_model.specs.Program.{NamedRow, NamedColumn}
use Rattle.lp_model.specs.Shown.{is_named}
use Rattle.lp_statements.specs.declared.parts.Item.{Item}
use Rattle.lp_statements.specs.declared.parts.Heading.{Heading}
use Rattle.lp_statements.specs.declared.parts.Section.{Section}
use Rattle.lp_statements.specs.Items.{Written, Piece, Seen, Stops, written, piece_of, item_of, item_at, sign_of, name_or_infinity, heading_item, pair_at, word_at, pieces, ending_of, pieces_in, pieces_of}
use Rattle.lp_statements.specs.Words.{is_infinity}
use Rattle.lp_statements.specs.Statements.{Term, Statement, Objective, Heading as HeadingOf, Row, Free, Bound, Listed}
use Rattle.lp_statements.specs.Grammar.{Parsed, Whole, Fails, is_name, only, terms_in as part_terms, statement_of}
use Rattle.lp_statements.specs.Spelling.{SpellsTerm, ByName, ByNumber, SpellsMore, NoMore, OneMore, SpellsTerms, SpellsPart, ATerm, ANumber, SpellsForm, Nothing, Parts, SpellsLabel, NoLabel, ALabel, IsSpelled, AnObjective, AHeading, ARow, ARange, AFree, ABoundAfter, ABoundBefore, BothBounds, AName, Spells, compares}
use Rattle.lp_statements.specs.Script.{section_after, goes_on, script_by, script, script_of}
use Rattle.lp_statements.proofs.Spelled.{spelled}
use Rattle.lp_reader.specs.Names.{terms_in, terms_of, with_name, with_names, columns_of, RowPart, rows_of, row_name}
use Rattle.lp_reader.specs.Program.{rows_from, column_of, program_of}
use Rattle.lp_reader.specs.Meaning.{lp_program}
use Rattle.report_text.specs.Names.{is_shown}
use Rattle.report_text.specs.Form.{is_word}
use Rattle.analysis.specs.NamesAreWords.{HasWords}
use Rattle.iis_run.proofs.ShownBytes.{word_byte_shown, all_weaker, all_front, word, decimal_shown}

abbrev IsWord : List ℕ → Type 0
IsWord name = is_word name ≡ true

-- ---- tokens
-- a mark is no word
no_word : TextPiece → Bool
no_word p = by p.kind
  where
    by : TokenKind → Bool
    by TokenKind.Word = false
    by _ = true

mark_no_word : (c d : ℕ) → no_word (mark_of c d) ≡ true
unfolding mark_of no_word
mark_no_word c d = by (c == 45) (d == 62) (c == 43) ((c == 60) || ((c == 61) || (c == 62))) (c == 58) (c == 46)
  where
    by : (p q r s t u : Bool) → no_word (cond p (cond q (piece TokenKind.Refused 2) (piece TokenKind.Sign 1))
        (cond r (piece TokenKind.Sign 1)
        (cond s (piece TokenKind.Relation (Rattle.text_fields.specs.Pieces.relation_len c d))
        (cond t (piece TokenKind.Colon 1)
        (cond u (piece TokenKind.Loose 1) (piece TokenKind.Refused 1)))))) ≡ true
    by true true r s t u = refl
    by true false r s t u = refl
    by false q true s t u = refl
    by false q false true t u = refl
    by false q false false true u = refl
    by false q false false false true = refl
    by false q false false false false = refl

word_not : (p : TextPiece) → no_word p ≡ true → p.kind ≡ TokenKind.Word → ⊥
unfolding no_word
word_not p e f = true≢false (sym e ∙ ap (λ k. no_word (piece k p.len)) f)

-- what is a word by its kind is one by its bytes
word_piece : (c : ℕ) (cs : List ℕ) → (piece_at (c ∷ cs)).kind ≡ TokenKind.Word → IsWord (take (piece_at (c ∷ cs)).len (c ∷ cs))
unfolding no_word
word_piece c cs e = by (is_word_start c) (ltb 0 (number_len (c ∷ cs))) refl refl
  where
    bs : List ℕ
    bs = c ∷ cs

    by : (b t : Bool) → is_word_start c ≡ b → ltb 0 (number_len bs) ≡ t → IsWord (take (piece_at bs).len bs)
    by true t f g =
        let at = piece-by bs true t f g in
        let each = all_weaker is_word_byte is_shown word_byte_shown (take (prefix_len is_word_byte bs) bs) (all_front is_word_byte bs) in
        subst (λ (p : TextPiece). IsWord (take p.len bs)) (sym at)
        (word (take (prefix_len is_word_byte bs) bs) (some (prefix_len is_word_byte bs) (word-some bs (omega arith) f)) each)
      where
        some : (n : ℕ) → 0 < n → 0 < length (take n bs)
        some zero h = absurd (omega arith)
        some (suc n) h = omega arith
    by false true f g = absurd (word_not (piece_at bs) (ap no_word (piece-by bs false true f g)) e)
    by false false f g = absurd (word_not (piece_at bs) (ap no_word (piece-by bs false false f g) ∙ mark_no_word c (get_or bs 1 0)) e)

-- a token whose text is a word where it is of that kind
abbrev IsWordToken : Lexeme → Type 0
IsWordToken token = token.kind ≡ TokenKind.Word → IsWord token.text

abbrev AreWordTokens : List Lexeme → Type 0
AreWordTokens [] = Unit {0}
AreWordTokens (token ∷ tokens) = IsWordToken token × AreWordTokens tokens

tokens_append : (xs ys : List Lexeme) → AreWordTokens xs → AreWordTokens ys → AreWordTokens (xs ++ ys)
tokens_append [] ys h k = k
tokens_append (x ∷ xs) ys h k = (h.0, tokens_append xs ys h.1 k)

line_tokens : (first : Bool) (line skip : ℕ) (bs : List ℕ) → AreWordTokens (lexemes first line skip bs)
unfolding lexemes
line_tokens first line skip [] = tt
line_tokens first line (suc skip) (c ∷ cs) = line_tokens first line skip cs
line_tokens first line zero (c ∷ cs) = by (is_backslash c) (is_blank c) (line_tokens first line zero cs) (line_tokens false line ((piece_at (c ∷ cs)).len - 1) cs)
  where
    by : (b t : Bool) → AreWordTokens (lexemes first line zero cs) → AreWordTokens (lexemes false line ((piece_at (c ∷ cs)).len - 1) cs)
        → AreWordTokens (cond b [] (cond t (lexemes first line zero cs) (lexeme first line (c ∷ cs) ∷ lexemes false line ((piece_at (c ∷ cs)).len - 1) cs)))
    by true t h k = tt
    by false true h k = h
    by false false h k = (word_piece c cs, k)

scan_tokens : (number : ℕ) (lines : List (List ℕ)) → AreWordTokens (scan_lines number lines).found
unfolding scan_lines
scan_tokens number [] = tt
scan_tokens number (line ∷ lines) = by (token_fault line) (scan_tokens (number + 1) lines)
  where
    by : (fault : Option TextKind) → AreWordTokens (scan_lines (number + 1) lines).found → AreWordTokens (line_scan fault number (lexemes true number zero line) (scan_lines (number + 1) lines)).found
    by None h = tokens_append (lexemes true number zero line) (scan_lines (number + 1) lines).found (line_tokens true number zero line) h
    by (Some kind) h = tt

-- ---- pieces
-- a piece that is a word where it is a name
abbrev IsNamedPiece : Piece → Type 0
IsNamedPiece (Seen item text) = is_name item ≡ true → IsWord text.text
IsNamedPiece (Stops stop) = Unit {0}

abbrev AreNamed : List Piece → Type 0
AreNamed [] = Unit {0}
AreNamed (p ∷ ps) = IsNamedPiece p × AreNamed ps

named_right : (xs ys : List Piece) → AreNamed (xs ++ ys) → AreNamed ys
named_right [] ys h = h
named_right (x ∷ xs) ys h = named_right xs ys h.1

named_left : (xs ys : List Piece) → AreNamed (xs ++ ys) → AreNamed xs
named_left [] ys h = tt
named_left (x ∷ xs) ys h = (h.0, named_left xs ys h.1)

heading_named : (heading : Heading) (text : Written) → IsNamedPiece (piece_of (heading_item heading) text)
heading_named (Heading.Keyword keyword) text = λ e. absurd (true≢false (sym e))
heading_named Heading.Unsupported text = tt

item_named : (kind : TokenKind) (text : Written) → (kind ≡ TokenKind.Word → IsWord text.text) → IsNamedPiece (piece_of (item_of kind text.text) text)
unfolding item_of name_or_infinity sign_of
item_named TokenKind.Word text h = by (is_infinity text.text)
  where
    by : (b : Bool) → IsNamedPiece (piece_of (cond b Item.Infinite Item.Name) text)
    by true = λ e. absurd (true≢false (sym e))
    by false = λ e. h refl
item_named TokenKind.Number text h = λ e. absurd (true≢false (sym e))
item_named TokenKind.Sign text h = λ e. absurd (true≢false (sym e))
item_named TokenKind.Relation text h = λ e. absurd (true≢false (sym e))
item_named TokenKind.Colon text h = λ e. absurd (true≢false (sym e))
item_named TokenKind.Refused text h = tt
item_named TokenKind.Loose text h = tt

token_named : (pair word : Option Heading) (token : Lexeme) → IsWordToken token → IsNamedPiece (piece_of (item_at pair word token) (written token))
token_named (Some heading) word token h = heading_named heading (written token)
token_named None (Some heading) token h = heading_named heading (written token)
token_named None None token h = item_named token.kind (written token) h

tokens_named : (ending : Piece) (skip : Bool) (tokens : List Lexeme) → IsNamedPiece ending → AreWordTokens tokens → AreNamed (pieces ending skip tokens)
unfolding pieces
tokens_named ending skip [] h k = (h, tt)
tokens_named ending true (token ∷ tokens) h k = tokens_named ending false tokens h k.1
tokens_named ending false (token ∷ tokens) h k =
    (token_named (pair_at token tokens) (word_at token tokens) token k.0, tokens_named ending (is_some (pair_at token tokens)) tokens h k.1)

ending_named : (bytes : List ℕ) (fault : Option TextFault) → IsNamedPiece (ending_of bytes fault)
ending_named bytes (Some fault) = tt
ending_named bytes None = tt

text_named : (bytes : List ℕ) → AreNamed (pieces_of bytes)
unfolding pieces_in
text_named bytes = tokens_named (ending_of bytes (scan_of bytes).fault) false (scan_of bytes).found (ending_named bytes (scan_of bytes).fault) (scan_tokens 1 (lines_of bytes))

-- ---- statements
abbrev AreNamedTerms : List Term → Type 0
AreNamedTerms [] = Unit {0}
AreNamedTerms (term ∷ terms) = IsWord term.name.text × AreNamedTerms terms

terms_append : (xs ys : List Term) → AreNamedTerms xs → AreNamedTerms ys → AreNamedTerms (xs ++ ys)
terms_append [] ys h k = k
terms_append (x ∷ xs) ys h k = (h.0, terms_append xs ys h.1 k)

abbrev IsNamedLabel : Option Written → Type 0
IsNamedLabel (Some label) = IsWord label.text
IsNamedLabel None = Unit {0}

abbrev IsNamedStatement : Statement → Type 0
IsNamedStatement (Objective maximise label terms) = AreNamedTerms terms
IsNamedStatement (Row label left terms relation right) = IsNamedLabel label × AreNamedTerms terms
IsNamedStatement _ = Unit {0}

spelled_term : (term : Term) (ps : List Piece) → SpellsTerm term ps → AreNamed ps → IsWord term.name.text
spelled_term term ps (ByName signs s f e) h = (named_right signs (Seen Item.Name term.name ∷ []) (subst AreNamed e h)).0 refl
spelled_term term ps (ByNumber signs number s f e) h = (named_right signs (Seen Item.Number number ∷ Seen Item.Name term.name ∷ []) (subst AreNamed e h)).1.0 refl

spelled_only : (term : Term) (ps : List Piece) → SpellsTerm term ps → AreNamed ps → AreNamedTerms (only term)
spelled_only term ps s h = (spelled_term term ps s h, tt)

spelled_part : (part : Option Term) (ps : List Piece) → SpellsPart part ps → AreNamed ps → AreNamedTerms (part_terms part)
spelled_part part ps (ATerm term e s) h = subst (λ p. AreNamedTerms (part_terms p)) (sym e) (spelled_only term ps s h)
spelled_part part ps (ANumber constant e i s) h = subst (λ p. AreNamedTerms (part_terms p)) (sym e) tt

module _ {A : Type 0} (SpellsOne : A → List Piece → Type 0) (made : A → List Term) (one : (value : A) (ps : List Piece) → SpellsOne value ps → AreNamed ps → AreNamedTerms (made value)) where
  spelled_more : (terms : List Term) (ps : List Piece) → SpellsMore SpellsOne made terms ps → AreNamed ps → AreNamedTerms terms
  spelled_more terms ps NoMore h = tt
  spelled_more terms ps (OneMore {terms = others} {rest = rest} value front b s more) h =
      terms_append (made value) others (one value front s (named_left front rest h)) (spelled_more others rest more (named_right front rest h))

spelled_terms : (terms : List Term) (ps : List Piece) → SpellsTerms terms ps → AreNamed ps → AreNamedTerms terms
spelled_terms terms ps s h =
    let k : AreNamed (s.front ++ s.back) = subst AreNamed s.spelled h in
    subst AreNamedTerms (sym s.says) (
      spelled_term s.first s.front s.says_first (named_left s.front s.back k),
      spelled_more SpellsTerm only spelled_only s.others s.back s.says_others (named_right s.front s.back k),
    )

spelled_form : (terms : List Term) (ps : List Piece) → SpellsForm terms ps → AreNamed ps → AreNamedTerms terms
spelled_form terms ps (Nothing e f) h = subst AreNamedTerms (sym e) tt
spelled_form terms ps (Parts first others front back s more e f) h =
    let k : AreNamed (front ++ back) = subst AreNamed f h in
    subst AreNamedTerms (sym e)
    (terms_append (part_terms first) others (spelled_part first front s (named_left front back k)) (spelled_more SpellsPart part_terms spelled_part others back more (named_right front back k)))

spelled_label : (label : Option Written) (ps : List Piece) → SpellsLabel label ps → AreNamed ps → IsNamedLabel label
spelled_label label ps (NoLabel e f) h = subst IsNamedLabel (sym e) tt
spelled_label label ps (ALabel name colon e f) h = subst IsNamedLabel (sym e) ((subst AreNamed f h).0 refl)

spelled_statement : (statement : Statement) (ps : List Piece) → IsSpelled statement ps → AreNamed ps → IsNamedStatement statement
spelled_statement statement ps (AnObjective maximise label terms text front back e l s f) h =
    subst IsNamedStatement (sym e) (spelled_form terms back s (named_right front back (subst AreNamed f h).1))
spelled_statement statement ps (AHeading keyword text e f) h = subst IsNamedStatement (sym e) tt
spelled_statement statement ps (ARow label terms relation right text front form back e l s c f) h =
    let k = subst AreNamed f h in
    let after = named_right front (form ++ compares relation text ∷ back) k in
    subst IsNamedStatement (sym e) (
      spelled_label label front l (named_left front (form ++ compares relation text ∷ back) k),
      spelled_terms terms form s (named_left form (compares relation text ∷ back) after),
    )
spelled_statement statement ps (ARange label left terms relation right t0 t1 front side form back e i l c s d f) h =
    let k = subst AreNamed f h in
    let after = named_right front (side ++ compares relation t0 ∷ (form ++ compares relation t1 ∷ back)) k in
    let rest = (named_right side (compares relation t0 ∷ (form ++ compares relation t1 ∷ back)) after).1 in
    subst IsNamedStatement (sym e) (
      spelled_label label front l (named_left front (side ++ compares relation t0 ∷ (form ++ compares relation t1 ∷ back)) k),
      spelled_terms terms form s (named_left form (compares relation t1 ∷ back) rest),
    )
spelled_statement statement ps (AFree name free e i f) h = subst IsNamedStatement (sym e) tt
spelled_statement statement ps (ABoundAfter name relation right text back e c f) h = subst IsNamedStatement (sym e) tt
spelled_statement statement ps (ABoundBefore left name relation text front e c f) h = subst IsNamedStatement (sym e) tt
spelled_statement statement ps (BothBounds left name relation right t0 t1 front back e i c d f) h = subst IsNamedStatement (sym e) tt
spelled_statement statement ps (AName binary name e f) h = subst IsNamedStatement (sym e) tt

-- ---- scripts
abbrev AreNamedStatements : List Statement → Type 0
AreNamedStatements [] = Unit {0}
AreNamedStatements (statement ∷ statements) = IsNamedStatement statement × AreNamedStatements statements

-- what n more statements of named pieces are
abbrev AreNamedScripts : ℕ → Type 0
AreNamedScripts n = (section : Section) (ps : List Piece) → AreNamed ps → AreNamedStatements (script n section ps).found

script_named : (n : ℕ) (section : Section) (ps : List Piece) → AreNamed ps → AreNamedStatements (script n section ps).found
unfolding script
script_named zero section ps h = tt
script_named (suc n) section ps h = by (statement_of section ps) refl (λ after rest k. script_named n after rest k)
  where
    on : (statement : Statement) (rest : List Piece) (next : Option Section) → IsNamedStatement statement → AreNamed rest → AreNamedScripts n → AreNamedStatements (goes_on statement next (λ after. script n after rest)).found
    on statement rest (Some after) s k later = (s, later after rest k)
    on statement rest None s k later = (s, tt)

    by : (parsed : Parsed Statement) → statement_of section ps ≡ parsed → AreNamedScripts n → AreNamedStatements (script_by section parsed (script n)).found
    by (Whole statement rest) e later =
        let read : Spells IsSpelled ps statement rest = spelled section ps statement rest e in
        let k : AreNamed (read.spelled ++ rest) = subst AreNamed read.same h in
        on statement rest (section_after section statement) (spelled_statement statement read.spelled read.is (named_left read.spelled rest k)) (named_right read.spelled rest k) later
    by (Fails stop) e later = tt

found_named : (bytes : List ℕ) → AreNamedStatements (script_of bytes).found
unfolding script_of
found_named bytes = script_named (length (pieces_of bytes)) Section.Begin (pieces_of bytes) (text_named bytes)

-- ---- the program
abbrev AreWords : List (List ℕ) → Type 0
AreWords names = All IsWord names

terms_named : (statements : List Statement) → AreNamedStatements statements → AreNamedTerms (terms_of statements)
unfolding terms_of
terms_named [] h = tt
terms_named (statement ∷ statements) h = terms_append (terms_in statement) (terms_of statements) (own statement h.0) (terms_named statements h.1)
  where
    own : (s : Statement) → IsNamedStatement s → AreNamedTerms (terms_in s)
    own (Objective maximise label terms) k = k
    own (HeadingOf keyword) k = tt
    own (Row label left terms relation right) k = k.1
    own (Free name) k = tt
    own (Bound left name relation right) k = tt
    own (Listed binary name) k = tt

columns_named : (names : List (List ℕ)) (terms : List Term) → AreWords names → AreNamedTerms terms → AreWords (with_names names terms)
unfolding with_names
columns_named names [] h k = h
columns_named names (term ∷ terms) h k = columns_named (with_name names term.name.text) terms (by (is_named names term.name.text)) k.1
  where
    by : (b : Bool) → AreWords (cond b names (names ++ term.name.text ∷ []))
    by true = h
    by false = Rattle.std.proofs.lemmas.List.Elements.All-push IsWord names term.name.text h k.0

abbrev AreNamedRows : List RowPart → Type 0
AreNamedRows [] = Unit {0}
AreNamedRows (row ∷ rows) = IsNamedLabel row.label × AreNamedRows rows

parts_named : (statements : List Statement) → AreNamedStatements statements → AreNamedRows (rows_of statements)
parts_named [] h = tt
parts_named (Objective maximise label terms ∷ statements) h = parts_named statements h.1
parts_named (HeadingOf keyword ∷ statements) h = parts_named statements h.1
parts_named (Row label left terms relation right ∷ statements) h = (h.0.0, parts_named statements h.1)
parts_named (Free name ∷ statements) h = parts_named statements h.1
parts_named (Bound left name relation right ∷ statements) h = parts_named statements h.1
parts_named (Listed binary name ∷ statements) h = parts_named statements h.1

row_named : (n : ℕ) (label : Option Written) → IsNamedLabel label → IsWord (row_name n label)
row_named n (Some label) h = h
row_named n None h = word (99 ∷ Rattle.std.specs.Fmt.decimal n) (omega arith) (decimal_shown n)

abbrev IsNamedRow : NamedRow → Type 0
IsNamedRow r = IsWord r.name

rows_named : (n : ℕ) (columns : List (List ℕ)) (rows : List RowPart) → AreNamedRows rows → All IsNamedRow (rows_from n columns rows)
unfolding rows_from
rows_named n columns [] h = All-nil IsNamedRow
rows_named n columns (row ∷ rows) h =
    All-cons IsNamedRow _ (rows_from (n + 1) columns rows) (row_named n row.label h.0) (rows_named (n + 1) columns rows h.1)

-- each name of the program that an LP text declares
pub lp_words : (bytes : List ℕ) → HasWords (lp_program bytes)
unfolding lp_program program_of
lp_words bytes =
    let found = (script_of bytes).found in
    let columns : AreWords (columns_of found) = columns_named [] (terms_of found) (All-nil IsWord) (terms_named found (found_named bytes)) in
    record {
      rows = rows_named 1 (columns_of found) (rows_of found) (parts_named found (found_named bytes));
      columns = All-map (λ (c : NamedColumn). IsWord c.name) (column_of found) (columns_of found) columns;
    }
