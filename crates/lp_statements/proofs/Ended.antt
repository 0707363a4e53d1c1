-- A script has no fault exactly where its last statement is `end`.
use Rattle.std.proofs.Common.{◌≡◌, ℕ, zero, suc, ◌<◌, ◌≤◌, Bool, true, false, List, [], ◌∷◌, ◌++◌, length, Option, Some, None, is_some, refl, sym, ap, ◌∙◌, subst, arith, true≢false}
use Rattle.text_fields.specs.declared.faults.TextFault.{TextFault}
use Rattle.text_fields.specs.Tokens.{Lexeme, scan_of}
use Rattle.lp_statements.specs.declared.parts.Keyword.{Keyword}
use Rattle.lp_statements.specs.declared.parts.Section.{Section}
use Rattle.lp_statements.specs.Items.{Piece, Seen, Stops, piece_of, item_at, pair_at, word_at, written, pieces, pieces_in, pieces_of, ending_of}
use Rattle.lp_statements.specs.Statements.{Statement, Objective, Heading, Row, Free, Bound, Listed}
use Rattle.lp_statements.specs.Grammar.{Parsed, Whole, Fails, statement_of}
use Rattle.lp_statements.specs.Script.{section_after, goes_on, script_by, script, script_of}
use Rattle.lp_statements.specs.Spelling.{AllSeen, last}
use Rattle.lp_statements.proofs.Spelled.{statement_read, statement_fewer}

none_some : {A : Type 0} (x : A) → None ≡ Some x → ⊥
none_some x e = true≢false (sym (ap is_some e))

-- ---- pieces end with one that stops
abbrev pub Ends : List Piece → Type 0
Ends [] = ⊥
Ends (Stops stop ∷ rest) = Unit {0}
Ends (Seen item text ∷ rest) = Ends rest

ends_left : (xs rest : List Piece) → AllSeen xs → Ends (xs ++ rest) → Ends rest
ends_left [] rest seen h = h
ends_left (Seen item text ∷ xs) rest seen h = ends_left xs rest seen h
ends_left (Stops stop ∷ xs) rest seen h = absurd seen

ends_more : (p : Piece) (rest : List Piece) → Ends rest → Ends (p ∷ rest)
ends_more (Seen item text) rest h = h
ends_more (Stops stop) rest h = tt

pieces_end : (ending : Piece) (skip : Bool) (tokens : List Lexeme) → Ends (ending ∷ []) → Ends (pieces ending skip tokens)
unfolding pieces
pieces_end ending skip [] h = h
pieces_end ending true (token ∷ tokens) h = pieces_end ending false tokens h
pieces_end ending false (token ∷ tokens) h =
    ends_more (piece_of (item_at (pair_at token tokens) (word_at token tokens) token) (written token)) (pieces ending (is_some (pair_at token tokens)) tokens) (pieces_end ending (is_some (pair_at token tokens)) tokens h)

ending_ends : (bytes : List ℕ) (fault : Option TextFault) → Ends (ending_of bytes fault ∷ [])
ending_ends bytes (Some fault) = tt
ending_ends bytes None = tt

pub text_ends : (bytes : List ℕ) → Ends (pieces_of bytes)
unfolding pieces_in
text_ends bytes = pieces_end (ending_of bytes (scan_of bytes).fault) false (scan_of bytes).found (ending_ends bytes (scan_of bytes).fault)

-- so there is one
pub ends_there : (ps : List Piece) → Ends ps → 0 < length ps
ends_there [] ends = absurd ends
ends_there (p ∷ ps) ends = omega arith

-- and after a statement too
pub statement_ends : (section : Section) (ps : List Piece) (s : Statement) (rest : List Piece) → statement_of section ps ≡ Whole s rest → Ends ps → Ends rest
statement_ends section ps s rest is ends = let r = statement_read section ps s rest is in ends_left r.spelled rest r.seen (subst Ends r.same ends)

-- ---- the last statement
abbrev end : Statement
end = Heading Keyword.End

last_cons : (s : Statement) (xs : List Statement) (x : Statement) → last xs ≡ Some x → last (s ∷ xs) ≡ Some x
last_cons s [] x e = absurd (none_some x e)
last_cons s (y ∷ ys) x e = e

leads_nowhere : (section : Section) (s : Statement) → section_after section s ≡ None → s ≡ end
leads_nowhere section (Objective maximise label terms) e = absurd (none_some Section.Objective (sym e))
leads_nowhere section (Row label left terms relation right) e = absurd (none_some section (sym e))
leads_nowhere section (Free name) e = absurd (none_some section (sym e))
leads_nowhere section (Bound left name relation right) e = absurd (none_some section (sym e))
leads_nowhere section (Listed binary name) e = absurd (none_some section (sym e))
leads_nowhere section (Heading Keyword.SubjectTo) e = absurd (none_some Section.Rows (sym e))
leads_nowhere section (Heading Keyword.Bounds) e = absurd (none_some Section.Bounds (sym e))
leads_nowhere section (Heading Keyword.General) e = absurd (none_some Section.General (sym e))
leads_nowhere section (Heading Keyword.Binary) e = absurd (none_some Section.Binary (sym e))
leads_nowhere section (Heading Keyword.End) e = refl
leads_nowhere section (Heading Keyword.Minimise) e = absurd (none_some section (sym e))
leads_nowhere section (Heading Keyword.Maximise) e = absurd (none_some section (sym e))

script_ended : (n : ℕ) (section : Section) (ps : List Piece) → length ps ≤ n → Ends ps → (script n section ps).fault ≡ None → last (script n section ps).found ≡ Some end
unfolding script
script_ended zero section [] few ends e = absurd ends
script_ended zero section (p ∷ ps) few ends e = absurd (omega arith)
script_ended (suc n) section ps few ends e = by (statement_of section ps) refl e (λ after rest few ends e. script_ended n after rest few ends e)
  where
    goes : (s : Statement) (rest : List Piece) (o : Option Section) → section_after section s ≡ o → (goes_on s o (λ after. script n after rest)).fault ≡ None → length rest ≤ n → Ends rest
        → ((after : Section) (rest : List Piece) → length rest ≤ n → Ends rest → (script n after rest).fault ≡ None → last (script n after rest).found ≡ Some end) → last (goes_on s o (λ after. script n after rest)).found ≡ Some end
    goes s rest None is e few ends before = ap Some (leads_nowhere section s is)
    goes s rest (Some after) is e few ends before = last_cons s (script n after rest).found end (before after rest few ends e)

    by : (parsed : Parsed Statement) → statement_of section ps ≡ parsed → (script_by section parsed (script n)).fault ≡ None
        → ((after : Section) (rest : List Piece) → length rest ≤ n → Ends rest → (script n after rest).fault ≡ None → last (script n after rest).found ≡ Some end) → last (script_by section parsed (script n)).found ≡ Some end
    by (Fails stop) is e before = absurd (none_some stop (sym e))
    by (Whole s rest) is e before =
        let fewer = statement_fewer section ps s rest is in goes s rest (section_after section s) refl e (omega arith) (statement_ends section ps s rest is ends) before

-- and the other way
script_ends : (n : ℕ) (section : Section) (ps : List Piece) → last (script n section ps).found ≡ Some end → (script n section ps).fault ≡ None
unfolding script
script_ends zero section ps e = refl
script_ends (suc n) section ps e = by (statement_of section ps) e (λ after rest e. script_ends n after rest e)
  where
    here : (s : Statement) (after : Section) → section_after section s ≡ Some after → Some s ≡ Some end → ⊥
    here s after is e = none_some after (sym (ap (λ o. by_option o) e) ∙ is)
      where
        by_option : Option Statement → Option Section
        by_option (Some s) = section_after section s
        by_option None = None

    rests : (s : Statement) (after : Section) (found : List Statement) → section_after section s ≡ Some after → last (s ∷ found) ≡ Some end → last found ≡ Some end
    rests s after [] is e = absurd (here s after is e)
    rests s after (x ∷ xs) is e = e

    goes : (s : Statement) (rest : List Piece) (o : Option Section) → section_after section s ≡ o → last (goes_on s o (λ after. script n after rest)).found ≡ Some end
        → ((after : Section) (rest : List Piece) → last (script n after rest).found ≡ Some end → (script n after rest).fault ≡ None) → (goes_on s o (λ after. script n after rest)).fault ≡ None
    goes s rest None is e before = refl
    goes s rest (Some after) is e before = before after rest (rests s after (script n after rest).found is e)

    by : (parsed : Parsed Statement) → last (script_by section parsed (script n)).found ≡ Some end → ((after : Section) (rest : List Piece) → last (script n after rest).found ≡ Some end → (script n after rest).fault ≡ None) → (script_by section parsed (script n)).fault ≡ None
    by (Fails stop) e before = absurd (none_some end e)
    by (Whole s rest) e before = goes s rest (section_after section s) refl e before

pub ended : (bytes : List ℕ) → (script_of bytes).fault ≡ None → last (script_of bytes).found ≡ Some end
unfolding script_of
ended bytes e = script_ended (length (pieces_of bytes)) Section.Begin (pieces_of bytes) (omega arith) (text_ends bytes) e

pub ends : (bytes : List ℕ) → last (script_of bytes).found ≡ Some end → (script_of bytes).fault ≡ None
unfolding script_of
ends bytes e = script_ends (length (pieces_of bytes)) Section.Begin (pieces_of bytes) e
