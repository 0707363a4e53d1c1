-- Steps of a parse: signs, labels, and one part after another.
use Rattle.std.proofs.Common.{◌≡◌, ℕ, Bool, true, false, cond, not, is_some, List, [], ◌∷◌, Some, None, refl, sym, ap, ◌∙◌, true≢false}
use Rattle.std.specs.Bool.{beq}
use Rattle.std.specs.Prelude.{unwrap_or, Result, Ok, Err}
use Rattle.lp_statements.specs.declared.parts.Item.{Item}
use Rattle.lp_statements.specs.Items.{Written, Piece, Seen, Stops}
use Rattle.lp_statements.specs.Grammar.{Parsed, is_first, is_sign, is_name, is_colon, text_first, label, signs, turned}
use Rattle.lp_statements.specs.declared.parts.Statement.{Statement as CodeStatement}
use Rattle.text_fields.specs.declared.faults.ReadFault.{ReadFault}
use Rattle.lp_statements.specs.Statements.{Statement, Entire, shown}
use Rattle.lp_statements.specs.Cursor.{after_first, Gives, GivesStatement}

-- a sign is turned where it differs
turned_differs : (minus negative : Bool) → turned minus negative ≡ not (beq minus negative)
turned_differs true true = refl
turned_differs true false = refl
turned_differs false true = refl
turned_differs false false = refl

-- one sign more
pub signs_more : (ps rest : List Piece) (minus negative : Bool) (text : Written) → ps ≡ Seen (Item.Sign minus) text ∷ rest → signs negative ps ≡ signs (not (beq minus negative)) rest
unfolding signs
signs_more ps rest minus negative text is = ap (signs negative) is ∙ ap (λ b. signs b rest) (turned_differs minus negative)

-- no sign more
pub signs_end : (ps : List Piece) (negative : Bool) → is_first is_sign ps ≡ false → signs negative ps ≡ (negative, ps)
unfolding signs
signs_end [] negative none = refl
signs_end (Stops stop ∷ rest) negative none = refl
signs_end (Seen Item.Name text ∷ rest) negative none = refl
signs_end (Seen Item.Number text ∷ rest) negative none = refl
signs_end (Seen Item.Infinite text ∷ rest) negative none = refl
signs_end (Seen Item.Colon text ∷ rest) negative none = refl
signs_end (Seen (Item.Keyword keyword) text ∷ rest) negative none = refl
signs_end (Seen (Item.Relation relation) text ∷ rest) negative none = refl
signs_end (Seen (Item.Refused kind) text ∷ rest) negative none = refl
signs_end (Seen (Item.Sign minus) text ∷ rest) negative none = absurd (true≢false none)

-- ---- what stands first
first_none : (test : Item → Bool) (ps : List Piece) → is_first test ps ≡ false → text_first test ps ≡ None
first_none test [] none = refl
first_none test (Stops stop ∷ rest) none = refl
first_none test (Seen item text ∷ rest) none = ap (λ b. cond b (Some (text, rest)) None) none

first_some : (test : Item → Bool) (ps : List Piece) → is_first test ps ≡ true → (text : Written) × (text_first test ps ≡ Some (text, after_first ps))
first_some test [] some = absurd (true≢false (sym some))
first_some test (Stops stop ∷ rest) some = absurd (true≢false (sym some))
first_some test (Seen item text ∷ rest) some = (text, ap (λ b. cond b (Some (text, rest)) None) some)

-- what is left after a text
text_after : (test : Item → Bool) (ps : List Piece) (found : Written × List Piece) → text_first test ps ≡ Some found → after_first ps ≡ found.1
text_after test [] found e = absurd (true≢false (sym (ap is_some e)))
text_after test (Stops stop ∷ rest) found e = absurd (true≢false (sym (ap is_some e)))
text_after test (Seen item text ∷ rest) found e = by (test item) e
  where
    by : (b : Bool) → cond b (Some (text, rest)) None ≡ Some found → rest ≡ found.1
    by true e = ap (λ (found : Written × List Piece). found.1) (ap (λ o. unwrap_or o (text, rest)) e)
    by false e = absurd (true≢false (sym (ap is_some e)))

-- ---- labels
pub no_name : (ps : List Piece) → text_first is_name ps ≡ None → label ps ≡ (None, ps)
unfolding label
no_name ps e = rw e refl

pub no_colon : (ps : List Piece) → is_first is_colon (after_first ps) ≡ false → label ps ≡ (None, ps)
unfolding label
no_colon [] e = refl
no_colon (Stops stop ∷ rest) e = refl
no_colon (Seen item text ∷ rest) e = by (is_name item) refl
  where
    by : (b : Bool) → is_name item ≡ b → label (Seen item text ∷ rest) ≡ (None, Seen item text ∷ rest)
    by true is = rw (is, first_none is_colon rest e) refl
    by false is = rw is refl

pub a_label : (ps mid : List Piece) (name : Written) → is_first is_colon (after_first ps) ≡ true → text_first is_name ps ≡ Some (name, mid) → label ps ≡ (Some name, after_first mid)
unfolding label
a_label ps mid name second first =
    let colon = first_some is_colon mid (ap (is_first is_colon) (sym (text_after is_name ps (name, mid) first)) ∙ second) in
    rw (first, colon.1) refl

-- ---- statements
-- a statement that is kept whole
pub entire : (n : ℕ) (parsed : Parsed Statement) (new : List Piece) (result : Result CodeStatement ReadFault) → Gives shown parsed new result → GivesStatement n parsed new result
entire n parsed new (Ok statement) whole = record { statement = shown statement; whole = whole; keeps = Entire refl }
entire n parsed new (Err fault) refused = refused
