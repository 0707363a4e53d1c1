-- How statements are spelled, by the cases of the format: relations between what is said and the pieces that say it.
use Rattle.std.specs.Prelude.{◌≡◌, ℕ, Bool, true, false, List, [], ◌∷◌, ◌++◌, Option, Some, None}
use Rattle.lp_statements.specs.declared.parts.Item.{Item}
use Rattle.lp_statements.specs.declared.parts.Keyword.{Keyword}
use Rattle.lp_statements.specs.declared.parts.Relation.{Relation}
use Rattle.lp_statements.specs.declared.parts.Section.{Section}
use Rattle.lp_statements.specs.Words.{is_free}
use Rattle.lp_statements.specs.Items.{Written, Piece, Seen, Stops}
use Rattle.lp_statements.specs.Statements.{Constant, Term, Statement, Objective, Heading, Row, Free, Bound, Listed}
use Rattle.lp_statements.specs.Grammar.{Whole, is_first, is_sign, turned, terms_in, only, statement_of}
use Rattle.lp_statements.specs.Script.{script_of}

-- ---- terms and constants
-- signs, of which each minus turns what those after it say
pub data SpellsSigns : Bool → List Piece → Type 0 where
  NoSign : SpellsSigns false []
  ASign : {negative : Bool} {rest : List Piece} (minus : Bool) (text : Written) → SpellsSigns negative rest → SpellsSigns (turned minus negative) (Seen (Item.Sign minus) text ∷ rest)

-- the infinite constant, or else a number
abbrev pub constant_item : Bool → Item
constant_item true = Item.Infinite
constant_item false = Item.Number

-- signs, then a number or the infinite constant
pub record SpellsConstant (constant : Constant) (pieces : List Piece) : Type 0 where
  pub signs : List Piece
  pub negative : SpellsSigns constant.negative signs
  pub spelled : pieces ≡ signs ++ Seen (constant_item constant.infinite) constant.text ∷ []

-- signs, then a name, or a number and a name
pub data SpellsTerm (term : Term) (pieces : List Piece) : Type 0 where
  ByName : (signs : List Piece) → SpellsSigns term.negative signs → term.factor ≡ None → pieces ≡ signs ++ Seen Item.Name term.name ∷ [] → SpellsTerm term pieces
  ByNumber : (signs : List Piece) (number : Written) → SpellsSigns term.negative signs → term.factor ≡ Some number → pieces ≡ signs ++ Seen Item.Number number ∷ Seen Item.Name term.name ∷ [] → SpellsTerm term pieces

-- parts that each begin with a sign, and the terms of all
pub data SpellsMore {A : Type 0} (SpellsOne : A → List Piece → Type 0) (terms_of : A → List Term) : List Term → List Piece → Type 0 where
  NoMore : SpellsMore SpellsOne terms_of [] []
  OneMore : {terms : List Term} {rest : List Piece} (value : A) (pieces : List Piece) → is_first is_sign pieces ≡ true → SpellsOne value pieces → SpellsMore SpellsOne terms_of terms rest → SpellsMore SpellsOne terms_of (terms_of value ++ terms) (pieces ++ rest)

-- a term, and terms that each begin with a sign
pub record SpellsTerms (terms : List Term) (pieces : List Piece) : Type 0 where
  pub first : Term
  pub others : List Term
  pub front : List Piece
  pub back : List Piece
  pub says_first : SpellsTerm first front
  pub says_others : SpellsMore SpellsTerm only others back
  pub says : terms ≡ first ∷ others
  pub spelled : pieces ≡ front ++ back

-- a term of an objective; or a number, which is not used
pub data SpellsPart (part : Option Term) (pieces : List Piece) : Type 0 where
  ATerm : (term : Term) → part ≡ Some term → SpellsTerm term pieces → SpellsPart part pieces
  ANumber : (constant : Constant) → part ≡ None → constant.infinite ≡ false → SpellsConstant constant pieces → SpellsPart part pieces

-- nothing; or parts, each of which after the first begins with a sign
pub data SpellsForm (terms : List Term) (pieces : List Piece) : Type 0 where
  Nothing : terms ≡ [] → pieces ≡ [] → SpellsForm terms pieces
  Parts : (first : Option Term) (others : List Term) (front back : List Piece) → SpellsPart first front → SpellsMore SpellsPart terms_in others back → terms ≡ terms_in first ++ others → pieces ≡ front ++ back → SpellsForm terms pieces

-- ---- statements
-- a name and a colon, or nothing
pub data SpellsLabel (label : Option Written) (pieces : List Piece) : Type 0 where
  NoLabel : label ≡ None → pieces ≡ [] → SpellsLabel label pieces
  ALabel : (name colon : Written) → label ≡ Some name → pieces ≡ Seen Item.Name name ∷ Seen Item.Colon colon ∷ [] → SpellsLabel label pieces

-- at most, or at least
pub data IsInequality (relation : Relation) : Type 0 where
  IsAtMost : relation ≡ Relation.AtMost → IsInequality relation
  IsAtLeast : relation ≡ Relation.AtLeast → IsInequality relation

-- the keyword of an objective that is to be made greatest, or least
abbrev pub sense : Bool → Keyword
sense true = Keyword.Maximise
sense false = Keyword.Minimise

-- a relation
abbrev pub compares : Relation → Written → Piece
compares relation text = Seen (Item.Relation relation) text

-- the pieces that a statement is
pub data IsSpelled (statement : Statement) (pieces : List Piece) : Type 0 where
  -- the sense, a label if there is one, and a form
  AnObjective : (maximise : Bool) (label : Option Written) (terms : List Term) (text : Written) (front back : List Piece) → statement ≡ Objective maximise label terms
      → SpellsLabel label front → SpellsForm terms back → pieces ≡ Seen (Item.Keyword (sense maximise)) text ∷ (front ++ back) → IsSpelled statement pieces
  -- any other keyword
  AHeading : (keyword : Keyword) (text : Written) → statement ≡ Heading keyword → pieces ≡ Seen (Item.Keyword keyword) text ∷ [] → IsSpelled statement pieces
  -- a label if there is one, and: terms relation constant
  ARow : (label : Option Written) (terms : List Term) (relation : Relation) (right : Constant) (text : Written) (front form back : List Piece) → statement ≡ Row label None terms relation right
      → SpellsLabel label front → SpellsTerms terms form → SpellsConstant right back → pieces ≡ front ++ (form ++ compares relation text ∷ back) → IsSpelled statement pieces
  -- a label if there is one, and: constant relation terms relation constant
  ARange : (label : Option Written) (left : Constant) (terms : List Term) (relation : Relation) (right : Constant) (before after : Written) (front side form back : List Piece) → statement ≡ Row label (Some left) terms relation right → IsInequality relation
      → SpellsLabel label front → SpellsConstant left side → SpellsTerms terms form → SpellsConstant right back → pieces ≡ front ++ (side ++ compares relation before ∷ (form ++ compares relation after ∷ back)) → IsSpelled statement pieces
  -- name `free`
  AFree : (name free : Written) → statement ≡ Free name → is_free free.text ≡ true → pieces ≡ Seen Item.Name name ∷ Seen Item.Name free ∷ [] → IsSpelled statement pieces
  -- name relation constant
  ABoundAfter : (name : Written) (relation : Relation) (right : Constant) (text : Written) (back : List Piece) → statement ≡ Bound None name relation (Some right)
      → SpellsConstant right back → pieces ≡ Seen Item.Name name ∷ compares relation text ∷ back → IsSpelled statement pieces
  -- constant relation name
  ABoundBefore : (left : Constant) (name : Written) (relation : Relation) (text : Written) (front : List Piece) → statement ≡ Bound (Some left) name relation None
      → SpellsConstant left front → pieces ≡ front ++ compares relation text ∷ Seen Item.Name name ∷ [] → IsSpelled statement pieces
  -- constant relation name relation constant
  BothBounds : (left : Constant) (name : Written) (relation : Relation) (right : Constant) (before after : Written) (front back : List Piece) → statement ≡ Bound (Some left) name relation (Some right) → IsInequality relation
      → SpellsConstant left front → SpellsConstant right back → pieces ≡ front ++ compares relation before ∷ Seen Item.Name name ∷ compares relation after ∷ back → IsSpelled statement pieces
  -- a name in a list
  AName : (binary : Bool) (name : Written) → statement ≡ Listed binary name → pieces ≡ Seen Item.Name name ∷ [] → IsSpelled statement pieces

-- ---- what is read
-- only pieces that are seen
abbrev pub AllSeen : List Piece → Type 0
AllSeen [] = Unit {0}
AllSeen (Seen item text ∷ rest) = AllSeen rest
AllSeen (Stops stop ∷ rest) = ⊥

-- the pieces begin with a spelling, and these are left
pub record Spells {A : Type 0} (SpellsIt : A → List Piece → Type 0) (pieces : List Piece) (value : A) (rest : List Piece) : Type 0 where
  pub spelled : List Piece
  pub same : pieces ≡ spelled ++ rest
  pub seen : AllSeen spelled
  pub is : SpellsIt value spelled

-- the last of statements
abbrev pub last : List Statement → Option Statement
last [] = None
last (statement ∷ []) = Some statement
last (statement ∷ next ∷ statements) = last (next ∷ statements)

-- what holds of statements and of scripts
pub record StatementLaws : Type 0 where
  -- what is read is what is spelled
  pub spelled : (section : Section) (pieces : List Piece) (statement : Statement) (rest : List Piece) → statement_of section pieces ≡ Whole statement rest → Spells IsSpelled pieces statement rest
  -- the statements of a text have no fault of form exactly where the last is `end`
  pub ended : (bytes : List ℕ) → (script_of bytes).fault ≡ None → last (script_of bytes).found ≡ Some (Heading Keyword.End)
  pub ends : (bytes : List ℕ) → last (script_of bytes).found ≡ Some (Heading Keyword.End) → (script_of bytes).fault ≡ None
