-- The statements of the LP format, parted off the front of a list of pieces: each is whole with the pieces that follow, or fails at the first
-- piece with which no statement goes on.
use Rattle.std.specs.Prelude.{ℕ, zero, suc, Bool, true, false, cond, not, List, [], ◌∷◌, ◌++◌, length, Option, Some, None, is_some}
use Rattle.std.specs.Option.{option_map, option_map_or}
use Rattle.text_fields.specs.declared.faults.ReadKind.TheVariants.{Order, BadField, Truncated}
use Rattle.text_fields.specs.declared.faults.ReadStop.{ReadStop}
use Rattle.lp_statements.specs.declared.parts.Item.{Item}
use Rattle.lp_statements.specs.declared.parts.Keyword.{Keyword}
use Rattle.lp_statements.specs.declared.parts.Relation.{Relation}
use Rattle.lp_statements.specs.declared.parts.Section.{Section}
use Rattle.lp_statements.specs.Words.{is_free}
use Rattle.lp_statements.specs.Items.{Written, Piece, Seen, Stops, stop_at}
use Rattle.lp_statements.specs.Statements.{Constant, Term, Statement, Objective, Heading, Row, Free, Bound, Listed}

-- a part of a text that is whole, and the pieces after it; or the fault at which it fails
pub data Parsed (A : Type 0) : Type 0 where
  Whole : A → List Piece → Parsed A
  Fails : ReadStop → Parsed A

-- a part and then another, which may depend on the first
abbrev pub then : {A B : Type 0} → Parsed A → (A → List Piece → Parsed B) → Parsed B
then (Whole value rest) next = next value rest
then (Fails stop) next = Fails stop

-- what begins with an item
abbrev pub with_first : {A : Type 0} → List Piece → (Item → Written → List Piece → Parsed A) → Parsed A
with_first [] next = Fails (stop_at 1 Truncated)
with_first (Stops stop ∷ rest) next = Fails stop
with_first (Seen item text ∷ rest) next = next item text rest

-- a value that the item at a token gives; without one no statement goes on with it
abbrev pub or_bad : {A : Type 0} → Written → Option A → List Piece → Parsed A
or_bad text (Some value) rest = Whole value rest
or_bad text None rest = Fails (stop_at text.line BadField)

-- the fault of a place where no statement goes on
abbrev pub wrong : {A : Type 0} → List Piece → Parsed A
wrong pieces = with_first pieces (λ item text rest. Fails (stop_at text.line BadField))

-- ---- what an item is
abbrev pub is_name : Item → Bool
is_name Item.Name = true
is_name _ = false

-- a colon
abbrev pub is_colon : Item → Bool
is_colon Item.Colon = true
is_colon _ = false

-- a sign, and whether it is minus
abbrev pub minus_of : Item → Option Bool
minus_of (Item.Sign minus) = Some minus
minus_of _ = None

-- a number, or the infinite constant, and whether it is this
abbrev pub infinite_of : Item → Option Bool
infinite_of Item.Number = Some false
infinite_of Item.Infinite = Some true
infinite_of _ = None

-- a relation
abbrev pub relation_in : Item → Option Relation
relation_in (Item.Relation relation) = Some relation
relation_in _ = None

-- a relation that may stand before a form
abbrev pub inequality_in : Item → Option Relation
inequality_in (Item.Relation Relation.AtMost) = Some Relation.AtMost
inequality_in (Item.Relation Relation.AtLeast) = Some Relation.AtLeast
inequality_in _ = None

-- a keyword
abbrev pub keyword_in : Item → Option Keyword
keyword_in (Item.Keyword keyword) = Some keyword
keyword_in _ = None

-- what a term or a number may begin with
abbrev pub begins_part : Item → Bool
begins_part Item.Name = true
begins_part Item.Number = true
begins_part (Item.Sign minus) = true
begins_part _ = false

-- ---- what stands first
-- whether an item for which the test holds does
abbrev pub is_first : (Item → Bool) → List Piece → Bool
is_first test [] = false
is_first test (Stops stop ∷ rest) = false
is_first test (Seen item text ∷ rest) = test item

-- the text of such an item, and the pieces after it
abbrev pub text_first : (Item → Bool) → List Piece → Option (Written × List Piece)
text_first test [] = None
text_first test (Stops stop ∷ rest) = None
text_first test (Seen item text ∷ rest) = cond (test item) (Some (text, rest)) None

-- a label: a word and a colon
unfoldable pub label : List Piece → Option Written × List Piece
label pieces = name_and_colon (text_first is_name pieces)
  where
    colon_after : Written → Option (Written × List Piece) → Option Written × List Piece
    colon_after name (Some colon) = (Some name, colon.1)
    colon_after name None = (None, pieces)

    name_and_colon : Option (Written × List Piece) → Option Written × List Piece
    name_and_colon (Some name) = colon_after name.0 (text_first is_colon name.1)
    name_and_colon None = (None, pieces)

-- ---- terms and constants
-- a sign turned by another
abbrev pub turned : Bool → Bool → Bool
turned minus negative = cond minus (not negative) negative

-- signs: each minus turns the sign so far; and the pieces after them
unfoldable pub signs : Bool → List Piece → Bool × List Piece
signs negative [] = (negative, [])
signs negative (Stops stop ∷ rest) = (negative, Stops stop ∷ rest)
signs negative (Seen item text ∷ rest) = option_map_or (λ minus. signs (turned minus negative) rest) (minus_of item) (negative, Seen item text ∷ rest)

-- a constant after its signs
unfoldable pub constant_of : Bool → List Piece → Parsed Constant
constant_of negative pieces =
    with_first pieces (λ item text rest. or_bad text (option_map (λ infinite. record { negative = negative; infinite = infinite; text = text }) (infinite_of item)) rest)

-- a constant: signs, then a number or the infinite constant
unfoldable pub constant : List Piece → Parsed Constant
constant pieces = constant_of (signs false pieces).0 (signs false pieces).1

-- a term or a constant
pub data Element : Type 0 where
  OfTerm : Term → Element
  OfConstant : Constant → Element

-- a number is a term's factor where a name comes after it, else a constant
abbrev pub factor_or_constant : Bool → Written → Option (Written × List Piece) → List Piece → Parsed Element
factor_or_constant negative number (Some name) rest = Whole (OfTerm (record { negative = negative; factor = Some number; name = name.0 })) name.1
factor_or_constant negative number None rest = Whole (OfConstant (record { negative = negative; infinite = false; text = number })) rest

-- a number, or the infinite constant
abbrev pub amount : Bool → Written → Option Bool → List Piece → Parsed Element
amount negative text (Some true) rest = Whole (OfConstant (record { negative = negative; infinite = true; text = text })) rest
amount negative text (Some false) rest = factor_or_constant negative text (text_first is_name rest) rest
amount negative text None rest = Fails (stop_at text.line BadField)

-- a term or a constant after its signs
unfoldable pub element_of : Bool → List Piece → Parsed Element
element_of negative pieces =
    with_first pieces (λ item text rest. cond (is_name item) (Whole (OfTerm (record { negative = negative; factor = None; name = text })) rest) (amount negative text (infinite_of item) rest))

-- a term or a constant with its signs
unfoldable pub element : List Piece → Parsed Element
element pieces = element_of (signs false pieces).0 (signs false pieces).1

-- only a term goes on: after a number a name is missing
abbrev pub term_in : Element → List Piece → Parsed Term
term_in (OfTerm term) rest = Whole term rest
term_in (OfConstant constant) rest = cond constant.infinite (Fails (stop_at constant.text.line BadField)) (wrong rest)

-- a term: signs, then a number and a name, or a name
unfoldable pub term : List Piece → Parsed Term
term pieces = then (element pieces) term_in

-- a sign
abbrev pub is_sign : Item → Bool
is_sign item = is_some (minus_of item)

-- parts that each begin with a sign, n at most, and the terms of each
unfoldable pub repeated : {A : Type 0} → (List Piece → Parsed A) → (A → List Term) → ℕ → List Piece → Parsed (List Term)
repeated one terms_of zero pieces = Whole [] pieces
repeated one terms_of (suc n) pieces =
    cond (is_first is_sign pieces) (then (one pieces) (λ value rest. then (repeated one terms_of n rest) (λ terms last. Whole (terms_of value ++ terms) last))) (Whole [] pieces)

-- the term itself
abbrev pub only : Term → List Term
only term = term ∷ []

-- terms that each begin with a sign; each takes a piece at least, so there are no more of them than pieces
abbrev pub more_terms : List Piece → Parsed (List Term)
more_terms pieces = repeated term only (length pieces) pieces

-- ---- the objective
-- a finite constant is not used
abbrev pub part_in : Element → List Piece → Parsed (Option Term)
part_in (OfTerm term) rest = Whole (Some term) rest
part_in (OfConstant constant) rest = cond constant.infinite (Fails (stop_at constant.text.line BadField)) (Whole None rest)

-- a term or a finite constant
unfoldable pub part : List Piece → Parsed (Option Term)
part pieces = then (element pieces) part_in

-- the term of a part, if there is one
abbrev pub terms_in : Option Term → List Term
terms_in (Some term) = term ∷ []
terms_in None = []

-- terms and constants that each begin with a sign
abbrev pub more_parts : List Piece → Parsed (List Term)
more_parts pieces = repeated part terms_in (length pieces) pieces

-- one part or more
unfoldable pub parts : List Piece → Parsed (List Term)
parts pieces = then (part pieces) (λ first rest. then (more_parts rest) (λ terms last. Whole (terms_in first ++ terms) last))

-- parts, or nothing
unfoldable pub form : List Piece → Parsed (List Term)
form pieces = cond (is_first begins_part pieces) (parts pieces) (Whole [] pieces)

-- a label, if there is one, and a form
unfoldable pub objective : Bool → List Piece → Parsed Statement
objective maximise pieces = then (form (label pieces).1) (λ terms rest. Whole (Objective maximise (label pieces).0 terms) rest)

-- the keyword of an objective, and whether it is to be made greatest
abbrev pub sense_of : Item → Option Bool
sense_of (Item.Keyword Keyword.Minimise) = Some false
sense_of (Item.Keyword Keyword.Maximise) = Some true
sense_of _ = None

-- the objective after its keyword, before which nothing may stand
abbrev pub objective_after : Written → Option Bool → List Piece → Parsed Statement
objective_after text (Some maximise) rest = objective maximise rest
objective_after text None rest = Fails (stop_at text.line Order)

-- the keyword and the objective
unfoldable pub begin : List Piece → Parsed Statement
begin pieces = with_first pieces (λ item text rest. objective_after text (sense_of item) rest)

-- ---- after the objective
-- the keyword of the rows; any other is out of order
abbrev pub subject_to_by : Written → Option Keyword → List Piece → Parsed Statement
subject_to_by text (Some Keyword.SubjectTo) rest = Whole (Heading Keyword.SubjectTo) rest
subject_to_by text (Some keyword) rest = Fails (stop_at text.line Order)
subject_to_by text None rest = Fails (stop_at text.line BadField)

-- nothing else may stand there
unfoldable pub subject_to : List Piece → Parsed Statement
subject_to pieces = with_first pieces (λ item text rest. subject_to_by text (keyword_in item) rest)

-- ---- rows
-- a relation
unfoldable pub relation : List Piece → Parsed Relation
relation pieces = with_first pieces (λ item text rest. or_bad text (relation_in item) rest)

-- a relation that may stand before a form
unfoldable pub inequality : List Piece → Parsed Relation
inequality pieces = with_first pieces (λ item text rest. or_bad text (inequality_in item) rest)

-- the second relation of a statement: both are at most, or both are at least
abbrev pub agreed : Relation → Option Relation → Option Relation
agreed Relation.AtMost (Some Relation.AtMost) = Some Relation.AtMost
agreed Relation.AtLeast (Some Relation.AtLeast) = Some Relation.AtLeast
agreed _ _ = None

-- the relation after a form, where one may stand before it
abbrev pub agreed_with : Option Relation → Option Relation → Option Relation
agreed_with (Some before) after = agreed before after
agreed_with None after = after

-- a relation that agrees with one before, if there is one
unfoldable pub agreeing : Option Relation → List Piece → Parsed Relation
agreeing before pieces = with_first pieces (λ item text rest. or_bad text (agreed_with before (relation_in item)) rest)

-- the begin of a row: a constant and a relation, if they are there, and the first term
pub record Opening : Type 0 where
  pub left : Option Constant
  pub before : Option Relation
  pub first : Term

-- a row that begins with a term, or with a constant
abbrev pub opening_from : Element → List Piece → Parsed Opening
opening_from (OfTerm first) rest = Whole (record { left = None; before = None; first = first }) rest
opening_from (OfConstant constant) rest =
    then (inequality rest) (λ before more. then (term more) (λ first last. Whole (record { left = Some constant; before = Some before; first = first }) last))

-- the begin of a row
unfoldable pub opening : List Piece → Parsed Opening
opening pieces = then (element pieces) opening_from

-- the end of a row: a relation, which agrees with one before the form, and a constant
unfoldable pub closing : Option Relation → List Piece → Parsed (Relation × Constant)
closing before pieces = then (agreeing before pieces) (λ relation rest. then (constant rest) (λ right last. Whole (relation, right) last))

-- a row after its label
unfoldable pub row_after : Option Written → List Piece → Parsed Statement
row_after name pieces =
    then (opening pieces) (λ start rest. then (more_terms rest) (λ terms more. then (closing start.before more) (λ end last. Whole (Row name start.left (start.first ∷ terms) end.0 end.1) last)))

-- a row with its label, if there is one
unfoldable pub row : List Piece → Parsed Statement
row pieces = row_after (label pieces).0 (label pieces).1

-- ---- bounds
-- a name
unfoldable pub name : List Piece → Parsed Written
name pieces = with_first pieces (λ item text rest. or_bad text (cond (is_name item) (Some text) None) rest)

-- a name that is the word `free`, and the pieces after it
abbrev pub free_in : Option (Written × List Piece) → Option (List Piece)
free_in (Some found) = cond (is_free found.0.text) (Some found.1) None
free_in None = None

-- a bound after its name
abbrev pub bound_after : Written → Option (List Piece) → List Piece → Parsed Statement
bound_after column (Some rest) pieces = Whole (Free column) rest
bound_after column None pieces = then (relation pieces) (λ relation rest. then (constant rest) (λ right last. Whole (Bound None column relation (Some right)) last))

-- a relation
abbrev pub is_relation : Item → Bool
is_relation item = is_some (relation_in item)

-- a bound after a constant, a relation and a name: it goes on where another relation comes
unfoldable pub bound_end : Constant → Relation → Written → List Piece → Parsed Statement
bound_end left before column pieces =
    cond (is_first is_relation pieces) (then (agreeing (Some before) pieces) (λ relation rest. then (constant rest) (λ right last. Whole (Bound (Some left) column relation (Some right)) last)))
    (Whole (Bound (Some left) column before None) pieces)

-- a bound that begins with a constant
unfoldable pub bound_from_constant : List Piece → Parsed Statement
bound_from_constant pieces = then (constant pieces) (λ left rest. then (relation rest) (λ before more. then (name more) (λ column last. bound_end left before column last)))

-- a bound that begins with a name, or with a constant
abbrev pub bound_by : Option (Written × List Piece) → List Piece → Parsed Statement
bound_by (Some column) pieces = bound_after column.0 (free_in (text_first is_name column.1)) column.1
bound_by None pieces = bound_from_constant pieces

-- a bound
unfoldable pub bound : List Piece → Parsed Statement
bound pieces = bound_by (text_first is_name pieces) pieces

-- ---- listed names
unfoldable pub listed : Bool → List Piece → Parsed Statement
listed binary pieces = then (name pieces) (λ column rest. Whole (Listed binary column) rest)

-- ---- statements by sections
-- a keyword that may come after the rows; any other is out of order
abbrev pub later_heading : Written → Keyword → List Piece → Parsed Statement
later_heading text Keyword.Bounds rest = Whole (Heading Keyword.Bounds) rest
later_heading text Keyword.General rest = Whole (Heading Keyword.General) rest
later_heading text Keyword.Binary rest = Whole (Heading Keyword.Binary) rest
later_heading text Keyword.End rest = Whole (Heading Keyword.End) rest
later_heading text _ rest = Fails (stop_at text.line Order)

-- the keyword that stands first, with its text and the pieces after it
abbrev pub keyword_first : List Piece → Option (Keyword × Written × List Piece)
keyword_first [] = None
keyword_first (Stops stop ∷ rest) = None
keyword_first (Seen item text ∷ rest) = option_map (λ keyword. (keyword, text, rest)) (keyword_in item)

-- what a section is made of
abbrev pub body : Section → List Piece → Parsed Statement
body Section.Begin pieces = begin pieces
body Section.Objective pieces = subject_to pieces
body Section.Rows pieces = row pieces
body Section.Bounds pieces = bound pieces
body Section.General pieces = listed false pieces
body Section.Binary pieces = listed true pieces

-- a keyword, or what the section is made of
abbrev pub heading_or_body : Section → Option (Keyword × Written × List Piece) → List Piece → Parsed Statement
heading_or_body section (Some found) pieces = later_heading found.1 found.0 found.2
heading_or_body section None pieces = body section pieces

-- a statement of a section
unfoldable pub statement_of : Section → List Piece → Parsed Statement
statement_of Section.Begin pieces = begin pieces
statement_of Section.Objective pieces = subject_to pieces
statement_of section pieces = heading_or_body section (keyword_first pieces) pieces
