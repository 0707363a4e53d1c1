-- What is read is what is spelled.
use Rattle.std.proofs.Common.{◌≡◌, ℕ, zero, suc, ◌<◌, Bool, true, false, cond, List, [], ◌∷◌, ◌++◌, length, Option, Some, None, is_some, refl, sym, ap, ◌∙◌, subst, arith, append_assoc, length-append, true≢false}
use Rattle.std.specs.Prelude.{unwrap_or}
use Rattle.std.specs.Option.{option_map}
use Rattle.text_fields.specs.declared.faults.ReadStop.{ReadStop}
use Rattle.lp_statements.specs.declared.parts.Item.{Item}
use Rattle.lp_statements.specs.declared.parts.Keyword.{Keyword}
use Rattle.lp_statements.specs.declared.parts.Relation.{Relation}
use Rattle.lp_statements.specs.declared.parts.Section.{Section}
use Rattle.lp_statements.specs.Words.{is_free}
use Rattle.lp_statements.specs.Items.{Written, Piece, Seen, Stops}
use Rattle.lp_statements.specs.Statements.{Constant, Term, Statement, Objective, Heading, Row, Free, Bound, Listed}
use Rattle.lp_statements.specs.Grammar.{Parsed, Whole, Fails, then, with_first, or_bad, wrong, is_name, relation_in, inequality_in, keyword_in, is_first, text_first, label, turned, signs, constant_of, constant, Element, OfTerm, OfConstant, factor_or_constant, element_of, element, term_in, term, is_sign, repeated, only, more_terms, part_in, part, terms_in, more_parts, parts, form, begins_part, objective, sense_of, objective_after, begin, subject_to_by, subject_to, relation, inequality, agreed, agreed_with, agreeing, Opening, opening_from, opening, closing, row_after, row, name, free_in, bound_after, is_relation, bound_end, bound_from_constant, bound_by, bound, listed, later_heading, keyword_first, body, heading_or_body, statement_of}
use Rattle.lp_statements.specs.Spelling.{SpellsSigns, NoSign, ASign, constant_item, SpellsConstant, SpellsTerm, ByName, ByNumber, SpellsMore, NoMore, OneMore, SpellsPart, ATerm, ANumber, SpellsForm, Nothing, Parts, SpellsLabel, NoLabel, ALabel, IsInequality, IsAtMost, IsAtLeast, sense, compares, IsSpelled, AnObjective, AHeading, ARow, ARange, AFree, ABoundAfter, ABoundBefore, BothBounds, AName, AllSeen, Spells}

-- ---- what a whole part is made of
abbrev is_whole : {A : Type 0} → Parsed A → Bool
is_whole (Whole value rest) = true
is_whole (Fails stop) = false

abbrev value_or : {A : Type 0} → A → Parsed A → A
value_or other (Whole value rest) = value
value_or other (Fails stop) = other

abbrev rest_of : {A : Type 0} → Parsed A → List Piece
rest_of (Whole value rest) = rest
rest_of (Fails stop) = []

fails_whole : {A : Type 0} (stop : ReadStop) (value : A) (rest : List Piece) → Fails stop ≡ Whole value rest → ⊥
fails_whole stop value rest e = true≢false (sym (ap is_whole e))

whole_value : {A : Type 0} (v w : A) (r s : List Piece) → Whole v r ≡ Whole w s → v ≡ w
whole_value v w r s e = ap (value_or v) e

whole_rest : {A : Type 0} (v w : A) (r s : List Piece) → Whole v r ≡ Whole w s → r ≡ s
whole_rest v w r s e = ap rest_of e

some_value : {A : Type 0} (x y : A) → Some x ≡ Some y → x ≡ y
some_value x y e = ap (λ o. unwrap_or o x) e

none_some : {A : Type 0} (x : A) → None ≡ Some x → ⊥
none_some x e = true≢false (sym (ap is_some e))

-- a part and the one after it
record Split {A B : Type 0} (p : Parsed A) (f : A → List Piece → Parsed B) (result : B) (rest : List Piece) : Type 0 where
  value : A
  mid : List Piece
  first : p ≡ Whole value mid
  second : f value mid ≡ Whole result rest

then_inv : {A B : Type 0} (p : Parsed A) (f : A → List Piece → Parsed B) (result : B) (rest : List Piece) → then p f ≡ Whole result rest → Split p f result rest
then_inv (Whole value mid) f result rest e = record { value = value; mid = mid; first = refl; second = e }
then_inv (Fails stop) f result rest e = absurd (fails_whole stop result rest e)

-- an item, and what is made of it
record First {A : Type 0} (pieces : List Piece) (f : Item → Written → List Piece → Parsed A) (result : A) (rest : List Piece) : Type 0 where
  item : Item
  text : Written
  tail : List Piece
  same : pieces ≡ Seen item text ∷ tail
  whole : f item text tail ≡ Whole result rest

first_inv : {A : Type 0} (pieces : List Piece) (f : Item → Written → List Piece → Parsed A) (result : A) (rest : List Piece) → with_first pieces f ≡ Whole result rest → First pieces f result rest
first_inv [] f result rest e = absurd (fails_whole _ result rest e)
first_inv (Stops stop ∷ pieces) f result rest e = absurd (fails_whole stop result rest e)
first_inv (Seen item text ∷ pieces) f result rest e = record { item = item; text = text; tail = pieces; same = refl; whole = e }

or_bad_inv : {A : Type 0} (text : Written) (o : Option A) (tail : List Piece) (result : A) (rest : List Piece) → or_bad text o tail ≡ Whole result rest → (o ≡ Some result) × (tail ≡ rest)
or_bad_inv text (Some value) tail result rest e = (ap Some (whole_value value result tail rest e), whole_rest value result tail rest e)
or_bad_inv text None tail result rest e = absurd (fails_whole _ result rest e)

wrong_whole : {A : Type 0} (pieces : List Piece) (result : A) (rest : List Piece) → wrong pieces ≡ Whole result rest → ⊥
wrong_whole [] result rest e = fails_whole _ result rest e
wrong_whole (Stops stop ∷ pieces) result rest e = fails_whole stop result rest e
wrong_whole (Seen item text ∷ pieces) result rest e = fails_whole _ result rest e

-- ---- items
name_inv : (item : Item) → is_name item ≡ true → item ≡ Item.Name
name_inv Item.Name e = refl
name_inv (Item.Keyword k) e = absurd (true≢false (sym e))
name_inv Item.Number e = absurd (true≢false (sym e))
name_inv Item.Infinite e = absurd (true≢false (sym e))
name_inv (Item.Sign m) e = absurd (true≢false (sym e))
name_inv (Item.Relation r) e = absurd (true≢false (sym e))
name_inv Item.Colon e = absurd (true≢false (sym e))
name_inv (Item.Refused k) e = absurd (true≢false (sym e))

relation_inv : (item : Item) (r : Relation) → relation_in item ≡ Some r → item ≡ Item.Relation r
relation_inv (Item.Relation x) r e = ap Item.Relation (some_value x r e)
relation_inv Item.Name r e = absurd (none_some r e)
relation_inv (Item.Keyword k) r e = absurd (none_some r e)
relation_inv Item.Number r e = absurd (none_some r e)
relation_inv Item.Infinite r e = absurd (none_some r e)
relation_inv (Item.Sign m) r e = absurd (none_some r e)
relation_inv Item.Colon r e = absurd (none_some r e)
relation_inv (Item.Refused k) r e = absurd (none_some r e)

inequality_inv : (item : Item) (r : Relation) → inequality_in item ≡ Some r → (item ≡ Item.Relation r) × IsInequality r
inequality_inv (Item.Relation Relation.AtMost) r e = (ap Item.Relation (some_value Relation.AtMost r e), IsAtMost (sym (some_value Relation.AtMost r e)))
inequality_inv (Item.Relation Relation.AtLeast) r e = (ap Item.Relation (some_value Relation.AtLeast r e), IsAtLeast (sym (some_value Relation.AtLeast r e)))
inequality_inv (Item.Relation Relation.Equal) r e = absurd (none_some r e)
inequality_inv Item.Name r e = absurd (none_some r e)
inequality_inv (Item.Keyword k) r e = absurd (none_some r e)
inequality_inv Item.Number r e = absurd (none_some r e)
inequality_inv Item.Infinite r e = absurd (none_some r e)
inequality_inv (Item.Sign m) r e = absurd (none_some r e)
inequality_inv Item.Colon r e = absurd (none_some r e)
inequality_inv (Item.Refused k) r e = absurd (none_some r e)

agreed_inv : (b : Relation) (o : Option Relation) (r : Relation) → agreed b o ≡ Some r → (o ≡ Some r) × (b ≡ r) × IsInequality r
agreed_inv Relation.AtMost (Some Relation.AtMost) r e = (e, some_value Relation.AtMost r e, IsAtMost (sym (some_value Relation.AtMost r e)))
agreed_inv Relation.AtMost (Some Relation.AtLeast) r e = absurd (none_some r e)
agreed_inv Relation.AtMost (Some Relation.Equal) r e = absurd (none_some r e)
agreed_inv Relation.AtMost None r e = absurd (none_some r e)
agreed_inv Relation.AtLeast (Some Relation.AtMost) r e = absurd (none_some r e)
agreed_inv Relation.AtLeast (Some Relation.AtLeast) r e = (e, some_value Relation.AtLeast r e, IsAtLeast (sym (some_value Relation.AtLeast r e)))
agreed_inv Relation.AtLeast (Some Relation.Equal) r e = absurd (none_some r e)
agreed_inv Relation.AtLeast None r e = absurd (none_some r e)
agreed_inv Relation.Equal (Some Relation.AtMost) r e = absurd (none_some r e)
agreed_inv Relation.Equal (Some Relation.AtLeast) r e = absurd (none_some r e)
agreed_inv Relation.Equal (Some Relation.Equal) r e = absurd (none_some r e)
agreed_inv Relation.Equal None r e = absurd (none_some r e)

keyword_inv : (item : Item) (k : Keyword) → keyword_in item ≡ Some k → item ≡ Item.Keyword k
keyword_inv (Item.Keyword x) k e = ap Item.Keyword (some_value x k e)
keyword_inv Item.Name k e = absurd (none_some k e)
keyword_inv (Item.Relation r) k e = absurd (none_some k e)
keyword_inv Item.Number k e = absurd (none_some k e)
keyword_inv Item.Infinite k e = absurd (none_some k e)
keyword_inv (Item.Sign m) k e = absurd (none_some k e)
keyword_inv Item.Colon k e = absurd (none_some k e)
keyword_inv (Item.Refused x) k e = absurd (none_some k e)

sense_inv : (item : Item) (maximise : Bool) → sense_of item ≡ Some maximise → item ≡ Item.Keyword (sense maximise)
sense_inv (Item.Keyword Keyword.Minimise) m e = ap (λ b. Item.Keyword (sense b)) (some_value false m e)
sense_inv (Item.Keyword Keyword.Maximise) m e = ap (λ b. Item.Keyword (sense b)) (some_value true m e)
sense_inv (Item.Keyword Keyword.SubjectTo) m e = absurd (none_some m e)
sense_inv (Item.Keyword Keyword.Bounds) m e = absurd (none_some m e)
sense_inv (Item.Keyword Keyword.General) m e = absurd (none_some m e)
sense_inv (Item.Keyword Keyword.Binary) m e = absurd (none_some m e)
sense_inv (Item.Keyword Keyword.End) m e = absurd (none_some m e)
sense_inv Item.Name m e = absurd (none_some m e)
sense_inv (Item.Relation r) m e = absurd (none_some m e)
sense_inv Item.Number m e = absurd (none_some m e)
sense_inv Item.Infinite m e = absurd (none_some m e)
sense_inv (Item.Sign s) m e = absurd (none_some m e)
sense_inv Item.Colon m e = absurd (none_some m e)
sense_inv (Item.Refused x) m e = absurd (none_some m e)

-- ---- what stands first is a part
pub record Read {A : Type 0} (SpellsIt : A → List Piece → Type 0) (pieces : List Piece) (value : A) (rest : List Piece) : Type 0 where
  pub spelled : List Piece
  pub same : pieces ≡ spelled ++ rest
  pub seen : AllSeen spelled
  pub some : 0 < length spelled
  pub is : SpellsIt value spelled

-- fewer pieces are left
pub read_fewer : {A : Type 0} (SpellsIt : A → List Piece → Type 0) (pieces : List Piece) (value : A) (rest : List Piece) → Read SpellsIt pieces value rest → length rest < length pieces
read_fewer SpellsIt pieces value rest r = let l = ap length r.same in let s = r.some in omega (arith, length-append r.spelled rest)

seen_both : (xs ys : List Piece) → AllSeen xs → AllSeen ys → AllSeen (xs ++ ys)
seen_both [] ys p q = q
seen_both (Seen item text ∷ xs) ys p q = seen_both xs ys p q
seen_both (Stops stop ∷ xs) ys p q = absurd p

-- pieces, then others, then the rest
joined : (pieces xs ys mid rest : List Piece) → pieces ≡ xs ++ mid → mid ≡ ys ++ rest → pieces ≡ (xs ++ ys) ++ rest
joined pieces xs ys mid rest a b = a ∙ (ap (λ q. xs ++ q) b ∙ sym (append_assoc xs ys rest))

-- ---- signs
turned_both : (a b c : Bool) → turned a (turned b c) ≡ turned (turned b a) c
turned_both true true true = refl
turned_both true true false = refl
turned_both true false true = refl
turned_both true false false = refl
turned_both false true true = refl
turned_both false true false = refl
turned_both false false true = refl
turned_both false false false = refl

turned_false : (a : Bool) → turned a false ≡ a
turned_false true = refl
turned_false false = refl

record SignsRead (negative : Bool) (pieces : List Piece) : Type 0 where
  spelled : List Piece
  minus : Bool
  same : pieces ≡ spelled ++ (signs negative pieces).1
  seen : AllSeen spelled
  is : SpellsSigns minus spelled
  value : (signs negative pieces).0 ≡ turned minus negative

no_sign : (negative : Bool) (pieces : List Piece) → signs negative pieces ≡ (negative, pieces) → SignsRead negative pieces
no_sign negative pieces e = record { spelled = []; minus = false; same = sym (ap (λ p. p.1) e); seen = tt; is = NoSign; value = ap (λ p. p.0) e }

signs_read : (negative : Bool) (pieces : List Piece) → SignsRead negative pieces
unfolding signs
signs_read negative [] = no_sign negative [] refl
signs_read negative (Stops stop ∷ rest) = no_sign negative (Stops stop ∷ rest) refl
signs_read negative (Seen (Item.Sign minus) text ∷ rest) =
    let r = signs_read (turned minus negative) rest in
    record {
      spelled = Seen (Item.Sign minus) text ∷ r.spelled;
      minus = turned minus r.minus;
      same = ap (λ q. Seen (Item.Sign minus) text ∷ q) r.same;
      seen = r.seen;
      is = ASign minus text r.is;
      value = r.value ∙ turned_both r.minus minus negative;
    }
signs_read negative (Seen Item.Name text ∷ rest) = no_sign negative (Seen Item.Name text ∷ rest) refl
signs_read negative (Seen (Item.Keyword k) text ∷ rest) = no_sign negative (Seen (Item.Keyword k) text ∷ rest) refl
signs_read negative (Seen Item.Number text ∷ rest) = no_sign negative (Seen Item.Number text ∷ rest) refl
signs_read negative (Seen Item.Infinite text ∷ rest) = no_sign negative (Seen Item.Infinite text ∷ rest) refl
signs_read negative (Seen (Item.Relation r) text ∷ rest) = no_sign negative (Seen (Item.Relation r) text ∷ rest) refl
signs_read negative (Seen Item.Colon text ∷ rest) = no_sign negative (Seen Item.Colon text ∷ rest) refl
signs_read negative (Seen (Item.Refused k) text ∷ rest) = no_sign negative (Seen (Item.Refused k) text ∷ rest) refl

-- what the signs make
signs_are : (pieces : List Piece) (s : SignsRead false pieces) → SpellsSigns (signs false pieces).0 s.spelled
signs_are pieces s = subst (λ n. SpellsSigns n s.spelled) (sym (s.value ∙ turned_false s.minus)) s.is

-- ---- constants
record ConstantAfter (negative : Bool) (pieces : List Piece) (constant : Constant) (rest : List Piece) : Type 0 where
  same : pieces ≡ Seen (constant_item constant.infinite) constant.text ∷ rest
  negative_is : negative ≡ constant.negative

constant_after : (negative infinite : Bool) (text : Written) (tail : List Piece) (c : Constant) (rest : List Piece) → Whole (record { negative = negative; infinite = infinite; text = text }) tail ≡ Whole c rest → ConstantAfter negative (Seen (constant_item infinite) text ∷ tail) c rest
constant_after negative infinite text tail c rest e =
    let made : Constant = record { negative = negative; infinite = infinite; text = text } in
    let v : made ≡ c = whole_value made c tail rest e in
    let r : tail ≡ rest = whole_rest made c tail rest e in
    record { same = λ i. Seen (constant_item ((v i).infinite)) ((v i).text) ∷ r i; negative_is = ap (λ (k : Constant). k.negative) v }

constant_of_read : (negative : Bool) (pieces : List Piece) (c : Constant) (rest : List Piece) → constant_of negative pieces ≡ Whole c rest → ConstantAfter negative pieces c rest
unfolding constant_of
constant_of_read negative [] c rest e = absurd (fails_whole _ c rest e)
constant_of_read negative (Stops stop ∷ tail) c rest e = absurd (fails_whole stop c rest e)
constant_of_read negative (Seen Item.Number text ∷ tail) c rest e = constant_after negative false text tail c rest e
constant_of_read negative (Seen Item.Infinite text ∷ tail) c rest e = constant_after negative true text tail c rest e
constant_of_read negative (Seen Item.Name text ∷ tail) c rest e = absurd (fails_whole _ c rest e)
constant_of_read negative (Seen (Item.Keyword k) text ∷ tail) c rest e = absurd (fails_whole _ c rest e)
constant_of_read negative (Seen (Item.Sign m) text ∷ tail) c rest e = absurd (fails_whole _ c rest e)
constant_of_read negative (Seen (Item.Relation r) text ∷ tail) c rest e = absurd (fails_whole _ c rest e)
constant_of_read negative (Seen Item.Colon text ∷ tail) c rest e = absurd (fails_whole _ c rest e)
constant_of_read negative (Seen (Item.Refused k) text ∷ tail) c rest e = absurd (fails_whole _ c rest e)

constant_read : (pieces : List Piece) (c : Constant) (rest : List Piece) → constant pieces ≡ Whole c rest → Read SpellsConstant pieces c rest
unfolding constant
constant_read pieces c rest e =
    let s = signs_read false pieces in
    let a = constant_of_read (signs false pieces).0 (signs false pieces).1 c rest e in
    let own : Piece = Seen (constant_item c.infinite) c.text in
    record {
      spelled = s.spelled ++ own ∷ [];
      same = joined pieces s.spelled (own ∷ []) (signs false pieces).1 rest s.same a.same;
      seen = seen_both s.spelled (own ∷ []) s.seen tt;
      some = omega (arith, length-append s.spelled (own ∷ []));
      is = record { signs = s.spelled; negative = subst (λ n. SpellsSigns n s.spelled) a.negative_is (signs_are pieces s); spelled = refl };
    }

-- ---- terms
abbrev SpellsElement : Element → List Piece → Type 0
SpellsElement (OfTerm term) pieces = SpellsTerm term pieces
SpellsElement (OfConstant constant) pieces = SpellsConstant constant pieces

record ElementAfter (negative : Bool) (pieces : List Piece) (element : Element) (rest : List Piece) : Type 0 where
  own : List Piece
  same : pieces ≡ own ++ rest
  seen : AllSeen own
  some : 0 < length own
  is : (front : List Piece) → SpellsSigns negative front → SpellsElement element (front ++ own)

number_alone : (negative : Bool) (text : Written) (tail : List Piece) (e : Element) (rest : List Piece) → Whole (OfConstant (record { negative = negative; infinite = false; text = text })) tail ≡ Whole e rest → ElementAfter negative (Seen Item.Number text ∷ tail) e rest
number_alone negative text tail e rest h = record {
  own = Seen Item.Number text ∷ [];
  same = ap (λ q. Seen Item.Number text ∷ q) (whole_rest _ e tail rest h);
  seen = tt;
  some = omega arith;
  is = λ front s. subst (λ x. SpellsElement x (front ++ Seen Item.Number text ∷ [])) (whole_value _ e tail rest h) (record { signs = front; negative = s; spelled = refl });
}

number_read : (negative : Bool) (text : Written) (tail : List Piece) (e : Element) (rest : List Piece) → factor_or_constant negative text (text_first is_name tail) tail ≡ Whole e rest → ElementAfter negative (Seen Item.Number text ∷ tail) e rest
number_read negative text [] e rest h = number_alone negative text [] e rest h
number_read negative text (Stops stop ∷ tail) e rest h = number_alone negative text (Stops stop ∷ tail) e rest h
number_read negative text (Seen Item.Name own ∷ tail) e rest h = record {
  own = Seen Item.Number text ∷ Seen Item.Name own ∷ [];
  same = ap (λ q. Seen Item.Number text ∷ Seen Item.Name own ∷ q) (whole_rest _ e tail rest h);
  seen = tt;
  some = omega arith;
  is = λ front s. subst (λ x. SpellsElement x (front ++ Seen Item.Number text ∷ Seen Item.Name own ∷ [])) (whole_value _ e tail rest h) (ByNumber front text s refl refl);
}
number_read negative text (Seen (Item.Keyword k) own ∷ tail) e rest h = number_alone negative text (Seen (Item.Keyword k) own ∷ tail) e rest h
number_read negative text (Seen Item.Number own ∷ tail) e rest h = number_alone negative text (Seen Item.Number own ∷ tail) e rest h
number_read negative text (Seen Item.Infinite own ∷ tail) e rest h = number_alone negative text (Seen Item.Infinite own ∷ tail) e rest h
number_read negative text (Seen (Item.Sign m) own ∷ tail) e rest h = number_alone negative text (Seen (Item.Sign m) own ∷ tail) e rest h
number_read negative text (Seen (Item.Relation r) own ∷ tail) e rest h = number_alone negative text (Seen (Item.Relation r) own ∷ tail) e rest h
number_read negative text (Seen Item.Colon own ∷ tail) e rest h = number_alone negative text (Seen Item.Colon own ∷ tail) e rest h
number_read negative text (Seen (Item.Refused k) own ∷ tail) e rest h = number_alone negative text (Seen (Item.Refused k) own ∷ tail) e rest h

element_of_read : (negative : Bool) (pieces : List Piece) (e : Element) (rest : List Piece) → element_of negative pieces ≡ Whole e rest → ElementAfter negative pieces e rest
unfolding element_of
element_of_read negative [] e rest h = absurd (fails_whole _ e rest h)
element_of_read negative (Stops stop ∷ tail) e rest h = absurd (fails_whole stop e rest h)
element_of_read negative (Seen Item.Name text ∷ tail) e rest h = record {
  own = Seen Item.Name text ∷ [];
  same = ap (λ q. Seen Item.Name text ∷ q) (whole_rest _ e tail rest h);
  seen = tt;
  some = omega arith;
  is = λ front s. subst (λ x. SpellsElement x (front ++ Seen Item.Name text ∷ [])) (whole_value _ e tail rest h) (ByName front s refl refl);
}
element_of_read negative (Seen Item.Infinite text ∷ tail) e rest h = record {
  own = Seen Item.Infinite text ∷ [];
  same = ap (λ q. Seen Item.Infinite text ∷ q) (whole_rest _ e tail rest h);
  seen = tt;
  some = omega arith;
  is = λ front s. subst (λ x. SpellsElement x (front ++ Seen Item.Infinite text ∷ [])) (whole_value _ e tail rest h) (record { signs = front; negative = s; spelled = refl });
}
element_of_read negative (Seen Item.Number text ∷ tail) e rest h = number_read negative text tail e rest h
element_of_read negative (Seen (Item.Keyword k) text ∷ tail) e rest h = absurd (fails_whole _ e rest h)
element_of_read negative (Seen (Item.Sign m) text ∷ tail) e rest h = absurd (fails_whole _ e rest h)
element_of_read negative (Seen (Item.Relation r) text ∷ tail) e rest h = absurd (fails_whole _ e rest h)
element_of_read negative (Seen Item.Colon text ∷ tail) e rest h = absurd (fails_whole _ e rest h)
element_of_read negative (Seen (Item.Refused k) text ∷ tail) e rest h = absurd (fails_whole _ e rest h)

element_read : (pieces : List Piece) (e : Element) (rest : List Piece) → element pieces ≡ Whole e rest → Read SpellsElement pieces e rest
unfolding element
element_read pieces e rest h =
    let s = signs_read false pieces in
    let a = element_of_read (signs false pieces).0 (signs false pieces).1 e rest h in
    record {
      spelled = s.spelled ++ a.own;
      same = joined pieces s.spelled a.own (signs false pieces).1 rest s.same a.same;
      seen = seen_both s.spelled a.own s.seen a.seen;
      some = let some = a.some in omega (arith, length-append s.spelled a.own);
      is = a.is s.spelled (signs_are pieces s);
    }

pub term_read : (pieces : List Piece) (t : Term) (rest : List Piece) → term pieces ≡ Whole t rest → Read SpellsTerm pieces t rest
unfolding term
term_read pieces t rest h =
    let s = then_inv (element pieces) term_in t rest h in
    by s.value s.mid (element_read pieces s.value s.mid s.first) s.second
  where
    no_term : (infinite : Bool) (stop : ReadStop) (mid : List Piece) → cond infinite (Fails stop) (wrong mid) ≡ Whole t rest → ⊥
    no_term true stop mid e = fails_whole stop t rest e
    no_term false stop mid e = wrong_whole mid t rest e

    by : (e : Element) (mid : List Piece) → Read SpellsElement pieces e mid → term_in e mid ≡ Whole t rest → Read SpellsTerm pieces t rest
    by (OfTerm x) mid r h = record {
      spelled = r.spelled;
      same = r.same ∙ ap (λ q. r.spelled ++ q) (whole_rest x t mid rest h);
      seen = r.seen;
      some = r.some;
      is = subst (λ x. SpellsTerm x r.spelled) (whole_value x t mid rest h) r.is;
    }
    by (OfConstant c) mid r h = absurd (no_term c.infinite _ mid h)

pub part_read : (pieces : List Piece) (p : Option Term) (rest : List Piece) → part pieces ≡ Whole p rest → Read SpellsPart pieces p rest
unfolding part
part_read pieces p rest h =
    let s = then_inv (element pieces) part_in p rest h in
    by s.value s.mid (element_read pieces s.value s.mid s.first) s.second
  where
    number : (infinite : Bool) (stop : ReadStop) (c : Constant) (mid : List Piece) → c.infinite ≡ infinite → Read SpellsConstant pieces c mid → cond infinite (Fails stop) (Whole None mid) ≡ Whole p rest → Read SpellsPart pieces p rest
    number true stop c mid i r e = absurd (fails_whole stop p rest e)
    number false stop c mid i r e = record {
      spelled = r.spelled;
      same = r.same ∙ ap (λ q. r.spelled ++ q) (whole_rest None p mid rest e);
      seen = r.seen;
      some = r.some;
      is = ANumber c (sym (whole_value None p mid rest e)) i r.is;
    }

    by : (e : Element) (mid : List Piece) → Read SpellsElement pieces e mid → part_in e mid ≡ Whole p rest → Read SpellsPart pieces p rest
    by (OfTerm x) mid r h = record {
      spelled = r.spelled;
      same = r.same ∙ ap (λ q. r.spelled ++ q) (whole_rest (Some x) p mid rest h);
      seen = r.seen;
      some = r.some;
      is = ATerm x (sym (whole_value (Some x) p mid rest h)) r.is;
    }
    by (OfConstant c) mid r h = number c.infinite _ c mid refl (record { spelled = r.spelled; same = r.same; seen = r.seen; some = r.some; is = r.is }) h

-- ---- parts that each begin with a sign
first_stays : (pieces xs ys : List Piece) → pieces ≡ xs ++ ys → 0 < length xs → is_first is_sign pieces ≡ true → is_first is_sign xs ≡ true
first_stays pieces [] ys e some h = absurd (omega arith)
first_stays pieces (Stops stop ∷ xs) ys e some h = sym (ap (is_first is_sign) e) ∙ h
first_stays pieces (Seen item text ∷ xs) ys e some h = sym (ap (is_first is_sign) e) ∙ h

module _ {A : Type 0} (one : List Piece → Parsed A) (terms_of : A → List Term) (SpellsOne : A → List Piece → Type 0) (one_read : (pieces : List Piece) (value : A) (rest : List Piece) → one pieces ≡ Whole value rest → Read SpellsOne pieces value rest) where
  record MoreRead (pieces : List Piece) (terms : List Term) (rest : List Piece) : Type 0 where
    spelled : List Piece
    same : pieces ≡ spelled ++ rest
    seen : AllSeen spelled
    is : SpellsMore SpellsOne terms_of terms spelled

  no_more : (pieces : List Piece) (terms : List Term) (rest : List Piece) → Whole [] pieces ≡ Whole terms rest → MoreRead pieces terms rest
  no_more pieces terms rest e = record { spelled = []; same = whole_rest [] terms pieces rest e; seen = tt; is = subst (λ ts. SpellsMore SpellsOne terms_of ts []) (whole_value [] terms pieces rest e) NoMore }

  repeated_read : (n : ℕ) (pieces : List Piece) (terms : List Term) (rest : List Piece) → repeated one terms_of n pieces ≡ Whole terms rest → MoreRead pieces terms rest
  unfolding repeated
  repeated_read zero pieces terms rest e = no_more pieces terms rest e
  repeated_read (suc n) pieces terms rest e = by (is_first is_sign pieces) refl e (λ mid ts last h. repeated_read n mid ts last h)
    where
      by : (b : Bool) → is_first is_sign pieces ≡ b → cond b (then (one pieces) (λ value rest. then (repeated one terms_of n rest) (λ terms last. Whole (terms_of value ++ terms) last))) (Whole [] pieces) ≡ Whole terms rest
          → ((mid : List Piece) (ts : List Term) (last : List Piece) → repeated one terms_of n mid ≡ Whole ts last → MoreRead mid ts last) → MoreRead pieces terms rest
      by false b e before = no_more pieces terms rest e
      by true b e before =
          let s = then_inv (one pieces) (λ value rest. then (repeated one terms_of n rest) (λ terms last. Whole (terms_of value ++ terms) last)) terms rest e in
          let t = then_inv (repeated one terms_of n s.mid) (λ terms last. Whole (terms_of s.value ++ terms) last) terms rest s.second in
          let x = one_read pieces s.value s.mid s.first in
          let y = before s.mid t.value t.mid t.first in
          record {
            spelled = x.spelled ++ y.spelled;
            same = joined pieces x.spelled y.spelled s.mid rest x.same (y.same ∙ ap (λ q. y.spelled ++ q) (whole_rest _ terms t.mid rest t.second));
            seen = seen_both x.spelled y.spelled x.seen y.seen;
            is = subst (λ ts. SpellsMore SpellsOne terms_of ts (x.spelled ++ y.spelled)) (whole_value _ terms t.mid rest t.second) (OneMore s.value x.spelled (first_stays pieces x.spelled s.mid x.same x.some b) x.is y.is);
          }

-- ---- the form of an objective
record FormRead (pieces : List Piece) (terms : List Term) (rest : List Piece) : Type 0 where
  spelled : List Piece
  same : pieces ≡ spelled ++ rest
  seen : AllSeen spelled
  is : SpellsForm terms spelled

form_read : (pieces : List Piece) (terms : List Term) (rest : List Piece) → form pieces ≡ Whole terms rest → FormRead pieces terms rest
unfolding form parts
form_read pieces terms rest e = by (is_first begins_part pieces) e
  where
    by : (b : Bool) → cond b (then (part pieces) (λ first rest. then (more_parts rest) (λ terms last. Whole (terms_in first ++ terms) last))) (Whole [] pieces) ≡ Whole terms rest → FormRead pieces terms rest
    by false e = record { spelled = []; same = whole_rest [] terms pieces rest e; seen = tt; is = Nothing (sym (whole_value [] terms pieces rest e)) refl }
    by true e =
        let s = then_inv (part pieces) (λ first rest. then (more_parts rest) (λ terms last. Whole (terms_in first ++ terms) last)) terms rest e in
        let t = then_inv (more_parts s.mid) (λ terms last. Whole (terms_in s.value ++ terms) last) terms rest s.second in
        let x = part_read pieces s.value s.mid s.first in
        let y = repeated_read part terms_in SpellsPart part_read (length s.mid) s.mid t.value t.mid t.first in
        record {
          spelled = x.spelled ++ y.spelled;
          same = joined pieces x.spelled y.spelled s.mid rest x.same (y.same ∙ ap (λ q. y.spelled ++ q) (whole_rest _ terms t.mid rest t.second));
          seen = seen_both x.spelled y.spelled x.seen y.seen;
          is = Parts s.value t.value x.spelled y.spelled x.is y.is (sym (whole_value _ terms t.mid rest t.second)) refl;
        }

-- ---- labels
record LabelRead (pieces : List Piece) : Type 0 where
  spelled : List Piece
  same : pieces ≡ spelled ++ (label pieces).1
  seen : AllSeen spelled
  is : SpellsLabel (label pieces).0 spelled

no_label : (pieces : List Piece) → label pieces ≡ (None, pieces) → LabelRead pieces
no_label pieces e = record { spelled = []; same = sym (ap (λ p. p.1) e); seen = tt; is = NoLabel (ap (λ p. p.0) e) refl }

label_read : (pieces : List Piece) → LabelRead pieces
unfolding label
label_read [] = no_label [] refl
label_read (Stops stop ∷ rest) = no_label (Stops stop ∷ rest) refl
label_read (Seen Item.Name text ∷ []) = no_label (Seen Item.Name text ∷ []) refl
label_read (Seen Item.Name text ∷ Stops stop ∷ rest) = no_label (Seen Item.Name text ∷ Stops stop ∷ rest) refl
label_read (Seen Item.Name text ∷ Seen Item.Colon colon ∷ rest) = record { spelled = Seen Item.Name text ∷ Seen Item.Colon colon ∷ []; same = refl; seen = tt; is = ALabel text colon refl refl }
label_read (Seen Item.Name text ∷ Seen Item.Name t ∷ rest) = no_label (Seen Item.Name text ∷ Seen Item.Name t ∷ rest) refl
label_read (Seen Item.Name text ∷ Seen (Item.Keyword k) t ∷ rest) = no_label (Seen Item.Name text ∷ Seen (Item.Keyword k) t ∷ rest) refl
label_read (Seen Item.Name text ∷ Seen Item.Number t ∷ rest) = no_label (Seen Item.Name text ∷ Seen Item.Number t ∷ rest) refl
label_read (Seen Item.Name text ∷ Seen Item.Infinite t ∷ rest) = no_label (Seen Item.Name text ∷ Seen Item.Infinite t ∷ rest) refl
label_read (Seen Item.Name text ∷ Seen (Item.Sign m) t ∷ rest) = no_label (Seen Item.Name text ∷ Seen (Item.Sign m) t ∷ rest) refl
label_read (Seen Item.Name text ∷ Seen (Item.Relation r) t ∷ rest) = no_label (Seen Item.Name text ∷ Seen (Item.Relation r) t ∷ rest) refl
label_read (Seen Item.Name text ∷ Seen (Item.Refused k) t ∷ rest) = no_label (Seen Item.Name text ∷ Seen (Item.Refused k) t ∷ rest) refl
label_read (Seen (Item.Keyword k) text ∷ rest) = no_label (Seen (Item.Keyword k) text ∷ rest) refl
label_read (Seen Item.Number text ∷ rest) = no_label (Seen Item.Number text ∷ rest) refl
label_read (Seen Item.Infinite text ∷ rest) = no_label (Seen Item.Infinite text ∷ rest) refl
label_read (Seen (Item.Sign m) text ∷ rest) = no_label (Seen (Item.Sign m) text ∷ rest) refl
label_read (Seen (Item.Relation r) text ∷ rest) = no_label (Seen (Item.Relation r) text ∷ rest) refl
label_read (Seen Item.Colon text ∷ rest) = no_label (Seen Item.Colon text ∷ rest) refl
label_read (Seen (Item.Refused k) text ∷ rest) = no_label (Seen (Item.Refused k) text ∷ rest) refl

-- ---- relations and names
record RelationRead (pieces : List Piece) (r : Relation) (rest : List Piece) : Type 0 where
  text : Written
  same : pieces ≡ compares r text ∷ rest

relation_read : (pieces : List Piece) (r : Relation) (rest : List Piece) → relation pieces ≡ Whole r rest → RelationRead pieces r rest
unfolding relation
relation_read pieces r rest e =
    let f = first_inv pieces (λ item text rest. or_bad text (relation_in item) rest) r rest e in
    let o = or_bad_inv f.text (relation_in f.item) f.tail r rest f.whole in
    let is = relation_inv f.item r o.0 in
    record { text = f.text; same = f.same ∙ (λ i. Seen (is i) f.text ∷ o.1 i) }

inequality_read : (pieces : List Piece) (r : Relation) (rest : List Piece) → inequality pieces ≡ Whole r rest → RelationRead pieces r rest × IsInequality r
unfolding inequality
inequality_read pieces r rest e =
    let f = first_inv pieces (λ item text rest. or_bad text (inequality_in item) rest) r rest e in
    let o = or_bad_inv f.text (inequality_in f.item) f.tail r rest f.whole in
    let is = inequality_inv f.item r o.0 in
    (record { text = f.text; same = f.same ∙ (λ i. Seen (is.0 i) f.text ∷ o.1 i) }, is.1)

abbrev Agrees : Option Relation → Relation → Type 0
Agrees None r = Unit {0}
Agrees (Some b) r = (b ≡ r) × IsInequality r

record AgreeingRead (before : Option Relation) (pieces : List Piece) (r : Relation) (rest : List Piece) : Type 0 where
  read : RelationRead pieces r rest
  agrees : Agrees before r

agreeing_read : (before : Option Relation) (pieces : List Piece) (r : Relation) (rest : List Piece) → agreeing before pieces ≡ Whole r rest → AgreeingRead before pieces r rest
unfolding agreeing
agreeing_read None pieces r rest e =
    let f = first_inv pieces (λ item text rest. or_bad text (agreed_with None (relation_in item)) rest) r rest e in
    let o = or_bad_inv f.text (relation_in f.item) f.tail r rest f.whole in
    let is = relation_inv f.item r o.0 in
    record { read = record { text = f.text; same = f.same ∙ (λ i. Seen (is i) f.text ∷ o.1 i) }; agrees = tt }
agreeing_read (Some b) pieces r rest e =
    let f = first_inv pieces (λ item text rest. or_bad text (agreed_with (Some b) (relation_in item)) rest) r rest e in
    let o = or_bad_inv f.text (agreed b (relation_in f.item)) f.tail r rest f.whole in
    let a = agreed_inv b (relation_in f.item) r o.0 in
    let is = relation_inv f.item r a.0 in
    record { read = record { text = f.text; same = f.same ∙ (λ i. Seen (is i) f.text ∷ o.1 i) }; agrees = (a.1, a.2) }

name_read : (pieces : List Piece) (n : Written) (rest : List Piece) → name pieces ≡ Whole n rest → pieces ≡ Seen Item.Name n ∷ rest
unfolding name
name_read pieces n rest e =
    let f = first_inv pieces (λ item text rest. or_bad text (cond (is_name item) (Some text) None) rest) n rest e in
    let o = or_bad_inv f.text (cond (is_name f.item) (Some f.text) None) f.tail n rest f.whole in
    by f.item f.text (is_name f.item) refl o.0 f.tail f.same o.1
  where
    by : (item : Item) (text : Written) (b : Bool) → is_name item ≡ b → cond b (Some text) None ≡ Some n → (tail : List Piece) → pieces ≡ Seen item text ∷ tail → tail ≡ rest → pieces ≡ Seen Item.Name n ∷ rest
    by item text true b e tail same r = same ∙ (λ i. Seen (name_inv item b i) (some_value text n e i) ∷ r i)
    by item text false b e tail same r = absurd (none_some n e)

-- ---- statements
-- a value told otherwise
read_as : {A : Type 0} (SpellsIt : A → List Piece → Type 0) (pieces : List Piece) (v w : A) (r s : List Piece) → Read SpellsIt pieces v r → v ≡ w → r ≡ s → Read SpellsIt pieces w s
read_as SpellsIt pieces v w r s x p q = record {
  spelled = x.spelled;
  same = x.same ∙ ap (λ t. x.spelled ++ t) q;
  seen = x.seen;
  some = x.some;
  is = subst (λ u. SpellsIt u x.spelled) p x.is;
}

begin_read : (pieces : List Piece) (s : Statement) (rest : List Piece) → begin pieces ≡ Whole s rest → Read IsSpelled pieces s rest
unfolding begin objective
begin_read pieces s rest e =
    let f = first_inv pieces (λ item text rest. objective_after text (sense_of item) rest) s rest e in
    by f.item f.text f.tail (sense_of f.item) refl f.same f.whole
  where
    after : (maximise : Bool) (text : Written) (tail : List Piece) → pieces ≡ Seen (Item.Keyword (sense maximise)) text ∷ tail → then (form (label tail).1) (λ terms rest. Whole (Objective maximise (label tail).0 terms) rest) ≡ Whole s rest → Read IsSpelled pieces s rest
    after maximise text tail same e =
        let t = then_inv (form (label tail).1) (λ terms rest. Whole (Objective maximise (label tail).0 terms) rest) s rest e in
        let l = label_read tail in
        let x = form_read (label tail).1 t.value t.mid t.first in
        let v : Objective maximise (label tail).0 t.value ≡ s = whole_value _ s t.mid rest t.second in
        let r : t.mid ≡ rest = whole_rest (Objective maximise (label tail).0 t.value) s t.mid rest t.second in
        let head = Seen (Item.Keyword (sense maximise)) text in
        record {
          spelled = head ∷ (l.spelled ++ x.spelled);
          same = same ∙ ap (λ q. head ∷ q) (joined tail l.spelled x.spelled (label tail).1 rest l.same (x.same ∙ ap (λ q. x.spelled ++ q) r));
          seen = seen_both l.spelled x.spelled l.seen x.seen;
          some = omega arith;
          is = AnObjective maximise (label tail).0 t.value text l.spelled x.spelled (sym v) l.is x.is refl;
        }

    by : (item : Item) (text : Written) (tail : List Piece) (o : Option Bool) → sense_of item ≡ o → pieces ≡ Seen item text ∷ tail → objective_after text o tail ≡ Whole s rest → Read IsSpelled pieces s rest
    by item text tail (Some maximise) is same e = after maximise text tail (same ∙ ap (λ i. Seen i text ∷ tail) (sense_inv item maximise is)) e
    by item text tail None is same e = absurd (fails_whole _ s rest e)

heading_read : (pieces : List Piece) (k : Keyword) (text : Written) (tail : List Piece) (s : Statement) (rest : List Piece) → pieces ≡ Seen (Item.Keyword k) text ∷ tail → Heading k ≡ s → tail ≡ rest → Read IsSpelled pieces s rest
heading_read pieces k text tail s rest same v r = record { spelled = Seen (Item.Keyword k) text ∷ []; same = same ∙ ap (λ q. Seen (Item.Keyword k) text ∷ q) r; seen = tt; some = omega arith; is = AHeading k text (sym v) refl }

subject_to_read : (pieces : List Piece) (s : Statement) (rest : List Piece) → subject_to pieces ≡ Whole s rest → Read IsSpelled pieces s rest
unfolding subject_to
subject_to_read pieces s rest e =
    let f = first_inv pieces (λ item text rest. subject_to_by text (keyword_in item) rest) s rest e in
    by f.item f.text f.tail (keyword_in f.item) refl f.same f.whole
  where
    by : (item : Item) (text : Written) (tail : List Piece) (o : Option Keyword) → keyword_in item ≡ o → pieces ≡ Seen item text ∷ tail → subject_to_by text o tail ≡ Whole s rest → Read IsSpelled pieces s rest
    by item text tail (Some Keyword.SubjectTo) is same e = heading_read pieces Keyword.SubjectTo text tail s rest (same ∙ ap (λ i. Seen i text ∷ tail) (keyword_inv item Keyword.SubjectTo is)) (whole_value _ s tail rest e) (whole_rest (Heading Keyword.SubjectTo) s tail rest e)
    by item text tail (Some Keyword.Minimise) is same e = absurd (fails_whole _ s rest e)
    by item text tail (Some Keyword.Maximise) is same e = absurd (fails_whole _ s rest e)
    by item text tail (Some Keyword.Bounds) is same e = absurd (fails_whole _ s rest e)
    by item text tail (Some Keyword.General) is same e = absurd (fails_whole _ s rest e)
    by item text tail (Some Keyword.Binary) is same e = absurd (fails_whole _ s rest e)
    by item text tail (Some Keyword.End) is same e = absurd (fails_whole _ s rest e)
    by item text tail None is same e = absurd (fails_whole _ s rest e)

later_read : (pieces : List Piece) (k : Keyword) (text : Written) (tail : List Piece) (s : Statement) (rest : List Piece) → pieces ≡ Seen (Item.Keyword k) text ∷ tail → later_heading text k tail ≡ Whole s rest → Read IsSpelled pieces s rest
later_read pieces Keyword.Bounds text tail s rest same e = heading_read pieces Keyword.Bounds text tail s rest same (whole_value _ s tail rest e) (whole_rest (Heading Keyword.Bounds) s tail rest e)
later_read pieces Keyword.General text tail s rest same e = heading_read pieces Keyword.General text tail s rest same (whole_value _ s tail rest e) (whole_rest (Heading Keyword.General) s tail rest e)
later_read pieces Keyword.Binary text tail s rest same e = heading_read pieces Keyword.Binary text tail s rest same (whole_value _ s tail rest e) (whole_rest (Heading Keyword.Binary) s tail rest e)
later_read pieces Keyword.End text tail s rest same e = heading_read pieces Keyword.End text tail s rest same (whole_value _ s tail rest e) (whole_rest (Heading Keyword.End) s tail rest e)
later_read pieces Keyword.Minimise text tail s rest same e = absurd (fails_whole _ s rest e)
later_read pieces Keyword.Maximise text tail s rest same e = absurd (fails_whole _ s rest e)
later_read pieces Keyword.SubjectTo text tail s rest same e = absurd (fails_whole _ s rest e)

-- ---- rows
record ClosingRead (before : Option Relation) (pieces : List Piece) (r : Relation) (c : Constant) (rest : List Piece) : Type 0 where
  text : Written
  back : List Piece
  same : pieces ≡ compares r text ∷ (back ++ rest)
  seen : AllSeen back
  is : SpellsConstant c back
  agrees : Agrees before r

closing_read : (before : Option Relation) (pieces : List Piece) (end : Relation × Constant) (rest : List Piece) → closing before pieces ≡ Whole end rest → ClosingRead before pieces end.0 end.1 rest
unfolding closing
closing_read before pieces end rest e =
    let s = then_inv (agreeing before pieces) (λ relation rest. then (constant rest) (λ right last. Whole (relation, right) last)) end rest e in
    let t = then_inv (constant s.mid) (λ right last. Whole (s.value, right) last) end rest s.second in
    let a = agreeing_read before pieces s.value s.mid s.first in
    let c = constant_read s.mid t.value t.mid t.first in
    let v : (s.value, t.value) ≡ end = whole_value _ end t.mid rest t.second in
    let r : t.mid ≡ rest = whole_rest (s.value, t.value) end t.mid rest t.second in
    record {
      text = a.read.text;
      back = c.spelled;
      same = a.read.same ∙ ap (λ q. compares s.value a.read.text ∷ q) (c.same ∙ ap (λ q. c.spelled ++ q) r) ∙ ap (λ (p : Relation × Constant). compares p.0 a.read.text ∷ (c.spelled ++ rest)) v;
      seen = c.seen;
      is = subst (λ (p : Relation × Constant). SpellsConstant p.1 c.spelled) v c.is;
      agrees = subst (λ (p : Relation × Constant). Agrees before p.0) v a.agrees;
    }

-- the begin of a row: a term, or a constant, a relation and a term
data SpellsOpening (o : Opening) (pieces : List Piece) : Type 0 where
  ByTerm : o.left ≡ None → o.before ≡ None → SpellsTerm o.first pieces → SpellsOpening o pieces
  ByConstant : (left : Constant) (before : Relation) (text : Written) (side front : List Piece) → o.left ≡ Some left → o.before ≡ Some before → IsInequality before → SpellsConstant left side → AllSeen side → SpellsTerm o.first front → AllSeen front → pieces ≡ side ++ compares before text ∷ front → SpellsOpening o pieces

opening_read : (pieces : List Piece) (o : Opening) (rest : List Piece) → opening pieces ≡ Whole o rest → Read SpellsOpening pieces o rest
unfolding opening
opening_read pieces o rest h =
    let s = then_inv (element pieces) opening_from o rest h in
    by s.value s.mid (element_read pieces s.value s.mid s.first) s.second
  where
    by : (e : Element) (mid : List Piece) → Read SpellsElement pieces e mid → opening_from e mid ≡ Whole o rest → Read SpellsOpening pieces o rest
    by (OfTerm x) mid r h =
        read_as SpellsOpening pieces (record { left = None; before = None; first = x }) o mid rest (record { spelled = r.spelled; same = r.same; seen = r.seen; some = r.some; is = ByTerm refl refl r.is }) (whole_value _ o mid rest h) (whole_rest _ o mid rest h)
    by (OfConstant c) mid r h =
        let s = then_inv (inequality mid) (λ before more. then (term more) (λ first last. Whole (record { left = Some c; before = Some before; first = first }) last)) o rest h in
        let t = then_inv (term s.mid) (λ first last. Whole (record { left = Some c; before = Some s.value; first = first }) last) o rest s.second in
        let i = inequality_read mid s.value s.mid s.first in
        let x = term_read s.mid t.value t.mid t.first in
        let own = compares s.value i.0.text in
        read_as SpellsOpening pieces (record { left = Some c; before = Some s.value; first = t.value }) o t.mid rest
        (record {
          spelled = r.spelled ++ own ∷ x.spelled;
          same = joined pieces r.spelled (own ∷ x.spelled) mid t.mid r.same (i.0.same ∙ ap (λ q. own ∷ q) x.same);
          seen = seen_both r.spelled (own ∷ x.spelled) r.seen x.seen;
          some = omega (arith, length-append r.spelled (own ∷ x.spelled));
          is = ByConstant c s.value i.0.text r.spelled x.spelled refl refl i.1 r.is r.seen x.is x.seen refl;
        })
        (whole_value _ o t.mid rest t.second) (whole_rest _ o t.mid rest t.second)

-- pieces that stand one after another
chained : (a b c d : List Piece) → (a ++ b) ++ (c ++ d) ≡ a ++ ((b ++ c) ++ d)
chained a b c d = append_assoc a b (c ++ d) ∙ ap (λ q. a ++ q) (sym (append_assoc b c d))

row_read : (pieces : List Piece) (s : Statement) (rest : List Piece) → row pieces ≡ Whole s rest → Read IsSpelled pieces s rest
unfolding row row_after
row_read pieces s rest e =
    let own = (label pieces).0 in let after = (label pieces).1 in
    let l = label_read pieces in
    let a = then_inv (opening after) (λ start rest. then (more_terms rest) (λ terms more. then (closing start.before more) (λ end last. Whole (Row own start.left (start.first ∷ terms) end.0 end.1) last))) s rest e in
    let b = then_inv (more_terms a.mid) (λ terms more. then (closing a.value.before more) (λ end last. Whole (Row own a.value.left (a.value.first ∷ terms) end.0 end.1) last)) s rest a.second in
    let d = then_inv (closing a.value.before b.mid) (λ end last. Whole (Row own a.value.left (a.value.first ∷ b.value) end.0 end.1) last) s rest b.second in
    let x = opening_read after a.value a.mid a.first in
    let y = repeated_read term only SpellsTerm term_read (length a.mid) a.mid b.value b.mid b.first in
    let z = closing_read a.value.before b.mid d.value d.mid d.first in
    let r : d.mid ≡ rest = whole_rest _ s d.mid rest d.second in
    by l x y.spelled y.seen y.same y.is z (sym (whole_value _ s d.mid rest d.second)) (ap (λ q. compares d.value.0 z.text ∷ (z.back ++ q)) r)
  where
    by : (l : LabelRead pieces) {start : Opening} {mid more last : List Piece} {terms : List Term} {relation : Relation} {right : Constant} → Read SpellsOpening (label pieces).1 start mid
        → (others : List Piece) → AllSeen others → mid ≡ others ++ more → SpellsMore SpellsTerm only terms others
        → (z : ClosingRead start.before more relation right last) → s ≡ Row (label pieces).0 start.left (start.first ∷ terms) relation right → compares relation z.text ∷ (z.back ++ last) ≡ compares relation z.text ∷ (z.back ++ rest) → Read IsSpelled pieces s rest
    by l {start} {mid} {more} {last} {terms} {relation} {right} x others seen same more_is z is end =
        let tail = compares relation z.text ∷ z.back in
        record {
          spelled = l.spelled ++ ((x.spelled ++ others) ++ tail);
          same = joined pieces l.spelled ((x.spelled ++ others) ++ tail) (label pieces).1 rest l.same
              (joined (label pieces).1 (x.spelled ++ others) tail more rest (joined (label pieces).1 x.spelled others mid more x.same same) (z.same ∙ end));
          seen = seen_both l.spelled ((x.spelled ++ others) ++ tail) l.seen (seen_both (x.spelled ++ others) tail (seen_both x.spelled others x.seen seen) z.seen);
          some = let a = length-append l.spelled ((x.spelled ++ others) ++ tail) in let b = length-append (x.spelled ++ others) tail in omega arith;
          is = told x.spelled x.is;
        }
      where
        told : (front : List Piece) → SpellsOpening start front → IsSpelled s (l.spelled ++ ((front ++ others) ++ compares relation z.text ∷ z.back))
        told front (ByTerm none no_before first) =
            ARow (label pieces).0 (start.first ∷ terms) relation right z.text l.spelled (front ++ others) z.back (is ∙ ap (λ o. Row (label pieces).0 o (start.first ∷ terms) relation right) none) l.is
            (record { first = start.first; others = terms; front = front; back = others; says_first = first; says_others = more_is; says = refl; spelled = refl }) z.is refl
        told front (ByConstant left before text side form some before_is inequality left_is side_seen first form_seen front_is) =
            let agrees : (before ≡ relation) × IsInequality relation = subst (λ o. Agrees o relation) before_is z.agrees in
            ARange (label pieces).0 left (start.first ∷ terms) relation right text z.text l.spelled side (form ++ others) z.back (is ∙ ap (λ o. Row (label pieces).0 o (start.first ∷ terms) relation right) some) agrees.1 l.is left_is
            (record { first = start.first; others = terms; front = form; back = others; says_first = first; says_others = more_is; says = refl; spelled = refl }) z.is
            (ap (λ q. l.spelled ++ q) (ap (λ q. (q ++ others) ++ compares relation z.text ∷ z.back) front_is
            ∙ (ap (λ q. q ++ compares relation z.text ∷ z.back) (append_assoc side (compares before text ∷ form) others)
            ∙ (append_assoc side (compares before text ∷ (form ++ others)) (compares relation z.text ∷ z.back)
            ∙ ap (λ b. side ++ compares b text ∷ ((form ++ others) ++ compares relation z.text ∷ z.back)) agrees.0))))

-- ---- bounds
named_first : (pieces : List Piece) (found : Written × List Piece) → text_first is_name pieces ≡ Some found → pieces ≡ Seen Item.Name found.0 ∷ found.1
named_first [] found e = absurd (none_some found e)
named_first (Stops stop ∷ tail) found e = absurd (none_some found e)
named_first (Seen item text ∷ tail) found e = by (is_name item) refl e
  where
    by : (b : Bool) → is_name item ≡ b → cond b (Some (text, tail)) None ≡ Some found → Seen item text ∷ tail ≡ Seen Item.Name found.0 ∷ found.1
    by true b e = λ i. Seen (name_inv item b i) ((some_value (text, tail) found e i).0) ∷ (some_value (text, tail) found e i).1
    by false b e = absurd (none_some found e)

bound_after_read : (pieces : List Piece) (column : Written) (tail : List Piece) (s : Statement) (rest : List Piece) → pieces ≡ Seen Item.Name column ∷ tail → bound_after column (free_in (text_first is_name tail)) tail ≡ Whole s rest → Read IsSpelled pieces s rest
bound_after_read pieces column tail s rest same e = by (text_first is_name tail) refl e
  where
    compared : bound_after column None tail ≡ Whole s rest → Read IsSpelled pieces s rest
    compared e =
        let a = then_inv (relation tail) (λ relation rest. then (constant rest) (λ right last. Whole (Bound None column relation (Some right)) last)) s rest e in
        let b = then_inv (constant a.mid) (λ right last. Whole (Bound None column a.value (Some right)) last) s rest a.second in
        let r = relation_read tail a.value a.mid a.first in
        let c = constant_read a.mid b.value b.mid b.first in
        read_as IsSpelled pieces (Bound None column a.value (Some b.value)) s b.mid rest
        (record {
          spelled = Seen Item.Name column ∷ compares a.value r.text ∷ c.spelled;
          same = same ∙ ap (λ q. Seen Item.Name column ∷ q) (r.same ∙ ap (λ q. compares a.value r.text ∷ q) c.same);
          seen = c.seen;
          some = omega arith;
          is = ABoundAfter column a.value b.value r.text c.spelled refl c.is refl;
        })
        (whole_value _ s b.mid rest b.second) (whole_rest _ s b.mid rest b.second)

    word : (found : Written × List Piece) (b : Bool) → is_free found.0.text ≡ b → text_first is_name tail ≡ Some found → bound_after column (cond b (Some found.1) None) tail ≡ Whole s rest → Read IsSpelled pieces s rest
    word found true free is e =
        read_as IsSpelled pieces (Free column) s found.1 rest
        (record {
          spelled = Seen Item.Name column ∷ Seen Item.Name found.0 ∷ [];
          same = same ∙ ap (λ q. Seen Item.Name column ∷ q) (named_first tail found is);
          seen = tt;
          some = omega arith;
          is = AFree column found.0 refl free refl;
        })
        (whole_value _ s found.1 rest e) (whole_rest _ s found.1 rest e)
    word found false free is e = compared e

    by : (o : Option (Written × List Piece)) → text_first is_name tail ≡ o → bound_after column (free_in o) tail ≡ Whole s rest → Read IsSpelled pieces s rest
    by (Some found) is e = word found (is_free found.0.text) refl is e
    by None is e = compared e

bound_from_read : (pieces : List Piece) (s : Statement) (rest : List Piece) → bound_from_constant pieces ≡ Whole s rest → Read IsSpelled pieces s rest
unfolding bound_from_constant bound_end
bound_from_read pieces s rest e =
    let a = then_inv (constant pieces) (λ left rest. then (relation rest) (λ before more. then (name more) (λ column last. bound_end left before column last))) s rest e in
    let b = then_inv (relation a.mid) (λ before more. then (name more) (λ column last. bound_end a.value before column last)) s rest a.second in
    let d = then_inv (name b.mid) (λ column last. bound_end a.value b.value column last) s rest b.second in
    let r = relation_read a.mid b.value b.mid b.first in
    by a.value b.value d.value a.mid d.mid (constant_read pieces a.value a.mid a.first) r.text (r.same ∙ ap (λ q. compares b.value r.text ∷ q) (name_read b.mid d.value d.mid d.first)) (is_first is_relation d.mid) d.second
  where
    by : (left : Constant) (before : Relation) (column : Written) (mid last : List Piece) → Read SpellsConstant pieces left mid → (text : Written) → mid ≡ compares before text ∷ Seen Item.Name column ∷ last → (b : Bool)
        → cond b (then (agreeing (Some before) last) (λ relation rest. then (constant rest) (λ right last. Whole (Bound (Some left) column relation (Some right)) last))) (Whole (Bound (Some left) column before None) last) ≡ Whole s rest → Read IsSpelled pieces s rest
    by left before column mid last x text same false e =
        read_as IsSpelled pieces (Bound (Some left) column before None) s last rest
        (record {
          spelled = x.spelled ++ compares before text ∷ Seen Item.Name column ∷ [];
          same = joined pieces x.spelled (compares before text ∷ Seen Item.Name column ∷ []) mid last x.same same;
          seen = seen_both x.spelled (compares before text ∷ Seen Item.Name column ∷ []) x.seen tt;
          some = omega (arith, length-append x.spelled (compares before text ∷ Seen Item.Name column ∷ []));
          is = ABoundBefore left column before text x.spelled refl x.is refl;
        })
        (whole_value _ s last rest e) (whole_rest _ s last rest e)
    by left before column mid last x text same true e =
        let a = then_inv (agreeing (Some before) last) (λ relation rest. then (constant rest) (λ right last. Whole (Bound (Some left) column relation (Some right)) last)) s rest e in
        let b = then_inv (constant a.mid) (λ right last. Whole (Bound (Some left) column a.value (Some right)) last) s rest a.second in
        let r = agreeing_read (Some before) last a.value a.mid a.first in
        let c = constant_read a.mid b.value b.mid b.first in
        let agrees : (before ≡ a.value) × IsInequality a.value = r.agrees in
        let tail = compares before text ∷ Seen Item.Name column ∷ compares a.value r.read.text ∷ c.spelled in
        read_as IsSpelled pieces (Bound (Some left) column a.value (Some b.value)) s b.mid rest
        (record {
          spelled = x.spelled ++ tail;
          same = joined pieces x.spelled tail mid b.mid x.same (same ∙ ap (λ q. compares before text ∷ Seen Item.Name column ∷ q) (r.read.same ∙ ap (λ q. compares a.value r.read.text ∷ q) c.same));
          seen = seen_both x.spelled tail x.seen c.seen;
          some = omega (arith, length-append x.spelled tail);
          is = BothBounds left column a.value b.value text r.read.text x.spelled c.spelled refl agrees.1 x.is c.is (ap (λ (k : Relation). x.spelled ++ compares k text ∷ Seen Item.Name column ∷ compares a.value r.read.text ∷ c.spelled) agrees.0);
        })
        (whole_value _ s b.mid rest b.second) (whole_rest _ s b.mid rest b.second)

bound_read : (pieces : List Piece) (s : Statement) (rest : List Piece) → bound pieces ≡ Whole s rest → Read IsSpelled pieces s rest
unfolding bound
bound_read pieces s rest e = by (text_first is_name pieces) refl e
  where
    by : (o : Option (Written × List Piece)) → text_first is_name pieces ≡ o → bound_by o pieces ≡ Whole s rest → Read IsSpelled pieces s rest
    by (Some found) is e = bound_after_read pieces found.0 found.1 s rest (named_first pieces found is) e
    by None is e = bound_from_read pieces s rest e

-- ---- names, and all statements
listed_read : (binary : Bool) (pieces : List Piece) (s : Statement) (rest : List Piece) → listed binary pieces ≡ Whole s rest → Read IsSpelled pieces s rest
unfolding listed
listed_read binary pieces s rest e =
    let a = then_inv (name pieces) (λ column rest. Whole (Listed binary column) rest) s rest e in
    read_as IsSpelled pieces (Listed binary a.value) s a.mid rest
    (record { spelled = Seen Item.Name a.value ∷ []; same = name_read pieces a.value a.mid a.first; seen = tt; some = omega arith; is = AName binary a.value refl refl })
    (whole_value _ s a.mid rest a.second) (whole_rest _ s a.mid rest a.second)

keyword_at : (pieces : List Piece) (found : Keyword × Written × List Piece) → keyword_first pieces ≡ Some found → pieces ≡ Seen (Item.Keyword found.0) found.1 ∷ found.2
keyword_at [] found e = absurd (none_some found e)
keyword_at (Stops stop ∷ tail) found e = absurd (none_some found e)
keyword_at (Seen item text ∷ tail) found e = by (keyword_in item) refl e
  where
    by : (o : Option Keyword) → keyword_in item ≡ o → option_map (λ keyword. (keyword, text, tail)) o ≡ Some found → Seen item text ∷ tail ≡ Seen (Item.Keyword found.0) found.1 ∷ found.2
    by (Some k) is e =
        let v : (k, text, tail) ≡ found = some_value (k, text, tail) found e in
        ap (λ i. Seen i text ∷ tail) (keyword_inv item k is) ∙ ap (λ (p : Keyword × Written × List Piece). Seen (Item.Keyword p.0) p.1 ∷ p.2) v
    by None is e = absurd (none_some found e)

body_read : (section : Section) (pieces : List Piece) (s : Statement) (rest : List Piece) → body section pieces ≡ Whole s rest → Read IsSpelled pieces s rest
body_read Section.Begin pieces s rest e = begin_read pieces s rest e
body_read Section.Objective pieces s rest e = subject_to_read pieces s rest e
body_read Section.Rows pieces s rest e = row_read pieces s rest e
body_read Section.Bounds pieces s rest e = bound_read pieces s rest e
body_read Section.General pieces s rest e = listed_read false pieces s rest e
body_read Section.Binary pieces s rest e = listed_read true pieces s rest e

later : (section : Section) (pieces : List Piece) (s : Statement) (rest : List Piece) → heading_or_body section (keyword_first pieces) pieces ≡ Whole s rest → Read IsSpelled pieces s rest
later section pieces s rest e = by (keyword_first pieces) refl e
  where
    by : (o : Option (Keyword × Written × List Piece)) → keyword_first pieces ≡ o → heading_or_body section o pieces ≡ Whole s rest → Read IsSpelled pieces s rest
    by (Some found) is e = later_read pieces found.0 found.1 found.2 s rest (keyword_at pieces found is) e
    by None is e = body_read section pieces s rest e

pub statement_read : (section : Section) (pieces : List Piece) (s : Statement) (rest : List Piece) → statement_of section pieces ≡ Whole s rest → Read IsSpelled pieces s rest
unfolding statement_of
statement_read Section.Begin pieces s rest e = begin_read pieces s rest e
statement_read Section.Objective pieces s rest e = subject_to_read pieces s rest e
statement_read Section.Rows pieces s rest e = later Section.Rows pieces s rest e
statement_read Section.Bounds pieces s rest e = later Section.Bounds pieces s rest e
statement_read Section.General pieces s rest e = later Section.General pieces s rest e
statement_read Section.Binary pieces s rest e = later Section.Binary pieces s rest e

-- a statement takes a piece at least
pub statement_fewer : (section : Section) (pieces : List Piece) (s : Statement) (rest : List Piece) → statement_of section pieces ≡ Whole s rest → length rest < length pieces
statement_fewer section pieces s rest e = read_fewer IsSpelled pieces s rest (statement_read section pieces s rest e)

pub spelled : (section : Section) (pieces : List Piece) (statement : Statement) (rest : List Piece) → statement_of section pieces ≡ Whole statement rest → Spells IsSpelled pieces statement rest
spelled section pieces statement rest e = let r = statement_read section pieces statement rest e in record { spelled = r.spelled; same = r.same; seen = r.seen; is = r.is }
