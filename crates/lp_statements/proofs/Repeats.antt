-- Parts that each begin with a sign, one after another.
use Rattle.std.proofs.Common.{◌≡◌, ℕ, zero, suc, ◌<◌, ◌≤◌, Bool, true, false, cond, List, [], ◌∷◌, ◌++◌, length, map, take, Option, refl, sym, ap, ◌∙◌, subst, arith, append_assoc, append-nil, true≢false}
use Rattle.std.specs.Prelude.{Result, Ok, Err, MatchResult}
use Rattle.text_fields.specs.declared.faults.ReadFault.{ReadFault}
use Rattle.text_fields.specs.declared.faults.ReadFault.TheVariants.{Stop, Memory}
use Rattle.lp_statements.specs.Items.{Piece}
use Rattle.lp_statements.specs.declared.parts.Item.{Item}
use Rattle.lp_statements.specs.declared.parts.Term.{Term as CodeTerm}
use Rattle.lp_statements.specs.Statements.{Term, shown_term}
use Rattle.lp_statements.specs.Grammar.{Parsed, Whole, Fails, then, is_first, is_sign, repeated, terms_in, more_parts}
use Rattle.lp_statements.specs.Cursor.{IsRefusal}
use Rattle.lp_statements.specs.Shapes.{AddsTerms}
use Rattle.std.proofs.lemmas.List.{length-map}
use Rattle.lp_statements.proofs.Lists.{take_more, take_few, take_same}

-- the terms so far, and then those of a parse
abbrev pub after_done : List Term → Parsed (List Term) → Parsed (List Term)
after_done done parsed = then parsed (λ terms last. Whole (done ++ terms) last)

after_none : (parsed : Parsed (List Term)) → parsed ≡ after_done [] parsed
after_none (Whole terms rest) = refl
after_none (Fails stop) = refl

after_more : (done more : List Term) (parsed : Parsed (List Term)) → after_done done (then parsed (λ terms last. Whole (more ++ terms) last)) ≡ after_done (done ++ more) parsed
after_more done more (Whole terms rest) = ap (λ ts. Whole ts rest) (sym (append_assoc done more terms))
after_more done more (Fails stop) = refl

after_fails : (done : List Term) (p q : Parsed (List Term)) (fault : ReadFault) → p ≡ after_done done q → IsRefusal q fault → IsRefusal p fault
after_fails done p q (Stop stop) e refused = e ∙ ap (after_done done) refused
after_fails done p q Memory e refused = tt

-- no more are kept
pub kept_few : (n : ℕ) (terms : List CodeTerm) (all : List Term) → map shown_term terms ≡ take n all → length terms ≤ n
kept_few n terms all is = let a = take_few n all in let b = ap length is in let d : length (map shown_term terms) ≡ length terms = length-map terms shown_term in omega arith

-- more terms than those of which the first are kept
pub kept_more : (n : ℕ) (newer new : List CodeTerm) (all more : List Term) → map shown_term new ≡ take n all → map shown_term newer ≡ take n (map shown_term new ++ more) → map shown_term newer ≡ take n (all ++ more)
kept_more n newer new all more is put = put ∙ (ap (λ ts. take n (ts ++ more)) is ∙ take_more n all more)

pub kept_all : (n : ℕ) (terms : List CodeTerm) → length terms ≤ n → map shown_term terms ≡ take n (map shown_term terms ++ [])
kept_all n terms few = let d : length (map shown_term terms) ≡ length terms = length-map terms shown_term in take_same n (map shown_term terms) (omega arith)

-- what stands first is there
first_there : (test : Item → Bool) (ps : List Piece) → is_first test ps ≡ true → 0 < length ps
first_there test [] h = absurd (true≢false (sym h))
first_there test (p ∷ ps) h = omega arith

-- a part that is refused
pub then_refused : {A B : Type 0} (p : Parsed A) (f : A → List Piece → Parsed B) (fault : ReadFault) → IsRefusal p fault → IsRefusal (then p f) fault
then_refused p f (Stop stop) refused = ap (λ p. then p f) refused
then_refused p f Memory refused = tt

-- what is read so far
pub record Repeating {A : Type 0} (one : List Piece → Parsed A) (terms_of : A → List Term) (all now : List Piece) (n : ℕ) (old new : List CodeTerm) : Type 0 where
  pub left : ℕ
  pub enough : length now ≤ left
  pub done : List Term
  pub items : map shown_term new ≡ take n (map shown_term old ++ done)
  pub rest : repeated one terms_of (length all) all ≡ after_done done (repeated one terms_of left now)

module _ {A : Type 0} (one : List Piece → Parsed A) (terms_of : A → List Term) (all : List Piece) (most : ℕ) where
  pub repeating-init : (old : List CodeTerm) → length old ≤ most → Repeating one terms_of all all most old old
  repeating-init old few = record {
    left = length all;
    enough = omega arith;
    done = [];
    items = kept_all most old few;
    rest = after_none (repeated one terms_of (length all) all);
  }

  -- one, and those after it
  abbrev one_then : ℕ → List Piece → Parsed (List Term)
  one_then n ps = then (one ps) (λ value rest. then (repeated one terms_of n rest) (λ terms last. Whole (terms_of value ++ terms) last))

  none_left : (n : ℕ) (ps : List Piece) → is_first is_sign ps ≡ false → repeated one terms_of n ps ≡ Whole [] ps
  unfolding repeated
  none_left zero ps none = refl
  none_left (suc n) ps none = ap (λ b. cond b (one_then n ps) (Whole [] ps)) none

  one_left : (n : ℕ) (ps : List Piece) → is_first is_sign ps ≡ true → repeated one terms_of (suc n) ps ≡ one_then n ps
  unfolding repeated
  one_left n ps some = ap (λ b. cond b (one_then n ps) (Whole [] ps)) some

  pub repeating-all : (now : List Piece) (old new : List CodeTerm) → Repeating one terms_of all now most old new → is_first is_sign now ≡ false → AddsTerms most (repeated one terms_of (length all) all) now old new
  repeating-all now old new so_far none = record {
    terms = so_far.done;
    whole = so_far.rest ∙ (ap (after_done so_far.done) (none_left so_far.left now none) ∙ ap (λ (ts : List Term). Whole ts now) (append-nil so_far.done));
    items = so_far.items;
  }

  module _ (now : List Piece) (old new : List CodeTerm) (so_far : Repeating one terms_of all now most old new) (some : is_first is_sign now ≡ true) where
    rest_is : (n : ℕ) → so_far.left ≡ suc n → repeated one terms_of so_far.left now ≡ one_then n now
    rest_is n e = ap (λ m. repeated one terms_of m now) e ∙ one_left n now some

    some_left : (n : ℕ) → so_far.left ≡ n → (m : ℕ) × (so_far.left ≡ suc m)
    some_left zero e = absurd (let l = so_far.enough in let h = first_there is_sign now some in omega arith)
    some_left (suc m) e = (m, e)

    pub repeating-more : (value : A) (next : List Piece) (newer : List CodeTerm) → one now ≡ Whole value next → length next < length now → map shown_term newer ≡ take most (map shown_term new ++ terms_of value) → Repeating one terms_of all next most old newer
    repeating-more value next newer whole fewer put =
        let l = some_left so_far.left refl in
        let e = l.1 in let enough = so_far.enough in
        record {
          left = l.0;
          enough = omega arith;
          done = so_far.done ++ terms_of value;
          items = kept_more most newer new (map shown_term old ++ so_far.done) (terms_of value) so_far.items put ∙ ap (take most) (append_assoc (map shown_term old) so_far.done (terms_of value));
          rest = so_far.rest ∙ (ap (after_done so_far.done) (rest_is l.0 l.1 ∙ ap (λ p. then p (λ value rest. then (repeated one terms_of l.0 rest) (λ terms last. Whole (terms_of value ++ terms) last))) whole)
              ∙ after_more so_far.done (terms_of value) (repeated one terms_of l.0 next));
        }

    pub repeating-fails : (fault : ReadFault) → IsRefusal (one now) fault → IsRefusal (repeated one terms_of (length all) all) fault
    repeating-fails fault refused =
        let l = some_left so_far.left refl in
        after_fails so_far.done _ (repeated one terms_of so_far.left now) fault so_far.rest
        (subst (λ p. IsRefusal p fault) (sym (rest_is l.0 l.1)) (then_refused (one now) _ fault refused))

-- one part and those after it
abbrev pub parts_after : Parsed (Option Term) → Parsed (List Term)
parts_after part = then part (λ first rest. then (more_parts rest) (λ terms last. Whole (terms_in first ++ terms) last))

pub parts_done : (n : ℕ) (part : Parsed (Option Term)) (first : Option Term) (next last : List Piece) (old mid new : List CodeTerm) (result : Result (Unit {0}) ReadFault) → part ≡ Whole first next → map shown_term mid ≡ take n (map shown_term old ++ terms_in first)
    → MatchResult result (λ done. AddsTerms n (more_parts next) last mid new) (IsRefusal (more_parts next)) → MatchResult result (λ done. AddsTerms n (parts_after part) last old new) (IsRefusal (parts_after part))
parts_done n part first next last old mid new (Ok done) whole put adds = record {
  terms = terms_in first ++ adds.terms;
  whole = ap parts_after whole ∙ ap (λ p. then p (λ terms last. Whole (terms_in first ++ terms) last)) adds.whole;
  items = kept_more n new mid (map shown_term old ++ terms_in first) adds.terms put adds.items ∙ ap (take n) (append_assoc (map shown_term old) (terms_in first) adds.terms);
}
parts_done n part first next last old mid new (Err (Stop stop)) whole put refused = ap parts_after whole ∙ ap (λ p. then p (λ terms last. Whole (terms_in first ++ terms) last)) refused
parts_done n part first next last old mid new (Err Memory) whole put refused = tt
