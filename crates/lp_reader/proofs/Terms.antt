-- Terms, one after another.
use Rattle.std.proofs.Common.{◌≡◌, ℕ, zero, suc, ◌+◌, ◌<◌, ◌≤◌, ◌^◌, Bool, true, false, cond, nat_eq, ◌||◌, List, [], ◌∷◌, ◌++◌, Option, Some, None, length, map, take, drop, get_or, slice_get, refl, sym, ap, ◌∙◌, subst, arith, append_assoc, append-nil}
use Rattle.std.proofs.lemmas.List.{map-append, take_all, drop_all, get_or-map}
use Rattle.name_map.proofs.NameLists.{length_map}
use Rattle.lp_statements.specs.declared.parts.Term.{Term as CodeTerm}
use Rattle.std.proofs.lemmas.Option.{slice_get_within, unwrap_or-slice_get}
use Rattle.std.proofs.Math.Seq.{drop-cons, take-suc}
use Rattle.rational.specs.Linear.{Term as LinearTerm}
use Rattle.lp_model.specs.Shown.{most_columns}
use Rattle.lp_reader.specs.Program.{form_of}
use Rattle.std.specs.Prelude.{unwrap_or}
use Rattle.std.specs.List.{All}
use Rattle.std.proofs.lemmas.List.Elements.{All-weaker, All-nil, All-cons, All-head, All-tail}
use Rattle.std.proofs.lemmas.List.Folds.{list_any-append}
use Rattle.std.specs.Str.{bytes_eq}
use Rattle.std.specs.Map.{lookup}
use Rattle.std.specs.Option.{option_or}
use Rattle.rational.specs.Rational.{ℚ, zero_ℚ}
use Rattle.frac128.specs.Limit.{limit}
use Rattle.frac128.specs.Width.{operation, is_wide}
use Rattle.frac128.specs.declared.Op.TheVariants.{Plus}
use Rattle.text_fields.specs.declared.faults.ReadKind.TheVariants.{SumWide}
use Rattle.text_fields.specs.declared.faults.ReadStop.{ReadStop}
use Rattle.text_fields.specs.declared.faults.ReadFault.{ReadFault}
use Rattle.text_fields.specs.declared.faults.ReadFault.TheVariants.{Stop, Memory}
use Rattle.name_map.specs.Names.{names_of}
use Rattle.lp_model.specs.Shown.{is_named}
use Rattle.lp_statements.specs.Items.{stop_at}
use Rattle.lp_statements.specs.Statements.{Term, shown_term}
use Rattle.lp_reader.specs.declared.columns.Columns.{Columns}
use Rattle.lp_reader.specs.Numbers.{factor_fault, sum_of, sum_fault, term_value}
use Rattle.lp_reader.specs.Names.{with_name, with_names}
use Rattle.lp_reader.specs.Faults.{limit_fault, term_fault}
use Rattle.lp_reader.specs.State.{plain, Widened, KeepsShort, TakesColumn, TakesTerm, TakesForm, AddsSum, HoldsSums, terms_fault_in}
use Rattle.text_fields.specs.Faults.{IsFaultOf}
use Rattle.lp_reader.proofs.Sums.{sums_widen, sums_add, sum_at_column, no_sums}

-- a column that may be new
sums_with_name : (names : List (List ℕ)) (name : List ℕ) (terms : List Term) (es : List (ℕ × ℚ)) → HoldsSums names terms es → HoldsSums (with_name names name) terms es
sums_with_name names name terms es holds = by (is_named names name) refl
  where
    by : (b : Bool) → is_named names name ≡ b → HoldsSums (cond b names (names ++ name ∷ [])) terms es
    by true e = holds
    by false e = sums_widen names name terms es holds e

module _ (old new : Columns) (before : List Term) (term : Term) (value : ℚ) (j : ℕ) (es : List (ℕ × ℚ)) (holds : HoldsSums (names_of old.names) before es) (takes : TakesColumn old new term.name.text j) (is : value ≡ term_value term) where
  held : HoldsSums (names_of new.names) before es
  held = subst (λ (ns : List (List ℕ)). HoldsSums ns before es) (sym takes.names) (sums_with_name (names_of old.names) term.name.text before es holds)

  same_sum : is_wide limit (operation Plus (unwrap_or (lookup (nat_eq j) es) zero_ℚ) value) ≡ is_wide limit (operation Plus (sum_of term.name.text before) (term_value term))
  same_sum = ap (λ (s : ℚ). is_wide limit (operation Plus s value)) (sum_at_column (names_of new.names) before term.name.text j es held takes.stands) ∙ ap (λ (v : ℚ). is_wide limit (operation Plus (sum_of term.name.text before) v)) is

  pub term_taken : (fs : List (ℕ × ℚ)) → AddsSum es fs j value → TakesTerm old new before term fs
  term_taken fs adds = record {
    names = takes.names;
    entries = takes.entries;
    widened = takes.widened;
    few = takes.few;
    short = takes.short;
    sums = sums_add (names_of new.names) before term j es fs held takes.stands (subst (λ (v : ℚ). AddsSum es fs j v) is adds);
  }

  pub no_term_fault : factor_fault term.factor ≡ None → limit_fault (names_of old.names) old.entries term.name ≡ None → is_wide limit (operation Plus (unwrap_or (lookup (nat_eq j) es) zero_ℚ) value) ≡ false
      → term_fault (names_of old.names) old.entries before term ≡ None
  unfolding sum_fault
  no_term_fault a b d = rw (a, b, sym same_sum ∙ d) refl

  pub wide_term : (fault : ReadFault) → factor_fault term.factor ≡ None → limit_fault (names_of old.names) old.entries term.name ≡ None
      → IsFaultOf (cond (is_wide limit (operation Plus (unwrap_or (lookup (nat_eq j) es) zero_ℚ) value)) (Some (stop_at term.name.line SumWide)) None) fault → IsFaultOf (term_fault (names_of old.names) old.entries before term) fault
  unfolding sum_fault
  wide_term fault a b told = subst (λ (o : Option ReadStop). IsFaultOf o fault) (ap (λ b. cond b (Some (stop_at term.name.line SumWide)) None) same_sum ∙ sym (rw (a, b) refl)) told

-- ---- lists by index
suc_is : (i : ℕ) → suc i ≡ i + 1
suc_is i = omega arith

pub drop_get : {X : Type 0} (xs : List X) (i : ℕ) (x : X) → slice_get xs i ≡ Some x → drop i xs ≡ x ∷ drop (i + 1) xs
drop_get xs i x at =
    let within : i < length xs = slice_get_within xs i x at in
    let is : get_or xs i x ≡ x = sym (unwrap_or-slice_get xs i x) ∙ ap (λ o. unwrap_or o x) at in
    drop-cons xs i x within ∙ ap (λ y. y ∷ drop (suc i) xs) is ∙ ap (λ (n : ℕ). x ∷ drop n xs) (suc_is i)

take_get : {X : Type 0} (xs : List X) (i : ℕ) (x : X) → slice_get xs i ≡ Some x → take (i + 1) xs ≡ take i xs ++ x ∷ []
take_get xs i x at =
    let within : i < length xs = slice_get_within xs i x at in
    let is : get_or xs i x ≡ x = sym (unwrap_or-slice_get xs i x) ∙ ap (λ o. unwrap_or o x) at in
    ap (λ (n : ℕ). take n xs) (sym (suc_is i)) ∙ take-suc xs i x within ∙ ap (λ y. take i xs ++ y ∷ []) is

at_get : (terms : List CodeTerm) (i : ℕ) (d : CodeTerm) → i < length terms → slice_get (map shown_term terms) i ≡ Some (shown_term (get_or terms i d))
at_get terms i d within =
    let long : length (map shown_term terms) ≡ length terms = length_map shown_term terms in
    slice_get_is (map shown_term terms) i (shown_term d) (omega arith) ∙ ap Some (get_or-map shown_term terms i d (shown_term d) within)
  where
    slice_get_is : {X : Type 0} (xs : List X) (i : ℕ) (x : X) → i < length xs → slice_get xs i ≡ Some (get_or xs i x)
    slice_get_is [] i x h = absurd (omega arith)
    slice_get_is (y ∷ ys) zero x h = refl
    slice_get_is (y ∷ ys) (suc i) x h = slice_get_is ys i x (omega arith)

-- ---- a form
-- the terms so far
pub record TermsSoFar (old now : Columns) (all : List Term) (i : ℕ) (found : List (ℕ × ℚ)) : Type 0 where
  pub names : names_of now.names ≡ with_names (names_of old.names) (take i all)
  pub entries : now.entries ≡ old.entries + i
  pub widened : Widened old now
  pub few : length (names_of now.names) ≤ most_columns
  pub short : KeepsShort old now
  pub sums : HoldsSums (names_of now.names) (take i all) found
  pub faults : terms_fault_in (names_of old.names) old.entries [] all ≡ terms_fault_in (names_of now.names) now.entries (take i all) (drop i all)

pub no_terms : (old : Columns) (all : List Term) → length (names_of old.names) ≤ most_columns → TermsSoFar old old all 0 []
unfolding with_names
no_terms old all few = record {
  names = refl;
  entries = omega arith;
  widened = record { more = []; names = sym (append-nil (names_of old.names)); bounds = sym (append-nil old.bounds.items); fresh = All-nil (λ name. is_named (names_of old.names) name ≡ false) };
  few = few;
  short = λ h. h;
  sums = no_sums (names_of old.names);
  faults = refl;
}

with_names_push : (names : List (List ℕ)) (terms : List Term) (term : Term) → with_names names (terms ++ term ∷ []) ≡ with_name (with_names names terms) term.name.text
unfolding with_names
with_names_push names [] term = refl
with_names_push names (t ∷ terms) term = with_names_push (with_name names t.name.text) terms term

widened_more : (a b c : Columns) → Widened a b → Widened b c → Widened a c
widened_more a b c x y = record {
  more = x.more ++ y.more;
  names = y.names ∙ (ap (λ ns. ns ++ y.more) x.names ∙ append_assoc (names_of a.names) x.more y.more);
  bounds = y.bounds ∙ (ap (λ bs. bs ++ map (λ (name : List ℕ). plain) y.more) x.bounds ∙ (append_assoc a.bounds.items (map (λ (name : List ℕ). plain) x.more) (map (λ (name : List ℕ). plain) y.more)
      ∙ ap (λ bs. a.bounds.items ++ bs) (sym (map-append (λ (name : List ℕ). plain) x.more y.more))));
  fresh = All-both (λ name. is_named (names_of a.names) name ≡ false) x.more y.more x.fresh (All-weaker (λ name. is_named (names_of b.names) name ≡ false) (λ name. is_named (names_of a.names) name ≡ false) (λ name h. left name (sym (ap (λ ns. is_named ns name) x.names) ∙ h)) y.more y.fresh);
}
  where
    or_left : (p q : Bool) → (p || q) ≡ false → p ≡ false
    or_left true q h = h
    or_left false q h = refl

    left : (name : List ℕ) → is_named (names_of a.names ++ x.more) name ≡ false → is_named (names_of a.names) name ≡ false
    left name h = or_left (is_named (names_of a.names) name) (is_named x.more name) (sym (list_any-append (bytes_eq name) (names_of a.names) x.more) ∙ h)

    All-both : (P : List ℕ → Type 0) (xs ys : List (List ℕ)) → All P xs → All P ys → All P (xs ++ ys)
    All-both P [] ys p q = q
    All-both P (x ∷ xs) ys p q = All-cons P x (xs ++ ys) (All-head P x xs p) (All-both P xs ys (All-tail P x xs p) q)

module _ (old now : Columns) (all : List Term) (i : ℕ) (found : List (ℕ × ℚ)) (so_far : TermsSoFar old now all i found) (term : Term) (at : slice_get all i ≡ Some term) where
  rest_is : terms_fault_in (names_of now.names) now.entries (take i all) (drop i all)
      ≡ option_or (term_fault (names_of now.names) now.entries (take i all) term) (terms_fault_in (with_name (names_of now.names) term.name.text) (now.entries + 1) (take i all ++ term ∷ []) (drop (i + 1) all))
  unfolding terms_fault_in
  rest_is = ap (terms_fault_in (names_of now.names) now.entries (take i all)) (drop_get all i term at)

  pub one_more : (new : Columns) (next : List (ℕ × ℚ)) → term_fault (names_of now.names) now.entries (take i all) term ≡ None → TakesTerm now new (take i all) term next → TermsSoFar old new all (i + 1) next
  one_more new next none takes =
      let more : take (i + 1) all ≡ take i all ++ term ∷ [] = take_get all i term at in
      record {
        names = takes.names ∙ (ap (λ ns. with_name ns term.name.text) so_far.names ∙ (sym (with_names_push (names_of old.names) (take i all) term) ∙ ap (with_names (names_of old.names)) (sym more)));
        entries = let a = takes.entries in let b = so_far.entries in omega arith;
        widened = widened_more old now new so_far.widened takes.widened;
        few = takes.few so_far.few;
        short = λ h. takes.short (so_far.short h);
        sums = subst (λ ts. HoldsSums (names_of new.names) ts next) (sym more) takes.sums;
        faults = so_far.faults ∙ (rest_is ∙ (ap (λ o. option_or o (terms_fault_in (with_name (names_of now.names) term.name.text) (now.entries + 1) (take i all ++ term ∷ []) (drop (i + 1) all))) none
            ∙ ap (λ (s : List (List ℕ) × ℕ × List Term). terms_fault_in s.0 s.1 s.2 (drop (i + 1) all)) (λ k. (sym takes.names k, sym takes.entries k, sym more k))));
      }

  pub faulty_term : (fault : ReadFault) → IsFaultOf (term_fault (names_of now.names) now.entries (take i all) term) fault → IsFaultOf (terms_fault_in (names_of old.names) old.entries [] all) fault
  faulty_term (Stop stop) told = so_far.faults ∙ (rest_is ∙ ap (λ o. option_or o (terms_fault_in (with_name (names_of now.names) term.name.text) (now.entries + 1) (take i all ++ term ∷ []) (drop (i + 1) all))) told)
  faulty_term Memory told = tt

pub all_terms : (old now : Columns) (all : List Term) (i : ℕ) (found : List (ℕ × ℚ)) (form : List LinearTerm) → TermsSoFar old now all i found → i ≡ length all → form ≡ form_of (names_of now.names) all → TakesForm old now all form
unfolding terms_fault_in
all_terms old now all i found form so_far le is = record {
  no_fault = so_far.faults ∙ ap (terms_fault_in (names_of now.names) now.entries (take i all)) (drop_all i all (omega arith));
  names = so_far.names ∙ ap (with_names (names_of old.names)) (take_all i all (omega arith));
  entries = so_far.entries ∙ ap (λ (n : ℕ). old.entries + n) le;
  widened = so_far.widened;
  few = so_far.few;
  short = so_far.short;
  form_is = is;
}

-- the same of the terms of the code
pub terms_more : (old now : Columns) (terms : List CodeTerm) (i : ℕ) (d : CodeTerm) (found : List (ℕ × ℚ)) → TermsSoFar old now (map shown_term terms) i found → i < length terms → (new : Columns) (next : List (ℕ × ℚ))
    → (term_fault (names_of now.names) now.entries (take i (map shown_term terms)) (shown_term (get_or terms i d)) ≡ None) × TakesTerm now new (take i (map shown_term terms)) (shown_term (get_or terms i d)) next
    → TermsSoFar old new (map shown_term terms) (i + 1) next
terms_more old now terms i d found so_far within new next h = one_more old now (map shown_term terms) i found so_far (shown_term (get_or terms i d)) (at_get terms i d within) new next h.0 h.1

pub terms_fail : (old now : Columns) (terms : List CodeTerm) (i : ℕ) (d : CodeTerm) (found : List (ℕ × ℚ)) → TermsSoFar old now (map shown_term terms) i found → i < length terms → (fault : ReadFault)
    → IsFaultOf (term_fault (names_of now.names) now.entries (take i (map shown_term terms)) (shown_term (get_or terms i d))) fault → IsFaultOf (terms_fault_in (names_of old.names) old.entries [] (map shown_term terms)) fault
terms_fail old now terms i d found so_far within fault told = faulty_term old now (map shown_term terms) i found so_far (shown_term (get_or terms i d)) (at_get terms i d within) fault told

pub terms_done : (old now : Columns) (terms : List CodeTerm) (i : ℕ) (found : List (ℕ × ℚ)) (form : List LinearTerm) → TermsSoFar old now (map shown_term terms) i found → i ≡ length terms
    → ((names : List (List ℕ)) (all : List Term) → HoldsSums names all found → form ≡ form_of names all) → TakesForm old now (map shown_term terms) form
terms_done old now terms i found form so_far end is =
    let all = map shown_term terms in
    let long : length all ≡ length terms = length_map shown_term terms in
    all_terms old now all i found form so_far (omega arith) (is (names_of now.names) all (subst (λ ts. HoldsSums (names_of now.names) ts found) (take_all i all (omega arith)) so_far.sums))

pub below_small : (names : List (List ℕ)) (es : List (ℕ × ℚ)) → length names ≤ most_columns → All (λ e. e.0 < length names) es → All (λ e. e.0 < 2 ^ 32) es
below_small names es few below = All-weaker (λ e. e.0 < length names) (λ e. e.0 < 2 ^ 32) (λ e h. omega arith) es below
