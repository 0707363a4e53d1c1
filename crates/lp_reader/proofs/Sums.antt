-- Sums by column.
use Rattle.std.proofs.Common.{◌≡◌, ℕ, ◌+◌, ◌<◌, ◌≤◌, Bool, true, false, cond, ltb, nat_eq, ◌||◌, List, [], ◌∷◌, ◌++◌, Some, None, length, filter, refl, sym, ap, ◌∙◌, arith, true≢false, length-append}
use Rattle.std.specs.Prelude.{unwrap_or}
use Rattle.std.specs.List.{All, list_any}
use Rattle.std.specs.Map.{lookup}
use Rattle.std.specs.Str.{bytes_eq}
use Rattle.std.proofs.lemmas.List.Elements.{All-nil, All-cons, All-head, All-tail, All-weaker}
use Rattle.std.proofs.lemmas.List.Folds.{list_any-append}
use Rattle.std.proofs.lemmas.Bool.{ltb-true, ltb-false, eqb-true, ne_eqb}
use Rattle.std.proofs.lemmas.Slice.Eq.{bytes_eq-Decides}
use Rattle.std.proofs.Math.Seq.{get_or-append_seam}
use Rattle.rational.specs.Rational.{ℚ, zero_ℚ, ◌+ℚ◌}
use Rattle.rational.specs.Sum.{sum_over}
use Rattle.rational.proofs.Sums.{sum_over-push}
use Rattle.indexmap.specs.IndexMap.{insert_entry}
use Rattle.name_map.specs.Names.{name_at, StandsAt}
use Rattle.lp_model.specs.Shown.{is_named}
use Rattle.lp_statements.specs.Statements.{Term}
use Rattle.lp_reader.specs.Numbers.{is_of, sum_of, term_value}
use Rattle.lp_reader.specs.State.{AddsSum, HoldsSums, sum_there}
use Rattle.lp_reader.proofs.NewColumns.{name_stays}

pub insert_below : (es : List (ℕ × ℚ)) (k : ℕ) (v : ℚ) (n : ℕ) → k < n → All (λ e. e.0 < n) es → All (λ e. e.0 < n) (insert_entry nat_eq es k v)
insert_below [] k v n lt all = All-cons (λ e. e.0 < n) (k, v) [] lt (All-nil (λ e. e.0 < n))
insert_below (e ∷ es) k v n lt all = by (nat_eq k e.0) (insert_below es k v n lt (All-tail (λ e. e.0 < n) e es all))
  where
    by : (b : Bool) → All (λ e. e.0 < n) (insert_entry nat_eq es k v) → All (λ e. e.0 < n) (cond b ((e.0, v) ∷ es) (e ∷ insert_entry nat_eq es k v))
    by true rest = All-cons (λ e. e.0 < n) (e.0, v) es (All-head (λ e. e.0 < n) e es all) (All-tail (λ e. e.0 < n) e es all)
    by false rest = All-cons (λ e. e.0 < n) e (insert_entry nat_eq es k v) (All-head (λ e. e.0 < n) e es all) rest

-- ---- sums of terms
filter_push : {X : Type 0} (p : X → Bool) (xs : List X) (x : X) → filter p (xs ++ x ∷ []) ≡ filter p xs ++ cond (p x) (x ∷ []) []
filter_push p [] x = by (p x)
  where
    by : (b : Bool) → cond b (x ∷ []) [] ≡ cond b (x ∷ []) []
    by b = refl
filter_push p (y ∷ xs) x = by (p y) (filter_push p xs x)
  where
    by : (b : Bool) → filter p (xs ++ x ∷ []) ≡ filter p xs ++ cond (p x) (x ∷ []) [] → cond b (y ∷ filter p (xs ++ x ∷ [])) (filter p (xs ++ x ∷ [])) ≡ cond b (y ∷ filter p xs) (filter p xs) ++ cond (p x) (x ∷ []) []
    by true h = ap (λ ys. y ∷ ys) h
    by false h = h

filter_none : {X : Type 0} (p : X → Bool) (xs : List X) → list_any p xs ≡ false → filter p xs ≡ []
filter_none p [] h = refl
filter_none p (x ∷ xs) h = by (p x) h (λ h. filter_none p xs h)
  where
    by : (b : Bool) → (b || list_any p xs) ≡ false → (list_any p xs ≡ false → filter p xs ≡ []) → cond b (x ∷ filter p xs) (filter p xs) ≡ []
    by true h rest = absurd (true≢false h)
    by false h rest = rest h

pub sum_of-none : (name : List ℕ) (terms : List Term) → list_any (is_of name) terms ≡ false → sum_of name terms ≡ zero_ℚ
unfolding sum_of
sum_of-none name terms none = ap (sum_over term_value) (filter_none (is_of name) terms none)

sum_of-same : (name : List ℕ) (terms : List Term) (term : Term) → is_of name term ≡ true → sum_of name (terms ++ term ∷ []) ≡ sum_of name terms +ℚ term_value term
unfolding sum_of
sum_of-same name terms term same =
    ap (sum_over term_value) (filter_push (is_of name) terms term ∙ ap (λ b. filter (is_of name) terms ++ cond b (term ∷ []) []) same) ∙ sum_over-push term_value (filter (is_of name) terms) term

sum_of-other : (name : List ℕ) (terms : List Term) (term : Term) → is_of name term ≡ false → sum_of name (terms ++ term ∷ []) ≡ sum_of name terms
unfolding sum_of
sum_of-other name terms term other =
    ap (sum_over term_value) (filter_push (is_of name) terms term ∙ ap (λ b. filter (is_of name) terms ++ cond b (term ∷ []) []) other ∙ append_nil (filter (is_of name) terms))
  where
    append_nil : (xs : List Term) → xs ++ [] ≡ xs
    append_nil [] = refl
    append_nil (x ∷ xs) = ap (λ ys. x ∷ ys) (append_nil xs)

or_false : (b : Bool) → (b || false) ≡ b
or_false true = refl
or_false false = refl

or_true : (b : Bool) → (b || true) ≡ true
or_true true = refl
or_true false = refl

-- what is looked up, as a number
pub sum_looked : (name : List ℕ) (terms : List Term) → unwrap_or (sum_there name terms) zero_ℚ ≡ sum_of name terms
sum_looked name terms = by (list_any (is_of name) terms) refl
  where
    by : (b : Bool) → list_any (is_of name) terms ≡ b → unwrap_or (cond b (Some (sum_of name terms)) None) zero_ℚ ≡ sum_of name terms
    by true e = refl
    by false e = sym (sum_of-none name terms e)

there_same : (name : List ℕ) (terms : List Term) (term : Term) → is_of name term ≡ true → sum_there name (terms ++ term ∷ []) ≡ Some (sum_of name terms +ℚ term_value term)
there_same name terms term same =
    ap (λ b. cond b (Some (sum_of name (terms ++ term ∷ []))) None) (list_any-append (is_of name) terms (term ∷ []) ∙ ap (λ b. list_any (is_of name) terms || (b || false)) same ∙ or_true (list_any (is_of name) terms))
    ∙ ap Some (sum_of-same name terms term same)

there_other : (name : List ℕ) (terms : List Term) (term : Term) → is_of name term ≡ false → sum_there name (terms ++ term ∷ []) ≡ sum_there name terms
there_other name terms term other =
    ap (λ b. cond b (Some (sum_of name (terms ++ term ∷ []))) None) (list_any-append (is_of name) terms (term ∷ []) ∙ ap (λ b. list_any (is_of name) terms || (b || false)) other ∙ or_false (list_any (is_of name) terms))
    ∙ ap (λ s. cond (list_any (is_of name) terms) (Some s) None) (sum_of-other name terms term other)

-- ---- tables
-- a key past all others is not there
pub lookup_beyond : (j n : ℕ) (es : List (ℕ × ℚ)) → All (λ e. e.0 < n) es → n ≤ j → lookup (nat_eq j) es ≡ None
lookup_beyond j n [] h le = refl
lookup_beyond j n (e ∷ es) h le =
    let lt = All-head (λ (e : ℕ × ℚ). e.0 < n) e es h in
    ap (λ b. cond b (Some e.1) (lookup (nat_eq j) es)) (ne_eqb j e.0 (λ q. omega arith)) ∙ lookup_beyond j n es (All-tail (λ (e : ℕ × ℚ). e.0 < n) e es h) le

pub no_sums : (names : List (List ℕ)) → HoldsSums names [] []
no_sums names = record { below = All-nil (λ e. e.0 < length names); each = λ j h. refl; known = λ name h. refl }

-- one column more
pub sums_widen : (names : List (List ℕ)) (name : List ℕ) (terms : List Term) (es : List (ℕ × ℚ)) → HoldsSums names terms es → is_named names name ≡ false → HoldsSums (names ++ name ∷ []) terms es
sums_widen names name terms es holds new =
    let longer : length (names ++ name ∷ []) ≡ length names + 1 = length-append names (name ∷ []) in
    record {
      below = All-weaker (λ e. e.0 < length names) (λ e. e.0 < length (names ++ name ∷ [])) (λ e h. omega arith) es holds.below;
      each = λ j h. by j (ltb j (length names)) refl (omega arith);
      known = λ other h. holds.known other (or_left (is_named names other) (is_named (name ∷ []) other) (sym (list_any-append (bytes_eq other) names (name ∷ [])) ∙ h));
    }
  where
    or_left : (a b : Bool) → (a || b) ≡ false → a ≡ false
    or_left true b h = h
    or_left false b h = refl

    by : (j : ℕ) (b : Bool) → ltb j (length names) ≡ b → j ≤ length names → lookup (nat_eq j) es ≡ sum_there (name_at (names ++ name ∷ []) j) terms
    by j true e le =
        let lt : j < length names = ltb-true _ _ e in
        holds.each j lt ∙ ap (λ n. sum_there n terms) (sym (name_stays names (name ∷ []) j lt))
    by j false e le =
        let ge : length names ≤ j = ltb-false _ _ e in
        let is : length names ≡ j = omega arith in
        lookup_beyond j (length names) es holds.below ge
        ∙ sym (ap (λ b. cond b (Some (sum_of name terms)) None) (holds.known name new))
        ∙ ap (λ n. sum_there n terms) (sym (get_or-append_seam names name [] []) ∙ ap (λ (n : ℕ). name_at (names ++ name ∷ []) n) is)

-- one term more
pub sums_add : (names : List (List ℕ)) (terms : List Term) (term : Term) (j : ℕ) (es fs : List (ℕ × ℚ)) → HoldsSums names terms es → StandsAt names term.name.text j → AddsSum es fs j (term_value term) → HoldsSums names (terms ++ term ∷ []) fs
sums_add names terms term j es fs holds at adds = record {
  below = adds.below (length names) at.within holds.below;
  each = λ k h. by k (nat_eq j k) refl h;
  known = λ name h. list_any-append (is_of name) terms (term ∷ []) ∙ ap (λ b. b || (is_of name term || false)) (holds.known name h) ∙ or_false (is_of name term) ∙ not_of name h (is_of name term) refl;
}
  where
    value : unwrap_or (lookup (nat_eq j) es) zero_ℚ ≡ sum_of term.name.text terms
    value = ap (λ o. unwrap_or o zero_ℚ) (holds.each j at.within ∙ ap (λ n. sum_there n terms) at.named) ∙ sum_looked term.name.text terms

    by : (k : ℕ) (b : Bool) → nat_eq j k ≡ b → k < length names → lookup (nat_eq k) fs ≡ sum_there (name_at names k) (terms ++ term ∷ [])
    by k true e h =
        let is : j ≡ k = eqb-true j k e in
        let same : is_of (name_at names k) term ≡ true = at.alone k h ∙ e in
        adds.each k ∙ ap (λ b. cond b (Some (unwrap_or (lookup (nat_eq j) es) zero_ℚ +ℚ term_value term)) (lookup (nat_eq k) es)) e
        ∙ ap (λ s. Some (s +ℚ term_value term)) (value ∙ ap (λ n. sum_of n terms) (sym at.named ∙ ap (name_at names) is))
        ∙ sym (there_same (name_at names k) terms term same)
    by k false e h =
        adds.each k ∙ ap (λ b. cond b (Some (unwrap_or (lookup (nat_eq j) es) zero_ℚ +ℚ term_value term)) (lookup (nat_eq k) es)) e
        ∙ holds.each k h ∙ sym (there_other (name_at names k) terms term (at.alone k h ∙ e))

    not_of : (name : List ℕ) → is_named names name ≡ false → (b : Bool) → is_of name term ≡ b → b ≡ false
    not_of name h false e = refl
    not_of name h true e =
        let is : term.name.text ≡ name = (bytes_eq-Decides term.name.text name).0 e in
        absurd (true≢false (sym at.among ∙ ap (is_named names) is ∙ h))

pub sum_at_column : (names : List (List ℕ)) (terms : List Term) (name : List ℕ) (j : ℕ) (es : List (ℕ × ℚ)) → HoldsSums names terms es → StandsAt names name j → unwrap_or (lookup (nat_eq j) es) zero_ℚ ≡ sum_of name terms
sum_at_column names terms name j es holds at = ap (λ o. unwrap_or o zero_ℚ) (holds.each j at.within ∙ ap (λ n. sum_there n terms) at.named) ∙ sum_looked name terms
