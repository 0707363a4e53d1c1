-- Terms for which entries stand.
use Rattle.std.proofs.Common.{◌≡◌, ◌<◌, sym, ◌∙◌, ap, subst, ℕ, suc, List, ◌∷◌, ◌++◌, length, get_or, take, drop}
use Rattle.std.specs.Prelude.{slice_index_or, insert, remove, Result, Ok, is_ok, cond}
use Rattle.std.proofs.lemmas.List.{get_or-map, length-map, map-append, take-map, drop-map, take_at}
use Rattle.rational.specs.Rational.{ℚ, zero_ℚ}
use Rattle.rational.specs.Linear.{Term}
use Rattle.dictionary.specs.declared.entries.Entry.{Entry}
use Rattle.dictionary.specs.Rows.{terms_of}

module _ {N : Type 0} (value : N → ℚ) where
  abbrev pub term : Entry N → Term
  term e = record { column = e.variable; factor = value e.factor }

  pub terms-length : (row : List (Entry N)) → length (terms_of value row) ≡ length row
  terms-length row = length-map row term

  pub terms_at : (row : List (Entry N)) (k : ℕ) (x : Entry N) (d : Term) → k < length row → x ≡ get_or row k x → slice_index_or (terms_of value row) k d ≡ term x
  terms_at row k x d l is = get_or-map term row k x d l ∙ ap term (sym is)

  pub terms_get : (row : List (Entry N)) (k : ℕ) (x : Entry N) (d : Term) → k < length row → slice_index_or (terms_of value row) k d ≡ term (get_or row k x)
  terms_get row k x d l = get_or-map term row k x d l

  pub terms_within : (row : List (Entry N)) (k : ℕ) → k < length row → k < length (terms_of value row)
  terms_within row k l = subst (λ n. k < n) (sym (terms-length row)) l

  pub terms_held : (row : List (Entry N)) (k : ℕ) → k < length (terms_of value row) → k < length row
  terms_held row k l = subst (λ n. k < n) (terms-length row) l

  pub terms-append : (xs ys : List (Entry N)) → terms_of value (xs ++ ys) ≡ terms_of value xs ++ terms_of value ys
  terms-append xs ys = map-append term xs ys

  pub terms-take : (n : ℕ) (row : List (Entry N)) → terms_of value (take n row) ≡ take n (terms_of value row)
  terms-take n row = sym (take-map term n row)

  pub terms-drop : (n : ℕ) (row : List (Entry N)) → terms_of value (drop n row) ≡ drop n (terms_of value row)
  terms-drop n row = sym (drop-map term n row)

  pub terms-remove : (n : ℕ) (row : List (Entry N)) → terms_of value (remove row n) ≡ take n (terms_of value row) ++ drop (suc n) (terms_of value row)
  terms-remove n row = terms-append (take n row) (drop (suc n) row) ∙ ap (λ z. z ++ terms_of value (drop (suc n) row)) (terms-take n row) ∙ ap (λ z. take n (terms_of value row) ++ z) (terms-drop (suc n) row)

  pub terms-insert : (n : ℕ) (row : List (Entry N)) (x : Entry N) → terms_of value (insert row n x) ≡ take n (terms_of value row) ++ term x ∷ drop n (terms_of value row)
  terms-insert n row x = terms-append (take n row) (x ∷ drop n row) ∙ ap (λ z. z ++ term x ∷ terms_of value (drop n row)) (terms-take n row) ∙ ap (λ z. take n (terms_of value row) ++ term x ∷ z) (terms-drop n row)

-- what is so where a call succeeds, where it does
pub succeeded : {A E X : Type 0} (r : Result A E) (x : A) (a b z : X) → r ≡ Ok x → z ≡ cond (is_ok r) a b → z ≡ a
succeeded r x a b z e h = h ∙ ap (λ r. cond (is_ok r) a b) e

pub some_term : Term
some_term = record { column = 0; factor = zero_ℚ }

-- what a call on the elements of a vector leaves
pub refilled : {X : Type 0} (new old : List X) (n : ℕ) → length new ≡ n → take n (new ++ drop (length new) old) ≡ new
refilled new old n e = take_at new (drop (length new) old) n e
