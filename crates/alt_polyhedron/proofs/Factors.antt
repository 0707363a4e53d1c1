-- The factor of a column in terms that ascend.
use Rattle.std.proofs.Common.{◌≡◌, ◌≢◌, ◌+◌, ◌<◌, ◌≤◌, refl, sym, ◌∙◌, ap, subst, ℕ, zero, suc, ◌==◌, List, [], ◌∷◌, drop, length, get_or, arith, eq-eqb, ne_eqb}
use Rattle.std.specs.Prelude.{All, AllPairs}
use Rattle.std.proofs.lemmas.Bool.{cond-true, cond-false}
use Rattle.std.proofs.lemmas.List.{at_drop_more, drop_all}
use Rattle.std.proofs.lemmas.List.Elements.{All-head, All-tail}
use Rattle.rational.specs.Rational.{◌+ℚ◌, one_ℚ, zero_ℚ}
use Rattle.rational.specs.Linear.{Term, factor_of}
use Rattle.rational.proofs.Field.{add-zero_ℚ}
use Rattle.rational.proofs.Sums.{nothing_first, nothing_twice}
use Rattle.lp_model.specs.Members.{column_form}
use Rattle.lp_model.proofs.Sets.{pairs_head, pairs_tail}

abbrev Ascend : Term → Term → Type 0
Ascend s t = s.column < t.column

-- a term of another column counts nothing
pub passed : (j : ℕ) (t : Term) (terms : List Term) → t.column ≢ j → factor_of (t ∷ terms) j ≡ factor_of terms j
passed j t terms e = ap (λ z. z +ℚ factor_of terms j) (cond-false (t.column == j) t.factor zero_ℚ (ne_eqb t.column j e)) ∙ nothing_first (factor_of terms j)

-- and neither do later ones
none_later : (j : ℕ) (terms : List Term) → All (λ t. j < t.column) terms → factor_of terms j ≡ zero_ℚ
none_later j [] h = refl
none_later j (t ∷ terms) h =
    let after : j < t.column = All-head (λ (t : Term). j < t.column) t terms h in
    passed j t terms (λ e. absurd (omega (arith, after, e))) ∙ none_later j terms (All-tail (λ (t : Term). j < t.column) t terms h)

-- the term of the column itself
first : (j : ℕ) (t : Term) (terms : List Term) → AllPairs Ascend (t ∷ terms) → t.column ≡ j → factor_of (t ∷ terms) j ≡ t.factor
first j t terms h e =
    ap (λ z. z +ℚ factor_of terms j) (cond-true (t.column == j) t.factor zero_ℚ (eq-eqb t.column j e))
    ∙ ap (λ z. t.factor +ℚ z) (none_later j terms (subst (λ n. All (λ (s : Term). n < s.column) terms) e (pairs_head Ascend t terms h)))
    ∙ add-zero_ℚ t.factor

-- ---- a search from the front
rest_ascends : (terms : List Term) (k : ℕ) → AllPairs Ascend terms → AllPairs Ascend (drop k terms)
rest_ascends terms zero h = h
rest_ascends [] (suc k) h = h
rest_ascends (t ∷ terms) (suc k) h = rest_ascends terms k (pairs_tail Ascend t terms h)

split_at : (terms : List Term) (k : ℕ) (t : Term) → k < length terms → t ≡ get_or terms k t → drop k terms ≡ t ∷ drop (k + 1) terms
split_at terms k t l is = at_drop_more (λ ts. ts) terms k t l ∙ ap (λ (z : Term). z ∷ drop (k + 1) terms) (sym is)

pub search_passed : (j : ℕ) (terms : List Term) (k : ℕ) (t : Term) → k < length terms → t ≡ get_or terms k t → t.column ≢ j → factor_of (drop k terms) j ≡ factor_of (drop (k + 1) terms) j
search_passed j terms k t l is e = ap (λ ts. factor_of ts j) (split_at terms k t l is) ∙ passed j t (drop (k + 1) terms) e

pub search_found : (j : ℕ) (terms : List Term) (k : ℕ) (t : Term) → AllPairs Ascend terms → k < length terms → t ≡ get_or terms k t → t.column ≡ j → factor_of (drop k terms) j ≡ t.factor
search_found j terms k t h l is e =
    ap (λ ts. factor_of ts j) (split_at terms k t l is) ∙ first j t (drop (k + 1) terms) (subst (AllPairs Ascend) (split_at terms k t l is) (rest_ascends terms k h)) e

pub search_ended : (j : ℕ) (terms : List Term) (k : ℕ) → length terms ≤ k → factor_of (drop k terms) j ≡ zero_ℚ
search_ended j terms k l = ap (λ ts. factor_of ts j) (drop_all k terms l)

-- ---- a column alone
pub own_factor : (own j : ℕ) → own ≡ j → factor_of (column_form own) j ≡ one_ℚ
own_factor own j e = ap (λ z. z +ℚ zero_ℚ) (cond-true (own == j) one_ℚ zero_ℚ (eq-eqb own j e)) ∙ add-zero_ℚ one_ℚ

pub other_factor : (own j : ℕ) → own ≢ j → factor_of (column_form own) j ≡ zero_ℚ
other_factor own j e = ap (λ z. z +ℚ zero_ℚ) (cond-false (own == j) one_ℚ zero_ℚ (ne_eqb own j e)) ∙ nothing_twice
