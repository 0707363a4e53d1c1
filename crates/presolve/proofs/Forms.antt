-- Forms whose terms ascend over the columns.
use Rattle.std.proofs.Common.{◌≡◌, ◌≢◌, refl, sym, ◌∙◌, ap, subst, ℕ, ◌+◌, ◌<◌, ◌≤◌, zero, suc, Bool, cond, not, ◌==◌, List, [], ◌∷◌, length, get_or, drop, inl, inr, arith, eq-eqb, ne_eqb}
use Rattle.std.specs.Prelude.{All}
use Rattle.std.proofs.lemmas.Bool.{cases_eq, cond-true, cond-false}
use Rattle.std.proofs.lemmas.List.{at_drop_more, drop_all}
use Rattle.std.proofs.lemmas.List.Elements.{All-head, All-tail}
use Rattle.rational.specs.Rational.{zero_ℚ, ◌+ℚ◌}
use Rattle.rational.specs.Linear.{Term, factor_of}
use Rattle.rational.proofs.Field.{add-zero_ℚ}
use Rattle.rational.proofs.Sums.{nothing_first}
use Rattle.reductions.specs.Reduction.{without_column}
use Rattle.presolve.specs.Eliminated.{IsAscending}

-- a column that no term has
pub absent : (j : ℕ) (terms : List Term) → All (λ t. t.column ≢ j) terms → factor_of terms j ≡ zero_ℚ
absent j [] h = refl
absent j (t ∷ terms) h =
    ap (λ z. z +ℚ factor_of terms j) (cond-false (t.column == j) t.factor zero_ℚ (ne_eqb t.column j (All-head (λ (t : Term). t.column ≢ j) t terms h)))
    ∙ nothing_first (factor_of terms j)
    ∙ absent j terms (All-tail (λ (t : Term). t.column ≢ j) t terms h)

-- the terms after one
pub ascending_tail : (t : Term) (terms : List Term) → IsAscending (t ∷ terms) → IsAscending terms
ascending_tail t terms h = λ i k d l m. h (suc i) (suc k) d (omega arith) (omega arith)

-- they have later columns
pub later : (t : Term) (terms : List Term) → IsAscending (t ∷ terms) → All (λ s. s.column ≢ t.column) terms
later t terms h = λ k d l e. apart t.column (get_or terms k d).column (h zero (suc k) d (omega arith) (omega arith)) e
  where
    apart : (a b : ℕ) → a < b → b ≡ a → ⊥
    apart a b l e = omega arith

-- a term's factor is that of its column
pub first_factor : (j : ℕ) (t : Term) (terms : List Term) → IsAscending (t ∷ terms) → t.column ≡ j → factor_of (t ∷ terms) j ≡ t.factor
first_factor j t terms h e =
    ap (λ z. z +ℚ factor_of terms j) (cond-true (t.column == j) t.factor zero_ℚ (eq-eqb t.column j e))
    ∙ ap (λ z. t.factor +ℚ z) (absent j terms (subst (λ n. All (λ (s : Term). s.column ≢ n) terms) e (later t terms h)))
    ∙ add-zero_ℚ t.factor

-- a term of another column
pub other_factor : (j : ℕ) (t : Term) (terms : List Term) → t.column ≢ j → factor_of (t ∷ terms) j ≡ factor_of terms j
other_factor j t terms e =
    ap (λ z. z +ℚ factor_of terms j) (cond-false (t.column == j) t.factor zero_ℚ (ne_eqb t.column j e)) ∙ nothing_first (factor_of terms j)

-- the terms from a place on ascend
pub ascending_from : (terms : List Term) (k : ℕ) → IsAscending terms → IsAscending (drop k terms)
ascending_from terms zero h = h
ascending_from [] (suc k) h = h
ascending_from (t ∷ terms) (suc k) h = ascending_from terms k (ascending_tail t terms h)

-- ---- a search
-- a term of another column is passed
pub search_passed : (j : ℕ) (terms : List Term) (k : ℕ) (t : Term) → k < length terms → t ≡ get_or terms k t → t.column ≢ j → factor_of (drop k terms) j ≡ factor_of (drop (k + 1) terms) j
search_passed j terms k t l is e =
    at_drop_more (λ ts. factor_of ts j) terms k t l
    ∙ ap (λ (z : Term). factor_of (z ∷ drop (k + 1) terms) j) (sym is)
    ∙ other_factor j t (drop (k + 1) terms) e

-- the column's term is found
pub search_found : (j : ℕ) (terms : List Term) (k : ℕ) (t : Term) → IsAscending terms → k < length terms → t ≡ get_or terms k t → t.column ≡ j → factor_of (drop k terms) j ≡ t.factor
search_found j terms k t h l is e =
    let rest = drop (k + 1) terms in
    let split : drop k terms ≡ t ∷ rest = at_drop_more (λ ts. ts) terms k t l ∙ ap (λ (z : Term). z ∷ rest) (sym is) in
    ap (λ ts. factor_of ts j) split ∙ first_factor j t rest (subst IsAscending split (ascending_from terms k h)) e

-- none is
pub search_ended : (j : ℕ) (terms : List Term) (k : ℕ) → length terms ≤ k → factor_of (drop k terms) j ≡ zero_ℚ
search_ended j terms k l = ap (λ ts. factor_of ts j) (drop_all k terms l)

-- ---- a form that lacks a column
-- where no factor is 0, it has no term of the column, and stays as it is without it
pub without_absent : (j : ℕ) (terms : List Term) → IsAscending terms → All (λ t. t.factor ≢ zero_ℚ) terms → factor_of terms j ≡ zero_ℚ → without_column j terms ≡ terms
without_absent j [] h n z = refl
without_absent j (t ∷ terms) h n z =
    elim (cases_eq t.column j) [
      | inl e ↦ absurd (All-head (λ (t : Term). t.factor ≢ zero_ℚ) t terms n (sym (first_factor j t terms h e) ∙ z))
      | inr e ↦
          (ap (λ (b : Bool). cond (not b) (t ∷ without_column j terms) (without_column j terms)) (ne_eqb t.column j e)
          ∙ ap (λ ts. t ∷ ts) (without_absent j terms (ascending_tail t terms h) (All-tail (λ (t : Term). t.factor ≢ zero_ℚ) t terms n) (sym (other_factor j t terms e) ∙ z)))
    ]
