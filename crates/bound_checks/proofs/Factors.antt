-- Sums beside the factors of the objective, which are compared term by term.
use Rattle.std.proofs.Common.{◌≡◌, ◌≢◌, ◌<◌, ◌≤◌, ◌+◌, ◌==◌, refl, sym, ◌∙◌, ap, subst, ℕ, zero, suc, Bool, true, false, true≢false, cond, not, ◌&&◌, List, [], ◌∷◌, length, drop, get_or, set, arith, inl, inr, eq-eqb, ne_eqb}
use Rattle.std.specs.Prelude.{All, AllPairs}
use Rattle.std.proofs.lemmas.Bool.{cases_eq, cases_lt, cond-true, cond-false}
use Rattle.std.proofs.lemmas.List.{at_drop_more, drop_all, get_or-set_same, get_or-set_other}
use Rattle.std.proofs.lemmas.List.Elements.{All-head, All-tail, All-get_or}
use Rattle.algebra.proofs.Ring.{x0, ◌:+◌, minus, zero_of}
use Rattle.rational.specs.Rational.{ℚ, ◌+ℚ◌, neg_ℚ, zero_ℚ, eq_ℚ}
use Rattle.rational.specs.Linear.{Term, factor_of}
use Rattle.rational.proofs.Compare.{eq-Decides}
use Rattle.rational.proofs.Field.{ring_ℚ}
use Rattle.lp_model.specs.Program.{Program, IsForm}
use Rattle.lp_model.specs.Satisfaction.{values_at}
use Rattle.lp_model.proofs.Sets.{pairs_head, pairs_tail}
use Rattle.certs.specs.Bound.{directed}
use Rattle.certs.specs.Checks.{every, every_below}
use Rattle.certs.proofs.Combined.{zeros_are}

-- ---- the factor of a column
-- the columns of the terms ascend
abbrev pub Ascends : Term → Term → Type 0
Ascends s t = s.column < t.column

past : (c : ℕ) (terms : List Term) → All (λ (t : Term). c < t.column) terms → factor_of terms c ≡ zero_ℚ
past c [] h = refl
past c (t ∷ terms) h =
    let later : c < t.column = All-head (λ (s : Term). c < s.column) t terms h in
    ap (λ z. z +ℚ factor_of terms c) (cond-false (t.column == c) t.factor zero_ℚ (ne_eqb t.column c (λ e. omega arith)))
    ∙ ap (λ z. zero_ℚ +ℚ z) (past c terms (All-tail (λ (s : Term). c < s.column) t terms h))
    ∙ ring_ℚ [] (zero_of :+ zero_of) zero_of tt

own : (t : Term) (terms : List Term) → All (λ (s : Term). t.column < s.column) terms → factor_of (t ∷ terms) t.column ≡ t.factor
own t terms h =
    ap (λ z. z +ℚ factor_of terms t.column) (cond-true (t.column == t.column) t.factor zero_ℚ (eq-eqb t.column t.column refl))
    ∙ ap (λ z. t.factor +ℚ z) (past t.column terms h)
    ∙ ring_ℚ (t.factor ∷ []) (x0 :+ zero_of) x0 tt

other : (t : Term) (terms : List Term) (j : ℕ) → t.column ≢ j → factor_of (t ∷ terms) j ≡ factor_of terms j
other t terms j n =
    ap (λ z. z +ℚ factor_of terms j) (cond-false (t.column == j) t.factor zero_ℚ (ne_eqb t.column j n))
    ∙ ring_ℚ (factor_of terms j ∷ []) (zero_of :+ x0) x0 tt

pairs_drop : (terms : List Term) (i : ℕ) → AllPairs Ascends terms → AllPairs Ascends (drop i terms)
pairs_drop terms zero h = h
pairs_drop [] (suc i) h = h
pairs_drop (t ∷ terms) (suc i) h = pairs_drop terms i (pairs_tail Ascends t terms h)

-- ---- tests
below_same : (f g : ℕ → Bool) (n : ℕ) → ((j : ℕ) → f j ≡ g j) → every_below f n ≡ every_below g n
below_same f g zero h = refl
below_same f g (suc n) h = ap (λ b. every_below f n && b) (h n) ∙ ap (λ b. b && g n) (below_same f g n h)

and_false : (b : Bool) → (b && false) ≡ false
and_false true = refl
and_false false = refl

below_fails : (f : ℕ → Bool) (n j : ℕ) → j < n → f j ≡ false → every_below f n ≡ false
below_fails f zero j l e = absurd (omega arith)
below_fails f (suc n) j l e = elim (cases_lt j n) [
  | inl k ↦ ap (λ b. b && f n) (below_fails f n j k e)
  | inr k ↦
      (let same : j ≡ n = omega arith in
      ap (λ b. every_below f n && b) (subst (λ m. f m ≡ false) same e) ∙ and_false (every_below f n))
]

same_number : (q : ℚ) → eq_ℚ q q ≡ true
same_number q = (eq-Decides q q).1 refl

denied : (b : Bool) → not b ≡ true → b ≡ false
denied true e = absurd (true≢false (sym e))
denied false e = refl

granted : (b : Bool) → not b ≡ false → b ≡ true
granted true e = refl
granted false e = absurd (true≢false e)

directed_zero : (model : Program) → directed model zero_ℚ ≡ zero_ℚ
directed_zero model = by model.maximise
  where
    by : (b : Bool) → cond b zero_ℚ (neg_ℚ zero_ℚ) ≡ zero_ℚ
    by true = refl
    by false = ring_ℚ [] (minus zero_of) zero_of tt

-- ---- the sums and the terms
module _ (model : Program) where
  -- whether a sum is the factor
  abbrev pub matches : List Term → List ℚ → ℕ → Bool
  matches terms xs j = eq_ℚ (values_at xs j) (directed model (factor_of terms j))

  module _ (n : ℕ) (terms : List Term) (i : ℕ) (t : Term) (form : IsForm n terms) (h : i < length terms) (is : t ≡ get_or terms i t) where
    next_is : {B : Type 0} (F : List Term → B) → F (drop i terms) ≡ F (t ∷ drop (i + 1) terms)
    next_is F = at_drop_more F terms i t h ∙ ap (λ (z : Term). F (z ∷ drop (i + 1) terms)) (sym is)

    later : All (λ (s : Term). t.column < s.column) (drop (i + 1) terms)
    later = pairs_head Ascends t (drop (i + 1) terms) (subst (AllPairs Ascends) (next_is (λ l. l)) (pairs_drop terms i form.ascending))

    pub term_known : t.column < n
    term_known = subst (λ (z : Term). z.column < n) (sym is) (All-get_or (λ (z : Term). z.column < n) terms i t h form.known)

    pub factor_missed : (xs : List ℚ) → eq_ℚ (values_at xs t.column) (directed model t.factor) ≡ false → every_below (matches (drop i terms) xs) n ≡ false
    factor_missed xs e =
        next_is (λ l. every_below (matches l xs) n)
        ∙ below_fails (matches (t ∷ drop (i + 1) terms) xs) n t.column term_known (ap (λ q. eq_ℚ (values_at xs t.column) (directed model q)) (own t (drop (i + 1) terms) later) ∙ e)

    pub factor_met : (xs : List ℚ) (z : ℚ) → z ≡ zero_ℚ → t.column < length xs → eq_ℚ (values_at xs t.column) (directed model t.factor) ≡ true
        → every_below (matches (drop (i + 1) terms) (set xs t.column z)) n ≡ every_below (matches (drop i terms) xs) n
    factor_met xs z w l e =
        below_same (matches (drop (i + 1) terms) (set xs t.column z)) (matches (t ∷ drop (i + 1) terms) xs) n at
        ∙ sym (next_is (λ l. every_below (matches l xs) n))
      where
        at : (j : ℕ) → matches (drop (i + 1) terms) (set xs t.column z) j ≡ matches (t ∷ drop (i + 1) terms) xs j
        at j = elim (cases_eq t.column j) [
          | inl d ↦
              subst (λ k. matches (drop (i + 1) terms) (set xs t.column z) k ≡ matches (t ∷ drop (i + 1) terms) xs k) d
              (ap (λ q. eq_ℚ q (directed model (factor_of (drop (i + 1) terms) t.column))) (get_or-set_same xs t.column z zero_ℚ l ∙ w)
              ∙ ap (λ q. eq_ℚ zero_ℚ (directed model q)) (past t.column (drop (i + 1) terms) later)
              ∙ ap (λ q. eq_ℚ zero_ℚ q) (directed_zero model)
              ∙ same_number zero_ℚ
              ∙ sym e
              ∙ sym (ap (λ q. eq_ℚ (values_at xs t.column) (directed model q)) (own t (drop (i + 1) terms) later)))
          | inr d ↦
              ap (λ q. eq_ℚ q (directed model (factor_of (drop (i + 1) terms) j))) (get_or-set_other xs t.column j z zero_ℚ (λ p. d (sym p)))
              ∙ sym (ap (λ q. eq_ℚ (values_at xs j) (directed model q)) (other t (drop (i + 1) terms) j d))
        ]

  -- y is what is read of the sums, d the factor, and r whether they differ
  module _ (xs : List ℚ) (t : Term) (y d : ℚ) (r : Bool) (read : y ≡ values_at xs t.column) (factor : d ≡ directed model t.factor) (test : r ≡ not (eq_ℚ y d)) where
    pub is_test : r ≡ not (eq_ℚ (values_at xs t.column) (directed model t.factor))
    is_test = test ∙ ap (λ q. not (eq_ℚ q d)) read ∙ ap (λ q. not (eq_ℚ (values_at xs t.column) q)) factor

    pub differ : r ≡ true → eq_ℚ (values_at xs t.column) (directed model t.factor) ≡ false
    differ e = denied (eq_ℚ (values_at xs t.column) (directed model t.factor)) (sym is_test ∙ e)

    pub agree : r ≡ false → eq_ℚ (values_at xs t.column) (directed model t.factor) ≡ true
    agree e = granted (eq_ℚ (values_at xs t.column) (directed model t.factor)) (sym is_test ∙ e)

  -- the end of the terms
  pub factors_end : (n : ℕ) (terms : List Term) (i : ℕ) (xs : List ℚ) → length terms ≤ i → length xs ≡ n → every (λ q. eq_ℚ q zero_ℚ) xs ≡ every_below (matches (drop i terms) xs) n
  factors_end n terms i xs h e =
      zeros_are xs n (values_at xs) e (λ j. refl)
      ∙ below_same (λ j. eq_ℚ (values_at xs j) zero_ℚ) (matches [] xs) n (λ j. ap (λ q. eq_ℚ (values_at xs j) q) (sym (directed_zero model)))
      ∙ sym (ap (λ l. every_below (matches l xs) n) (drop_all i terms h))

-- the sums that are compared are those of the columns
pub columns_are : (xs : List ℚ) (n : ℕ) (sum factor : ℕ → ℚ) → ((j : ℕ) → values_at xs j ≡ sum j)
    → every_below (λ j. eq_ℚ (values_at xs j) (factor j)) n ≡ every_below (λ j. eq_ℚ (sum j) (factor j)) n
columns_are xs n sum factor h = below_same (λ j. eq_ℚ (values_at xs j) (factor j)) (λ j. eq_ℚ (sum j) (factor j)) n (λ j. ap (λ q. eq_ℚ q (factor j)) (h j))
