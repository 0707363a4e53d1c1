-- Sums below a bound that differ at a few places.
use Rattle.std.proofs.Common.{◌≡◌, ◌≢◌, ◌+◌, ◌<◌, refl, sym, ◌∙◌, ap, subst, ℕ, zero, suc, Bool, true, false, cond, ◌==◌, ltb, List, [], ◌∷◌, length, get_or, arith, inl, inr, eq-eqb, ne_eqb, lt-ltb}
use Rattle.std.specs.Prelude.{All}
use Rattle.std.proofs.lemmas.Bool.{cases_eq, cond-true, cond-false, le-ltb}
use Rattle.std.proofs.lemmas.List.Elements.{All-head, All-tail, All-nil, All-cons, All-weaker}
use Rattle.rational.specs.Rational.{ℚ, ◌+ℚ◌, ◌-ℚ◌, ◌*ℚ◌, zero_ℚ, one_ℚ, eq_ℚ, ◌≤ℚ◌}
use Rattle.rational.specs.Sum.{sum_over, sum_below}
use Rattle.rational.specs.Linear.{factor_of}
use Rattle.rational.proofs.Field.{ring_ℚ, x0, x1, x2, ◌:+◌, ◌:-◌, ◌:*◌, zero_of, unit_of}
use Rattle.rational.proofs.Compare.{eq-Decides}
use Rattle.rational.proofs.Order.{le_refl_ℚ, le_by, nonneg_of_le, nonneg_is, nonneg-add}
use Rattle.rational.proofs.Sums.{sum_below-ext, sum_below-add, sum_below-one, sum_below-zero, sum_below-split}
use Rattle.certs.specs.System.{SystemRow, empty_system_row}
use Rattle.reductions.specs.declared.steps.Change.{Change}
use Rattle.reductions.specs.Rules.{changes_from}

-- ---- one place
sum_below-spike : (n c : ℕ) (e : ℚ) → c < n → sum_below n (λ j. cond (c == j) e zero_ℚ) ≡ e
sum_below-spike n c e l =
    sum_below-ext n (λ j. cond (c == j) e zero_ℚ) (λ j. cond (c == j) e zero_ℚ *ℚ one_ℚ) (λ j h. ring_ℚ (cond (c == j) e zero_ℚ ∷ []) x0 (x0 :* unit_of) tt)
    ∙ sum_below-one n c e (λ j. one_ℚ) l
    ∙ ring_ℚ (e ∷ []) (x0 :* unit_of) x0 tt

-- a sum that differs from another at one place
pub sum_below-place : (n p : ℕ) (f g : ℕ → ℚ) → p < n → ((v : ℕ) → v < n → v ≢ p → f v ≡ g v) → sum_below n f ≡ sum_below n g +ℚ (f p -ℚ g p)
sum_below-place n p f g l h =
    sum_below-ext n f (λ v. g v +ℚ cond (p == v) (f p -ℚ g p) zero_ℚ) at
    ∙ sum_below-add n g (λ v. cond (p == v) (f p -ℚ g p) zero_ℚ)
    ∙ ap (λ z. sum_below n g +ℚ z) (sum_below-spike n p (f p -ℚ g p) l)
  where
    at : (v : ℕ) → v < n → f v ≡ g v +ℚ cond (p == v) (f p -ℚ g p) zero_ℚ
    at v k =
        elim (cases_eq v p) [
          | inl e ↦ subst (λ z. f z ≡ g z +ℚ cond (p == z) (f p -ℚ g p) zero_ℚ) (sym e)
              (ring_ℚ (f p ∷ g p ∷ []) x0 (x1 :+ (x0 :- x1)) tt ∙ ap (λ z. g p +ℚ z) (sym (cond-true (p == p) (f p -ℚ g p) zero_ℚ (eq-eqb p p refl))))
          | inr e ↦ h v k e ∙ ring_ℚ (g v ∷ []) x0 (x0 :+ zero_of) tt ∙ ap (λ z. g v +ℚ z) (sym (cond-false (p == v) (f p -ℚ g p) zero_ℚ (ne_eqb p v (λ q. e (sym q)))))
        ]

-- ---- several places
-- the number is the place of none of them
abbrev pub IsOutside : {A : Type 0} → (A → ℕ) → ℕ → List A → Type 0
IsOutside place v [] = Unit {0}
IsOutside place v (a ∷ rest) = (v ≢ place a) × IsOutside place v rest

-- their places are below n and apart
abbrev pub AreApart : {A : Type 0} → (A → ℕ) → ℕ → List A → Type 0
AreApart place n [] = Unit {0}
AreApart place n (a ∷ rest) = (place a < n) × (IsOutside place (place a) rest × AreApart place n rest)

patched : {A : Type 0} (place : A → ℕ) (p : ℕ) (f g : ℕ → ℚ) (xs : List A) → IsOutside place p xs
    → sum_over (λ a. f (place a) -ℚ cond (place a == p) (f (place a)) (g (place a))) xs ≡ sum_over (λ a. f (place a) -ℚ g (place a)) xs
patched place p f g [] h = refl
patched place p f g (a ∷ xs) h =
    ap (λ z. (f (place a) -ℚ z) +ℚ sum_over (λ a. f (place a) -ℚ cond (place a == p) (f (place a)) (g (place a))) xs)
    (cond-false (place a == p) (f (place a)) (g (place a)) (ne_eqb (place a) p (λ q. h.0 (sym q))))
    ∙ ap (λ z. (f (place a) -ℚ g (place a)) +ℚ z) (patched place p f g xs h.1)

-- a sum that differs from another at these places
pub sum_below-places : {A : Type 0} (place : A → ℕ) (n : ℕ) (xs : List A) → AreApart place n xs → (f g : ℕ → ℚ)
    → ((v : ℕ) → v < n → IsOutside place v xs → f v ≡ g v) → sum_below n f ≡ sum_below n g +ℚ sum_over (λ a. f (place a) -ℚ g (place a)) xs
sum_below-places place n [] apart f g h = sum_below-ext n f g (λ v l. h v l tt) ∙ ring_ℚ (sum_below n g ∷ []) x0 (x0 :+ zero_of) tt
sum_below-places place n (a ∷ xs) apart f g h =
    sum_below-places place n xs apart.1.1 f (λ v. cond (v == place a) (f v) (g v)) other
    ∙ ap (λ z. z +ℚ sum_over (λ b. f (place b) -ℚ cond (place b == place a) (f (place b)) (g (place b))) xs)
    (sum_below-place n (place a) (λ v. cond (v == place a) (f v) (g v)) g apart.0 (λ v l e. cond-false (v == place a) (f v) (g v) (ne_eqb v (place a) e))
    ∙ ap (λ z. sum_below n g +ℚ (z -ℚ g (place a))) (cond-true (place a == place a) (f (place a)) (g (place a)) (eq-eqb (place a) (place a) refl)))
    ∙ ap (λ z. (sum_below n g +ℚ (f (place a) -ℚ g (place a))) +ℚ z) (patched place (place a) f g xs apart.1.0)
    ∙ ring_ℚ (sum_below n g ∷ (f (place a) -ℚ g (place a)) ∷ sum_over (λ b. f (place b) -ℚ g (place b)) xs ∷ []) ((x0 :+ x1) :+ x2) (x0 :+ (x1 :+ x2)) tt
  where
    other : (v : ℕ) → v < n → IsOutside place v xs → f v ≡ cond (v == place a) (f v) (g v)
    other v l o =
        elim (cases_eq v (place a)) [
          | inl e ↦ sym (cond-true (v == place a) (f v) (g v) (eq-eqb v (place a) e))
          | inr e ↦ h v l (e, o) ∙ sym (cond-false (v == place a) (f v) (g v) (ne_eqb v (place a) e))
        ]

-- ---- sums over the rows that are changed
pub sum_below-front : (n : ℕ) (f : ℕ → ℚ) → sum_below (suc n) f ≡ f 0 +ℚ sum_below n (λ j. f (suc j))
sum_below-front zero f = ring_ℚ (f 0 ∷ []) (zero_of :+ x0) (x0 :+ zero_of) tt
sum_below-front (suc n) f =
    ap (λ z. z +ℚ f (suc n)) (sum_below-front n f)
    ∙ ring_ℚ (f 0 ∷ sum_below n (λ j. f (suc j)) ∷ f (suc n) ∷ []) ((x0 :+ x1) :+ x2) (x0 :+ (x1 :+ x2)) tt

-- what stands of a row, where nothing is listed for a factor 0
pub changes-sum : (j : ℕ) (f : ℚ → ℚ) (h : ℕ → ℚ) → f zero_ℚ ≡ zero_ℚ → (k : ℕ) (rows : List SystemRow)
    → sum_over (λ (c : Change). c.factor *ℚ h c.row) (changes_from j f k rows) ≡ sum_below (length rows) (λ r. f (factor_of (get_or rows r empty_system_row).terms j) *ℚ h (k + r))
changes-sum j f h z k [] = refl
changes-sum j f h z k (row ∷ rows) =
    by (eq_ℚ (factor_of row.terms j) zero_ℚ) refl
    ∙ ap (λ s. f (factor_of row.terms j) *ℚ h k +ℚ s)
    (changes-sum j f h z (suc k) rows
    ∙ sum_below-ext (length rows) (λ r. f (factor_of (get_or rows r empty_system_row).terms j) *ℚ h (suc k + r)) (λ r. f (factor_of (get_or rows r empty_system_row).terms j) *ℚ h (k + suc r))
    (λ r l. ap (λ i. f (factor_of (get_or rows r empty_system_row).terms j) *ℚ h i) (let e : suc k + r ≡ k + suc r = omega arith in e)))
    ∙ ap (λ i. f (factor_of row.terms j) *ℚ h i +ℚ sum_below (length rows) (λ r. f (factor_of (get_or rows r empty_system_row).terms j) *ℚ h (k + suc r))) (let e : k ≡ k + 0 = omega arith in e)
    ∙ sym (sum_below-front (length rows) (λ r. f (factor_of (get_or (row ∷ rows) r empty_system_row).terms j) *ℚ h (k + r)))
  where
    by : (b : Bool) → eq_ℚ (factor_of row.terms j) zero_ℚ ≡ b
        → sum_over (λ (c : Change). c.factor *ℚ h c.row) (cond b (changes_from j f (suc k) rows) (record { row = k; factor = f (factor_of row.terms j) } ∷ changes_from j f (suc k) rows))
        ≡ f (factor_of row.terms j) *ℚ h k +ℚ sum_over (λ (c : Change). c.factor *ℚ h c.row) (changes_from j f (suc k) rows)
    by true e =
        ring_ℚ (h k ∷ sum_over (λ (c : Change). c.factor *ℚ h c.row) (changes_from j f (suc k) rows) ∷ []) x1 (zero_of :* x0 :+ x1) tt
        ∙ ap (λ s. s *ℚ h k +ℚ sum_over (λ (c : Change). c.factor *ℚ h c.row) (changes_from j f (suc k) rows)) (sym z ∙ ap f (sym ((eq-Decides (factor_of row.terms j) zero_ℚ).0 e)))
    by false e = refl

-- a sum of what stands at the rows alone, which come after n columns
pub sum_below-rows : (n m : ℕ) (f : ℕ → ℚ) → sum_below (n + m) (λ v. cond (ltb v n) zero_ℚ (f v)) ≡ sum_below m (λ r. f (n + r))
sum_below-rows n m f =
    sum_below-split n m (λ v. cond (ltb v n) zero_ℚ (f v))
    ∙ ap (λ z. z +ℚ sum_below m (λ r. cond (ltb (n + r) n) zero_ℚ (f (n + r))))
    (sum_below-ext n (λ v. cond (ltb v n) zero_ℚ (f v)) (λ v. zero_ℚ) (λ v l. cond-true (ltb v n) zero_ℚ (f v) (lt-ltb v n l)) ∙ sum_below-zero n)
    ∙ ap (λ z. zero_ℚ +ℚ z)
    (sum_below-ext m (λ r. cond (ltb (n + r) n) zero_ℚ (f (n + r))) (λ r. f (n + r)) (λ r l. cond-false (ltb (n + r) n) zero_ℚ (f (n + r)) (le-ltb (n + r) n (omega arith))))
    ∙ ring_ℚ (sum_below m (λ r. f (n + r)) ∷ []) (zero_of :+ x0) x0 tt

-- ---- sums of what is not below 0
-- one part is at most the sum, where no part of an element of the list is below 0
pub part_le : {A : Type 0} (P : A → Type 0) (f : A → ℚ) → ((a : A) → P a → zero_ℚ ≤ℚ f a) → (xs : List A) → All P xs → (zero_ℚ ≤ℚ sum_over f xs) × All (λ a. f a ≤ℚ sum_over f xs) xs
part_le P f h [] k = (le_refl_ℚ zero_ℚ, All-nil (λ a. f a ≤ℚ sum_over f []))
part_le P f h (x ∷ xs) k =
    let rest : (zero_ℚ ≤ℚ sum_over f xs) × All (λ a. f a ≤ℚ sum_over f xs) xs = part_le P f h xs (All-tail P x xs k) in
    let own : zero_ℚ ≤ℚ f x = h x (All-head P x xs k) in (
      le_by (f x ∷ sum_over f xs ∷ []) zero_of (x0 :+ x1) (x0 :+ x1) (nonneg-add (nonneg_is.0 own) (nonneg_is.0 rest.0)) tt,
      All-cons (λ a. f a ≤ℚ f x +ℚ sum_over f xs) x xs (le_by (f x ∷ sum_over f xs ∷ []) x0 (x0 :+ x1) x1 (nonneg_is.0 rest.0) tt)
          (All-weaker (λ a. f a ≤ℚ sum_over f xs) (λ a. f a ≤ℚ f x +ℚ sum_over f xs)
          (λ a l. le_by (f a ∷ f x ∷ sum_over f xs ∷ []) x0 (x1 :+ x2) (x1 :+ (x2 :- x0)) (nonneg-add (nonneg_is.0 own) (nonneg_of_le l)) tt) xs rest.1),
    )
