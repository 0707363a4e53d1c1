-- A tableau of a system stays one under a pivot.
use Rattle.std.proofs.Common.{◌≡◌, ◌↔◌, ◌++◌, ◌≢◌, ◌+◌, ◌-◌, ◌<◌, ◌≤◌, refl, sym, ◌∙◌, ap, subst, ℕ, zero, suc, Bool, true, false, true≢false, cond, not, ◌==◌, List, [], ◌∷◌, length, get_or, set, IsSome, arith, inl, inr, ne_eqb, eq-eqb}
use Rattle.std.proofs.lemmas.Bool.{cond-true, cond-false, cases_lt, cases_eq}
use Rattle.std.proofs.lemmas.List.{length-set, get_or-set_same, get_or-set_other, set_past}
use Rattle.std.proofs.lemmas.List.Elements.{filter-append}
use Rattle.algebra.proofs.Ring.{x0, x1, x2, x3, x4, x5, ◌:+◌, ◌:-◌, ◌:*◌, minus, zero_of, unit_of}
use Rattle.rational.specs.Rational.{ℚ, ◌+ℚ◌, ◌*ℚ◌, ◌/ℚ◌, neg_ℚ, inv_ℚ, zero_ℚ, one_ℚ}
use Rattle.rational.specs.Sum.{sum_over, sum_below}
use Rattle.rational.specs.Linear.{Assignment}
use Rattle.rational.proofs.Field.{ring_ℚ, ring_by_ℚ, ring_by2_ℚ, mul-inv_ℚ}
use Rattle.rational.proofs.Sums.{sum_over-append, sum_over-zero, sum_over-add, sum_over-scale, sum_below-ext}
use Rattle.lp_model.specs.declared.members.Side.{Side}
use Rattle.lp_model.specs.declared.members.Side.TheVariants.{Lo, Up}
use Rattle.certs.specs.System.{Limits, LinearSystem, no_limits, Place, is_basic, limit_on}
use Rattle.certs.specs.System.Place.{Basic, AtLower, AtUpper, AtZero}
use Rattle.certs.specs.Tableau.{Tableau, below, nonbasics, row_value, Solves, limits_at, place_of, IsPlaced, IsTableauOf, pivoted, TableLaw}
use Rattle.certs.specs.Turns.{at_limit, other_place, flipped, FlipLaw, exchanged, others, limited, CanPivot, IsPivoted, PivotLaw}

-- ---- sums over the numbers that pass
-- one more number, which passes or does not
one_more : (g : ℕ → ℚ) (n : ℕ) (b : Bool) → sum_over g (cond b (n ∷ []) []) ≡ cond b (g n) zero_ℚ
one_more g n true = ring_ℚ (g n ∷ []) (x0 :+ zero_of) x0 tt
one_more g n false = refl

pub sum_passing : (g : ℕ → ℚ) (n : ℕ) (test : ℕ → Bool) → sum_over g (below n test) ≡ sum_below n (λ k. cond (test k) (g k) zero_ℚ)
sum_passing g zero test = refl
sum_passing g (suc n) test =
    sum_over-append g (below n test) (cond (test n) (n ∷ []) [])
    ∙ ap (λ z. z +ℚ sum_over g (cond (test n) (n ∷ []) [])) (sum_passing g n test)
    ∙ ap (λ z. sum_below n (λ k. cond (test k) (g k) zero_ℚ) +ℚ z) (one_more g n (test n))

-- a sum over the others is a sum with one number put to 0
one_other : (g : ℕ → ℚ) (j n : ℕ) (b c : Bool) → (n == j) ≡ c → sum_over g (others j (cond b (n ∷ []) [])) ≡ cond b (cond c zero_ℚ (g n)) zero_ℚ
one_other g j n false c e = refl
one_other g j n true true e = ap (λ t. sum_over g (cond (not t) (n ∷ []) [])) e
one_other g j n true false e = ap (λ t. sum_over g (cond (not t) (n ∷ []) [])) e ∙ ring_ℚ (g n ∷ []) (x0 :+ zero_of) x0 tt

pub sum_others : (g : ℕ → ℚ) (j n : ℕ) (test : ℕ → Bool) → sum_over g (others j (below n test)) ≡ sum_below n (λ k. cond (test k) (cond (k == j) zero_ℚ (g k)) zero_ℚ)
sum_others g j zero test = refl
sum_others g j (suc n) test =
    ap (sum_over g) (filter-append (λ k. not (k == j)) (below n test) (cond (test n) (n ∷ []) []))
    ∙ sum_over-append g (others j (below n test)) (others j (cond (test n) (n ∷ []) []))
    ∙ ap (λ z. z +ℚ sum_over g (others j (cond (test n) (n ∷ []) []))) (sum_others g j n test)
    ∙ ap (λ z. sum_below n (λ k. cond (test k) (cond (k == j) zero_ℚ (g k)) zero_ℚ) +ℚ z) (one_other g j n (test n) (n == j) refl)

-- one term of a sum taken out
pub taken_out : (n j : ℕ) (h : ℕ → ℚ) → j < n → sum_below n h ≡ h j +ℚ sum_below n (λ k. cond (k == j) zero_ℚ (h k))
taken_out zero j h l = absurd (omega arith)
taken_out (suc n) j h l =
    elim (cases_eq n j) [
      | inl e ↦
          (let s : sum_below n h ≡ sum_below n (λ k. cond (k == j) zero_ℚ (h k)) = sum_below-ext n h (λ k. cond (k == j) zero_ℚ (h k)) (λ k m. sym (cond-false (k == j) zero_ℚ (h k) (ne_eqb k j (λ q. omega arith)))) in
          ap (λ z. z +ℚ h n) s
          ∙ ap (λ v. sum_below n (λ k. cond (k == j) zero_ℚ (h k)) +ℚ h v) e
          ∙ ring_ℚ (sum_below n (λ k. cond (k == j) zero_ℚ (h k)) ∷ h j ∷ []) (x0 :+ x1) (x1 :+ (x0 :+ zero_of)) tt
          ∙ ap (λ z. h j +ℚ (sum_below n (λ k. cond (k == j) zero_ℚ (h k)) +ℚ z)) (sym (cond-true (n == j) zero_ℚ (h n) (eq-eqb n j e))))
      | inr e ↦
          (ap (λ z. z +ℚ h n) (taken_out n j h (let g : j < n = omega arith in g))
          ∙ ring_ℚ (h j ∷ sum_below n (λ k. cond (k == j) zero_ℚ (h k)) ∷ h n ∷ []) ((x0 :+ x1) :+ x2) (x0 :+ (x1 :+ x2)) tt
          ∙ ap (λ z. h j +ℚ (sum_below n (λ k. cond (k == j) zero_ℚ (h k)) +ℚ z)) (sym (cond-false (n == j) zero_ℚ (h n) (ne_eqb n j e))))
    ]

-- ---- the basis after an exchange
unfoldable pub place_basic : Place → Bool
place_basic Basic = true
place_basic AtLower = false
place_basic AtUpper = false
place_basic AtZero = false

leaves : (side : Side) → place_basic (at_limit side) ≡ false
unfolding place_basic
leaves Lo = refl
leaves Up = refl

module _ (basis : List Place) (i j : ℕ) (side : Side) where
  pub exchanged-length : length (exchanged basis i side j) ≡ length basis
  exchanged-length = length-set (set basis i (at_limit side)) j Basic ∙ length-set basis i (at_limit side)

  pub exchanged-entering : j < length basis → is_basic (exchanged basis i side j) j ≡ true
  unfolding place_basic
  exchanged-entering l = ap place_basic (get_or-set_same (set basis i (at_limit side)) j Basic AtZero (subst (λ n. j < n) (sym (length-set basis i (at_limit side))) l))

  pub exchanged-leaving : i < length basis → i ≢ j → is_basic (exchanged basis i side j) i ≡ false
  unfolding place_basic
  exchanged-leaving l n = ap place_basic (get_or-set_other (set basis i (at_limit side)) j i Basic AtZero n ∙ get_or-set_same basis i (at_limit side) AtZero l) ∙ leaves side

  pub exchanged-place : (k : ℕ) → k ≢ i → k ≢ j → get_or (exchanged basis i side j) k AtZero ≡ get_or basis k AtZero
  exchanged-place k m n = get_or-set_other (set basis i (at_limit side)) j k Basic AtZero n ∙ get_or-set_other basis i k (at_limit side) AtZero m

  pub exchanged-other : (k : ℕ) → k ≢ i → k ≢ j → is_basic (exchanged basis i side j) k ≡ is_basic basis k
  unfolding place_basic
  exchanged-other k m n = ap place_basic (exchanged-place k m n)

pub basic_below : (basis : List Place) (k : ℕ) → is_basic basis k ≡ true → k < length basis
basic_below basis k e = elim (cases_lt k (length basis)) [ inl h ↦ h | inr h ↦ absurd (true≢false (sym e ∙ past basis k h)) ]
  where
    past : (basis : List Place) (k : ℕ) → length basis ≤ k → is_basic basis k ≡ false
    past [] k h = refl
    past (p ∷ basis) zero h = absurd (omega arith)
    past (p ∷ basis) (suc k) h = past basis k (omega arith)

-- ---- the sums before and after
module _ (basis : List Place) (i j : ℕ) (side : Side) (bi : is_basic basis i ≡ true) (bj : is_basic basis j ≡ false) (lj : j < length basis) where
  apart : i ≢ j
  apart e = true≢false (sym bi ∙ ap (is_basic basis) e ∙ bj)

  -- a sum over the nonbasic variables is one term and the others
  pub sum_before : (g : ℕ → ℚ) → sum_over g (nonbasics basis) ≡ g j +ℚ sum_over g (others j (nonbasics basis))
  sum_before g =
      let n : ℕ = length basis in
      let h : ℕ → ℚ = λ k. cond (not (is_basic basis k)) (g k) zero_ℚ in
      sum_passing g n (λ k. not (is_basic basis k))
      ∙ taken_out n j h lj
      ∙ ap (λ t. cond (not t) (g j) zero_ℚ +ℚ sum_below n (λ k. cond (k == j) zero_ℚ (h k))) bj
      ∙ ap (λ z. g j +ℚ z) (sum_below-ext n (λ k. cond (k == j) zero_ℚ (h k)) (λ k. cond (not (is_basic basis k)) (cond (k == j) zero_ℚ (g k)) zero_ℚ) (λ k l. swapped (k == j) (is_basic basis k) (g k))
      ∙ sym (sum_others g j n (λ k. not (is_basic basis k))))
    where
      swapped : (b c : Bool) (q : ℚ) → cond b zero_ℚ (cond (not c) q zero_ℚ) ≡ cond (not c) (cond b zero_ℚ q) zero_ℚ
      swapped true true q = refl
      swapped true false q = refl
      swapped false c q = refl

  -- and after the exchange the term of the variable that has left, and the same others
  pub sum_after : (g : ℕ → ℚ) → sum_over g (nonbasics (exchanged basis i side j)) ≡ g i +ℚ sum_over g (others j (nonbasics basis))
  sum_after g =
      let next : List Place = exchanged basis i side j in
      let n : ℕ = length basis in
      let h : ℕ → ℚ = λ k. cond (not (is_basic next k)) (g k) zero_ℚ in
      ap (λ m. sum_over g (below m (λ k. not (is_basic next k)))) (exchanged-length basis i j side)
      ∙ sum_passing g n (λ k. not (is_basic next k))
      ∙ taken_out n i h (basic_below basis i bi)
      ∙ ap (λ t. cond (not t) (g i) zero_ℚ +ℚ sum_below n (λ k. cond (k == i) zero_ℚ (h k))) (exchanged-leaving basis i j side (basic_below basis i bi) apart)
      ∙ ap (λ z. g i +ℚ z) (sum_below-ext n (λ k. cond (k == i) zero_ℚ (h k)) (λ k. cond (not (is_basic basis k)) (cond (k == j) zero_ℚ (g k)) zero_ℚ) (λ k l. same k)
      ∙ sym (sum_others g j n (λ k. not (is_basic basis k))))
    where
      at_entering : (b : Bool) (q : ℚ) → cond b zero_ℚ zero_ℚ ≡ cond b zero_ℚ zero_ℚ
      at_entering b q = refl

      both_zero : (b : Bool) → cond b zero_ℚ zero_ℚ ≡ zero_ℚ
      both_zero true = refl
      both_zero false = refl

      same : (k : ℕ) → cond (k == i) zero_ℚ (cond (not (is_basic (exchanged basis i side j) k)) (g k) zero_ℚ) ≡ cond (not (is_basic basis k)) (cond (k == j) zero_ℚ (g k)) zero_ℚ
      same k =
          elim (cases_eq k i) [
            | inl e ↦
                (cond-true (k == i) zero_ℚ _ (eq-eqb k i e)
                ∙ sym (ap (λ t. cond (not t) (cond (k == j) zero_ℚ (g k)) zero_ℚ) (ap (is_basic basis) e ∙ bi)))
            | inr e ↦
                (cond-false (k == i) zero_ℚ _ (ne_eqb k i e)
                ∙ elim (cases_eq k j) [
                  | inl d ↦
                      (ap (λ t. cond (not t) (g k) zero_ℚ) (ap (is_basic (exchanged basis i side j)) d ∙ exchanged-entering basis i j side lj)
                      ∙ sym (ap (λ t. cond (not (is_basic basis k)) t zero_ℚ) (cond-true (k == j) zero_ℚ (g k) (eq-eqb k j d)) ∙ both_zero (not (is_basic basis k))))
                  | inr d ↦
                      (ap (λ t. cond (not t) (g k) zero_ℚ) (exchanged-other basis i j side k e d)
                      ∙ sym (ap (λ t. cond (not (is_basic basis k)) t zero_ℚ) (cond-false (k == j) zero_ℚ (g k) (ne_eqb k j d))))
                ])
          ]

-- a sum over the nonbasic variables goes by what holds of them
pub sum_nonbasic : (basis : List Place) (f g : ℕ → ℚ) → ((k : ℕ) → k < length basis → is_basic basis k ≡ false → f k ≡ g k) → sum_over f (nonbasics basis) ≡ sum_over g (nonbasics basis)
sum_nonbasic basis f g same =
    sum_passing f (length basis) (λ k. not (is_basic basis k))
    ∙ sum_below-ext (length basis) (λ k. cond (not (is_basic basis k)) (f k) zero_ℚ) (λ k. cond (not (is_basic basis k)) (g k) zero_ℚ) (λ k l. by k l (is_basic basis k) refl)
    ∙ sym (sum_passing g (length basis) (λ k. not (is_basic basis k)))
  where
    by : (k : ℕ) → k < length basis → (b : Bool) → is_basic basis k ≡ b → cond (not b) (f k) zero_ℚ ≡ cond (not b) (g k) zero_ℚ
    by k l true e = refl
    by k l false e = same k l e

pub sum_other : (basis : List Place) (j : ℕ) (f g : ℕ → ℚ) → ((k : ℕ) → k < length basis → is_basic basis k ≡ false → k ≢ j → f k ≡ g k) → sum_over f (others j (nonbasics basis)) ≡ sum_over g (others j (nonbasics basis))
sum_other basis j f g same =
    sum_others f j (length basis) (λ k. not (is_basic basis k))
    ∙ sum_below-ext (length basis) (λ k. cond (not (is_basic basis k)) (cond (k == j) zero_ℚ (f k)) zero_ℚ) (λ k. cond (not (is_basic basis k)) (cond (k == j) zero_ℚ (g k)) zero_ℚ)
    (λ k l. by k l (is_basic basis k) refl)
    ∙ sym (sum_others g j (length basis) (λ k. not (is_basic basis k)))
  where
    within : (k : ℕ) → k < length basis → is_basic basis k ≡ false → cond (k == j) zero_ℚ (f k) ≡ cond (k == j) zero_ℚ (g k)
    within k l e =
        elim (cases_eq k j) [
          | inl d ↦ (cond-true (k == j) zero_ℚ (f k) (eq-eqb k j d) ∙ sym (cond-true (k == j) zero_ℚ (g k) (eq-eqb k j d)))
          | inr d ↦ (cond-false (k == j) zero_ℚ (f k) (ne_eqb k j d) ∙ same k l e d ∙ sym (cond-false (k == j) zero_ℚ (g k) (ne_eqb k j d)))
        ]

    by : (k : ℕ) → k < length basis → (b : Bool) → is_basic basis k ≡ b → cond (not b) (cond (k == j) zero_ℚ (f k)) zero_ℚ ≡ cond (not b) (cond (k == j) zero_ℚ (g k)) zero_ℚ
    by k l true e = refl
    by k l false e = within k l e

-- ---- a pivot
placed_at : (limits : Limits) (side : Side) → IsSome (limit_on limits side) → IsPlaced limits (at_limit side)
placed_at limits Lo h = h
placed_at limits Up h = h

module _ (system : LinearSystem) (t next : Tableau) (i : ℕ) (side : Side) (j : ℕ) (of : IsTableauOf system t) (can : CanPivot t i side j) (is : IsPivoted t next i side j) where
  abbrev p : ℚ
  p = t.factor i j

  -- the others' part of a row
  abbrev part : ℕ → Assignment → ℚ
  part r x = sum_over (λ k. t.factor r k *ℚ x k) (others j (nonbasics t.basis))

  i_not_j : i ≢ j
  i_not_j e = true≢false (sym can.basic ∙ ap (is_basic t.basis) e ∙ can.nonbasic)

  row_before : (r : ℕ) (x : Assignment) → row_value t r x ≡ t.factor r j *ℚ x j +ℚ part r x
  row_before r x = sum_before t.basis i j side can.basic can.nonbasic can.known (λ k. t.factor r k *ℚ x k)

  -- what is basic after
  entering_basic : is_basic next.basis j ≡ true
  entering_basic = ap (λ b. is_basic b j) is.basis ∙ exchanged-entering t.basis i j side can.known

  leaving_nonbasic : is_basic next.basis i ≡ false
  leaving_nonbasic = ap (λ b. is_basic b i) is.basis ∙ exchanged-leaving t.basis i j side (basic_below t.basis i can.basic) i_not_j

  other_basic : (r : ℕ) → r ≢ i → r ≢ j → is_basic next.basis r ≡ is_basic t.basis r
  other_basic r m n = ap (λ b. is_basic b r) is.basis ∙ exchanged-other t.basis i j side r m n

  same_length : length next.basis ≡ length t.basis
  same_length = ap length is.basis ∙ exchanged-length t.basis i j side

  leaving_known : i < length next.basis
  leaving_known = subst (λ n. i < n) (sym same_length) (basic_below t.basis i can.basic)

  row_after : (r : ℕ) (x : Assignment) → row_value next r x ≡ next.factor r i *ℚ x i +ℚ sum_over (λ k. next.factor r k *ℚ x k) (others j (nonbasics t.basis))
  row_after r x =
      ap (λ b. sum_over (λ k. next.factor r k *ℚ x k) (nonbasics b)) is.basis
      ∙ sum_after t.basis i j side can.basic can.nonbasic can.known (λ k. next.factor r k *ℚ x k)

  factor_at : (r k : ℕ) → is_basic next.basis r ≡ true → k < length t.basis → is_basic t.basis k ≡ false → k ≢ j → next.factor r k ≡ pivoted t.factor i j r k
  factor_at r k b l n d = is.factor r k b (subst (λ n. k < n) (sym same_length) l) (other_basic k (λ e. true≢false (sym can.basic ∙ ap (is_basic t.basis) (sym e) ∙ n)) d ∙ n)

  k_not_i : (k : ℕ) → is_basic t.basis k ≡ false → k ≢ i
  k_not_i k n e = true≢false (sym can.basic ∙ ap (is_basic t.basis) (sym e) ∙ n)

  -- the row of what enters
  row_entering : (x : Assignment) → row_value next j x ≡ (one_ℚ /ℚ p) *ℚ x i +ℚ neg_ℚ (inv_ℚ p) *ℚ part i x
  row_entering x =
      let first : next.factor j i ≡ one_ℚ /ℚ t.factor i j = is.factor j i entering_basic leaving_known leaving_nonbasic ∙ cond-true (j == j) _ _ (eq-eqb j j refl) ∙ cond-true (i == i) _ _ (eq-eqb i i refl) in
      row_after j x
      ∙ ap (λ z. z *ℚ x i +ℚ sum_over (λ k. next.factor j k *ℚ x k) (others j (nonbasics t.basis))) first
      ∙ ap (λ z. (one_ℚ /ℚ t.factor i j) *ℚ x i +ℚ z)
      (sum_other t.basis j (λ k. next.factor j k *ℚ x k) (λ k. neg_ℚ (inv_ℚ (t.factor i j)) *ℚ (t.factor i k *ℚ x k))
      (λ k l n d.
      ap (λ z. z *ℚ x k) (factor_at j k entering_basic l n d ∙ cond-true (j == j) _ _ (eq-eqb j j refl) ∙ cond-false (k == i) _ _ (ne_eqb k i (k_not_i k n)))
      ∙ ring_ℚ (t.factor i k ∷ inv_ℚ (t.factor i j) ∷ x k ∷ []) (minus (x0 :* x1) :* x2) (minus x1 :* (x0 :* x2)) tt)
      ∙ sum_over-scale (neg_ℚ (inv_ℚ (t.factor i j))) (λ k. t.factor i k *ℚ x k) (others j (nonbasics t.basis)))

  -- and another row
  row_other : (r : ℕ) (x : Assignment) → is_basic next.basis r ≡ true → r ≢ j → row_value next r x ≡ (t.factor r j *ℚ (one_ℚ /ℚ p)) *ℚ x i +ℚ (part r x +ℚ neg_ℚ (t.factor r j *ℚ inv_ℚ p) *ℚ part i x)
  row_other r x b m =
      let c : ℚ = neg_ℚ (t.factor r j *ℚ inv_ℚ (t.factor i j)) in
      let list : List ℕ = others j (nonbasics t.basis) in
      let first : next.factor r i ≡ t.factor r j *ℚ (one_ℚ /ℚ t.factor i j) = is.factor r i b leaving_known leaving_nonbasic ∙ cond-false (r == j) _ _ (ne_eqb r j m) ∙ cond-true (i == i) _ _ (eq-eqb i i refl) in
      row_after r x
      ∙ ap (λ z. z *ℚ x i +ℚ sum_over (λ k. next.factor r k *ℚ x k) list) first
      ∙ ap (λ z. (t.factor r j *ℚ (one_ℚ /ℚ t.factor i j)) *ℚ x i +ℚ z)
      (sum_other t.basis j (λ k. next.factor r k *ℚ x k) (λ k. (t.factor r k *ℚ x k) +ℚ (c *ℚ (t.factor i k *ℚ x k)))
      (λ k l n d.
      ap (λ z. z *ℚ x k) (factor_at r k b l n d ∙ cond-false (r == j) _ _ (ne_eqb r j m) ∙ cond-false (k == i) _ _ (ne_eqb k i (k_not_i k n)))
      ∙ ring_ℚ (t.factor r k ∷ t.factor r j ∷ t.factor i k ∷ inv_ℚ (t.factor i j) ∷ x k ∷ []) ((x0 :+ minus (x1 :* (x2 :* x3))) :* x4) ((x0 :* x4) :+ (minus (x1 :* x3) :* (x2 :* x4))) tt)
      ∙ sum_over-add (λ k. t.factor r k *ℚ x k) (λ k. c *ℚ (t.factor i k *ℚ x k)) list
      ∙ ap (λ z. sum_over (λ k. t.factor r k *ℚ x k) list +ℚ z) (sum_over-scale c (λ k. t.factor i k *ℚ x k) list))

  -- the two forms of the pivot's own row say the same
  solved_entering : (x : Assignment) → x i ≡ p *ℚ x j +ℚ part i x → x j ≡ (one_ℚ /ℚ p) *ℚ x i +ℚ neg_ℚ (inv_ℚ p) *ℚ part i x
  solved_entering x s =
      ring_by2_ℚ (t.factor i j ∷ inv_ℚ (t.factor i j) ∷ x j ∷ part i x ∷ x i ∷ []) x2 ((unit_of :* x1) :* x4 :+ minus x1 :* x3) (minus x2) (x0 :* x1) unit_of (minus x1) x4 (x0 :* x2 :+ x3)
      (mul-inv_ℚ (t.factor i j) can.nonzero) s tt

  solved_leaving : (x : Assignment) → x j ≡ (one_ℚ /ℚ p) *ℚ x i +ℚ neg_ℚ (inv_ℚ p) *ℚ part i x → x i ≡ p *ℚ x j +ℚ part i x
  solved_leaving x s =
      ring_by2_ℚ (t.factor i j ∷ inv_ℚ (t.factor i j) ∷ x j ∷ part i x ∷ x i ∷ []) x4 (x0 :* x2 :+ x3) (minus (x4 :- x3)) (x0 :* x1) unit_of (minus x0) x2 ((unit_of :* x1) :* x4 :+ minus x1 :* x3)
      (mul-inv_ℚ (t.factor i j) can.nonzero) s tt

  other_same : (r : ℕ) (x : Assignment) → x j ≡ (one_ℚ /ℚ p) *ℚ x i +ℚ neg_ℚ (inv_ℚ p) *ℚ part i x
      → t.factor r j *ℚ x j +ℚ part r x ≡ (t.factor r j *ℚ (one_ℚ /ℚ p)) *ℚ x i +ℚ (part r x +ℚ neg_ℚ (t.factor r j *ℚ inv_ℚ p) *ℚ part i x)
  other_same r x s =
      ring_by_ℚ (t.factor r j ∷ inv_ℚ (t.factor i j) ∷ x j ∷ part i x ∷ x i ∷ part r x ∷ []) (x0 :* x2 :+ x5) ((x0 :* (unit_of :* x1)) :* x4 :+ (x5 :+ minus (x0 :* x1) :* x3)) x0 x2 ((unit_of :* x1) :* x4 :+ minus x1 :* x3) s tt

  forward : (x : Assignment) → Solves t x → Solves next x
  forward x s r b =
      let e : x j ≡ (one_ℚ /ℚ p) *ℚ x i +ℚ neg_ℚ (inv_ℚ p) *ℚ part i x = solved_entering x (s i can.basic ∙ at_pivot x) in
      elim (cases_eq r j) [
        | inl h ↦ subst (λ v. x v ≡ row_value next v x) (sym h) (e ∙ sym (row_entering x))
        | inr h ↦
            (let old : is_basic t.basis r ≡ true = sym (other_basic r (λ d. true≢false (sym b ∙ ap (is_basic next.basis) d ∙ leaving_nonbasic)) h) ∙ b in
            s r old ∙ row_before r x ∙ other_same r x e ∙ sym (row_other r x b h))
      ]
    where
      at_pivot : (x : Assignment) → row_value t i x ≡ p *ℚ x j +ℚ part i x
      at_pivot x = row_before i x

  backward : (x : Assignment) → Solves next x → Solves t x
  backward x s r b =
      let e : x j ≡ (one_ℚ /ℚ p) *ℚ x i +ℚ neg_ℚ (inv_ℚ p) *ℚ part i x = s j entering_basic ∙ row_entering x in
      elim (cases_eq r i) [
        | inl h ↦ subst (λ v. x v ≡ row_value t v x) (sym h) (solved_leaving x e ∙ sym (at_pivot x))
        | inr h ↦
            (let not_j : r ≢ j = λ d. true≢false (sym b ∙ ap (is_basic t.basis) d ∙ can.nonbasic) in
            let new : is_basic next.basis r ≡ true = other_basic r h not_j ∙ b in
            s r new ∙ row_other r x new not_j ∙ sym (other_same r x e) ∙ sym (row_before r x))
      ]
    where
      at_pivot : (x : Assignment) → row_value t i x ≡ p *ℚ x j +ℚ part i x
      at_pivot x = row_before i x

  placed_after : (v : ℕ) → IsPlaced (limits_at next v) (place_of next v)
  placed_after v =
      subst (λ l. IsPlaced (get_or l v no_limits) (place_of next v)) (sym is.limits)
      (subst (λ b. IsPlaced (limits_at t v) (get_or b v AtZero)) (sym is.basis)
      (elim (cases_eq v j) [
        | inl h ↦
            subst (λ w. IsPlaced (limits_at t v) w) (sym (ap (λ w. get_or (exchanged t.basis i side j) w AtZero) h ∙ get_or-set_same (set t.basis i (at_limit side)) j Basic AtZero (subst (λ n. j < n) (sym (length-set t.basis i (at_limit side))) can.known))) tt
        | inr h ↦
            elim (cases_eq v i) [
              | inl e ↦
                  (let here : get_or (exchanged t.basis i side j) v AtZero ≡ at_limit side = get_or-set_other (set t.basis i (at_limit side)) j v Basic AtZero h ∙ ap (λ w. get_or (set t.basis i (at_limit side)) w AtZero) e ∙ get_or-set_same t.basis i (at_limit side) AtZero (basic_below t.basis i can.basic) in
                  subst (λ w. IsPlaced (limits_at t v) w) (sym here) (placed_at (limits_at t v) side (subst (λ w. IsSome (limit_on (limits_at t w) side)) (sym e) can.there)))
              | inr e ↦ subst (λ w. IsPlaced (limits_at t v) w) (sym (exchanged-place t.basis i j side v e h)) (of.placed v)
            ]
      ]))

  objective_after : IsSome system.objective → is_basic next.basis (length system.columns + length system.rows) ≡ true
  objective_after some =
      let o : ℕ = length system.columns + length system.rows in
      let before : is_basic t.basis o ≡ true = of.objective_basic some in
      let n : length t.basis ≡ o + 1 = of.size ∙ ap (λ b. o + cond b 1 0) some in
      let limited_is : limited t ≡ length t.basis - 1 = ap (λ b. cond b (length t.basis - 1) (length t.basis)) (of.objective ∙ some) in
      let not_i : o ≢ i = λ e. absurd (clash o (length t.basis) (limited t) n limited_is can.limited e) in
      elim (cases_eq o j) [
        | inl h ↦ subst (λ v. is_basic next.basis v ≡ true) (sym h) entering_basic
        | inr h ↦ (other_basic o not_i h ∙ before)
      ]
    where
      clash : (o n m : ℕ) → n ≡ o + 1 → m ≡ n - 1 → i < m → o ≡ i → ⊥
      clash o n m a b c d = omega arith

  pub pivot_of : IsTableauOf system next
  pivot_of = record {
    limits = is.limits ∙ of.limits;
    objective = is.objective ∙ of.objective;
    size = same_length ∙ of.size;
    objective_basic = objective_after;
    placed = placed_after;
    table = λ x. (λ k. forward x ((of.table x).0 k), λ s. (of.table x).1 (backward x s));
  }

pub pivot_law : PivotLaw
pivot_law system t next i side j of can is = pivot_of system t next i side j of can is

-- ---- one table
module _ (system : LinearSystem) (t u : Tableau) (of : IsTableauOf system t) (also : IsTableauOf system u) (same : t.basis ≡ u.basis) (k : ℕ) (l : k < length t.basis) (n : is_basic t.basis k ≡ false) where
  -- the assignment at which the nonbasic variables are 0 but k, which is 1
  at_one : Assignment
  at_one v = cond (is_basic t.basis v) (t.factor v k) (cond (v == k) one_ℚ zero_ℚ)

  only : (b : List Place) (f : ℕ → ℕ → ℚ) (i : ℕ) → is_basic b i ≡ true → k < length b → is_basic b k ≡ false → t.basis ≡ b → sum_over (λ m. f i m *ℚ at_one m) (nonbasics b) ≡ f i k
  unfolding at_one
  only b f i bi lk nk e =
      sum_before b i k Lo bi nk lk (λ m. f i m *ℚ at_one m)
      ∙ ap (λ z. f i k *ℚ z +ℚ sum_over (λ m. f i m *ℚ at_one m) (others k (nonbasics b))) (cond-false (is_basic t.basis k) _ _ n ∙ cond-true (k == k) one_ℚ zero_ℚ (eq-eqb k k refl))
      ∙ ap (λ z. f i k *ℚ one_ℚ +ℚ z)
      (sum_other b k (λ m. f i m *ℚ at_one m) (λ m. zero_ℚ)
      (λ m lm nm d.
      ap (λ z. f i m *ℚ z) (cond-false (is_basic t.basis m) _ _ (ap (λ b. is_basic b m) e ∙ nm) ∙ cond-false (m == k) one_ℚ zero_ℚ (ne_eqb m k d))
      ∙ ring_ℚ (f i m ∷ []) (x0 :* zero_of) zero_of tt)
      ∙ sum_over-zero (others k (nonbasics b)))
      ∙ ring_ℚ (f i k ∷ []) (x0 :* unit_of :+ zero_of) x0 tt

  pub one_factor : (i : ℕ) → is_basic t.basis i ≡ true → t.factor i k ≡ u.factor i k
  unfolding at_one
  one_factor i b =
      let solves : Solves t at_one = λ r br. cond-true (is_basic t.basis r) _ _ br ∙ sym (only t.basis t.factor r br l n refl) in
      let too : Solves u at_one = (also.table at_one).0 ((of.table at_one).1 solves) in
      sym (cond-true (is_basic t.basis i) _ _ b)
      ∙ too i (ap (λ b. is_basic b i) (sym same) ∙ b)
      ∙ only u.basis u.factor i (ap (λ b. is_basic b i) (sym same) ∙ b) (subst (λ b. k < length b) same l) (ap (λ b. is_basic b k) (sym same) ∙ n) same

pub table_law : TableLaw
table_law system t u of also same i k b l n = one_factor system t u of also same k l n i b

-- ---- a flip
other_nonbasic : (p : Place) → place_basic (other_place p) ≡ place_basic p
unfolding place_basic
other_nonbasic Basic = refl
other_nonbasic AtLower = refl
other_nonbasic AtUpper = refl
other_nonbasic AtZero = refl

placed_other : (limits : Limits) (p : Place) → IsSome limits.lower → IsSome limits.upper → IsPlaced limits p → IsPlaced limits (other_place p)
placed_other limits Basic l u h = tt
placed_other limits AtLower l u h = u
placed_other limits AtUpper l u h = l
placed_other limits AtZero l u h = h

module _ (system : LinearSystem) (t : Tableau) (k : ℕ) (of : IsTableauOf system t) (n : is_basic t.basis k ≡ false) (l : IsSome (limits_at t k).lower) (u : IsSome (limits_at t k).upper) where
  abbrev turned : List Place
  turned = set t.basis k (other_place (place_of t k))

  turned-long : length turned ≡ length t.basis
  turned-long = length-set t.basis k (other_place (place_of t k))

  turned-past : length t.basis ≤ k → turned ≡ t.basis
  turned-past h = set_past t.basis k (other_place (place_of t k)) h

  turned-basic : (v : ℕ) → is_basic turned v ≡ is_basic t.basis v
  unfolding place_basic
  turned-basic v =
      elim (cases_lt k (length t.basis)) [
        | inl h ↦
            elim (cases_eq v k) [
              | inl e ↦ (ap (is_basic turned) e ∙ ap place_basic (get_or-set_same t.basis k (other_place (place_of t k)) AtZero h) ∙ other_nonbasic (place_of t k) ∙ ap (is_basic t.basis) (sym e))
              | inr e ↦ ap place_basic (get_or-set_other t.basis k v (other_place (place_of t k)) AtZero e)
            ]
        | inr h ↦ ap (λ b. is_basic b v) (turned-past h)
      ]

  same_test : (n : ℕ) (f g : ℕ → Bool) → ((v : ℕ) → f v ≡ g v) → below n f ≡ below n g
  same_test zero f g h = refl
  same_test (suc n) f g h = ap (λ b. below n f ++ cond b (n ∷ []) []) (h n) ∙ ap (λ l. l ++ cond (g n) (n ∷ []) []) (same_test n f g h)

  turned-nonbasics : nonbasics turned ≡ nonbasics t.basis
  turned-nonbasics = ap (λ n. below n (λ v. not (is_basic turned v))) turned-long ∙ same_test (length t.basis) (λ v. not (is_basic turned v)) (λ v. not (is_basic t.basis v)) (λ v. ap not (turned-basic v))

  solves_turned : (x : Assignment) → Solves t x ↔ Solves (flipped t k) x
  solves_turned x = (
    λ s i b. s i (sym (turned-basic i) ∙ b) ∙ ap (λ l. sum_over (λ v. t.factor i v *ℚ x v) l) (sym turned-nonbasics),
    λ s i b. s i (turned-basic i ∙ b) ∙ ap (λ l. sum_over (λ v. t.factor i v *ℚ x v) l) turned-nonbasics,
  )

  turned-placed : (v : ℕ) → IsPlaced (limits_at t v) (get_or turned v AtZero)
  turned-placed v =
      elim (cases_lt k (length t.basis)) [
        | inl h ↦
            elim (cases_eq v k) [
              | inl e ↦
                  subst (λ w. IsPlaced (limits_at t w) (get_or turned w AtZero)) (sym e)
                  (subst (λ p. IsPlaced (limits_at t k) p) (sym (get_or-set_same t.basis k (other_place (place_of t k)) AtZero h)) (placed_other (limits_at t k) (place_of t k) l u (of.placed k)))
              | inr e ↦ subst (λ p. IsPlaced (limits_at t v) p) (sym (get_or-set_other t.basis k v (other_place (place_of t k)) AtZero e)) (of.placed v)
            ]
        | inr h ↦ subst (λ b. IsPlaced (limits_at t v) (get_or b v AtZero)) (sym (turned-past h)) (of.placed v)
      ]

  pub flip_of : IsTableauOf system (flipped t k)
  flip_of = record {
    limits = of.limits;
    objective = of.objective;
    size = turned-long ∙ of.size;
    objective_basic = λ some. turned-basic (length system.columns + length system.rows) ∙ of.objective_basic some;
    placed = turned-placed;
    table = λ x. (λ k. (solves_turned x).0 ((of.table x).0 k), λ s. (of.table x).1 ((solves_turned x).1 s));
  }

pub flip_law : FlipLaw
flip_law system t k of n l u = flip_of system t k of n l u

-- ---- a tableau goes by its limits, its basis and its factors
pub same_of : (system : LinearSystem) (t u : Tableau) → u.limits ≡ t.limits → u.objective ≡ t.objective → u.basis ≡ t.basis
    → ((i k : ℕ) → is_basic t.basis i ≡ true → k < length t.basis → is_basic t.basis k ≡ false → u.factor i k ≡ t.factor i k) → IsTableauOf system t → IsTableauOf system u
same_of system t u el eo eb ef of = record {
  limits = el ∙ of.limits;
  objective = eo ∙ of.objective;
  size = ap length eb ∙ of.size;
  objective_basic = λ some. ap (λ b. is_basic b (length system.columns + length system.rows)) eb ∙ of.objective_basic some;
  placed = λ v. subst (λ l. IsPlaced (get_or l v no_limits) (get_or u.basis v AtZero)) (sym el) (subst (λ b. IsPlaced (limits_at t v) (get_or b v AtZero)) (sym eb) (of.placed v));
  table = λ x. (λ k. forward x ((of.table x).0 k), λ s. (of.table x).1 (backward x s));
}
  where
    row : (x : Assignment) (i : ℕ) → is_basic t.basis i ≡ true → row_value u i x ≡ row_value t i x
    row x i b = ap (λ l. sum_over (λ k. u.factor i k *ℚ x k) (nonbasics l)) eb ∙ sum_nonbasic t.basis (λ k. u.factor i k *ℚ x k) (λ k. t.factor i k *ℚ x k) (λ k l n. ap (λ z. z *ℚ x k) (ef i k b l n))

    forward : (x : Assignment) → Solves t x → Solves u x
    forward x s i b = (let c : is_basic t.basis i ≡ true = ap (λ z. is_basic z i) (sym eb) ∙ b in s i c ∙ sym (row x i c))

    backward : (x : Assignment) → Solves u x → Solves t x
    backward x s i b = s i (ap (λ z. is_basic z i) eb ∙ b) ∙ row x i b
