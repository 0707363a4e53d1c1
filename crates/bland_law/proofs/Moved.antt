-- Values where one nonbasic variable moves and the basic ones go with it; and how far it may go.
use Rattle.std.proofs.Common.{◌≡◌, ◌≢◌, ◌⊎◌, ◌<◌, refl, sym, ◌∙◌, ap, subst, ℕ, Bool, true, false, true≢false, cond, not, ◌==◌, ◌&&◌, [], ◌∷◌, length, Option, None, Some, inl, inr, ne_eqb, eq-eqb}
use Rattle.std.proofs.lemmas.Bool.{cond-true, cond-false, and_parts, or_cases}
use Rattle.algebra.proofs.Ring.{x0, x1, x2, x3, ◌:+◌, ◌:-◌, ◌:*◌, minus, zero_of, unit_of}
use Rattle.rational.specs.Rational.{ℚ, ◌+ℚ◌, ◌-ℚ◌, ◌*ℚ◌, ◌/ℚ◌, inv_ℚ, neg_ℚ, zero_ℚ, one_ℚ, ◌≤ℚ◌, ◌<ℚ◌, lt_q}
use Rattle.rational.specs.Sum.{sum_over}
use Rattle.rational.proofs.Compare.{lt_q-Decides}
use Rattle.rational.proofs.Field.{ring_ℚ, mul-inv_ℚ}
use Rattle.rational.proofs.Order.{le_by, lt_by, le_of_lt_ℚ, le_or_lt_ℚ, nonneg_of_le, positive_of_lt, positive_is, positive-mul, lt_q-true, lt_q-false, lt-le_clash_ℚ, lt_irrefl_ℚ}
use Rattle.lp_model.specs.declared.members.Side.{Side}
use Rattle.lp_model.specs.declared.members.Side.TheVariants.{Lo, Up}
use Rattle.certs.specs.System.{LinearSystem, KeepsRows, is_basic}
use Rattle.certs.specs.Tableau.{Tableau, IsTableauOf, nonbasics, row_value, place_value, basic_value}
use Rattle.certs.specs.Turns.{can_fall, can_rise, helps, others}
use Rattle.certs.specs.Improves.{does_rise, distance_to, improving, magnitude, objective_variable, rate, towards}
use Rattle.certs.proofs.Choices.{found_is, below_all}
use Rattle.certs.proofs.Tableaus.{sum_before, sum_nonbasic, sum_other}

-- ---- values where j moves
module _ (system : LinearSystem) (t : Tableau) (of : IsTableauOf system t) (j : ℕ) (nonbasic : is_basic t.basis j ≡ false) (known : j < length t.basis) (d : ℚ) where
  -- the nonbasic variables, where j goes by d from its place
  unfoldable pub put : ℕ → ℚ
  put k = cond (k == j) (place_value t j +ℚ d) (place_value t k)

  -- and the basic ones with them
  unfoldable pub moved : ℕ → ℚ
  moved v = cond (is_basic t.basis v) (row_value t v put) (put v)

  pub moved-basic : (r : ℕ) → is_basic t.basis r ≡ true → moved r ≡ basic_value t r +ℚ t.factor r j *ℚ d
  unfolding moved put
  moved-basic r b =
      let f : ℕ → ℚ = λ k. t.factor r k in
      let before : ℚ = sum_over (λ k. t.factor r k *ℚ put k) (others j (nonbasics t.basis)) in
      let rest : ℚ = sum_over (λ k. t.factor r k *ℚ place_value t k) (others j (nonbasics t.basis)) in
      let same : before ≡ rest = sum_other t.basis j (λ k. t.factor r k *ℚ put k) (λ k. t.factor r k *ℚ place_value t k) (λ k l n q. ap (λ z. t.factor r k *ℚ z) (cond-false (k == j) (place_value t j +ℚ d) (place_value t k) (ne_eqb k j q))) in
      cond-true (is_basic t.basis r) (row_value t r put) (put r) b
      ∙ sum_before t.basis r j Lo b nonbasic known (λ k. t.factor r k *ℚ put k)
      ∙ ap (λ z. f j *ℚ z +ℚ before) (cond-true (j == j) (place_value t j +ℚ d) (place_value t j) (eq-eqb j j refl))
      ∙ ap (λ z. f j *ℚ (place_value t j +ℚ d) +ℚ z) same
      ∙ ring_ℚ (f j ∷ place_value t j ∷ d ∷ rest ∷ []) (x0 :* (x1 :+ x2) :+ x3) ((x0 :* x1 :+ x3) :+ x0 :* x2) tt
      ∙ ap (λ z. z +ℚ f j *ℚ d) (sym (sum_before t.basis r j Lo b nonbasic known (λ k. t.factor r k *ℚ place_value t k)))

  pub moved-own : moved j ≡ place_value t j +ℚ d
  unfolding moved put
  moved-own = cond-false (is_basic t.basis j) (row_value t j put) (put j) nonbasic ∙ cond-true (j == j) (place_value t j +ℚ d) (place_value t j) (eq-eqb j j refl)

  pub moved-other : (k : ℕ) → is_basic t.basis k ≡ false → k ≢ j → moved k ≡ place_value t k
  unfolding moved put
  moved-other k n q = cond-false (is_basic t.basis k) (row_value t k put) (put k) n ∙ cond-false (k == j) (place_value t j +ℚ d) (place_value t k) (ne_eqb k j q)

  -- they keep the rows
  pub moved-keeps : KeepsRows system moved
  unfolding moved
  moved-keeps = (of.table moved).1 (λ i b.
      cond-true (is_basic t.basis i) (row_value t i put) (put i) b
      ∙ sum_nonbasic t.basis (λ k. t.factor i k *ℚ put k) (λ k. t.factor i k *ℚ moved k) (λ k l n. ap (λ z. t.factor i k *ℚ z) (sym (cond-false (is_basic t.basis k) (row_value t k put) (put k) n))))

-- ---- the way of a variable that raises the objective
-- it goes by 1 or by -1, the objective grows with it, and it can go there
pub record Heads (t : Tableau) (j : ℕ) : Type 0 where
  pub nonbasic : is_basic t.basis j ≡ false
  pub known : j < length t.basis
  pub helps_it : helps t Lo (objective_variable t) j ≡ true
  pub step : ℚ
  pub rate_is : (i : ℕ) → rate t j i ≡ t.factor i j *ℚ step
  pub gains : zero_ℚ <ℚ t.factor (objective_variable t) j *ℚ step
  pub can : ((step ≡ one_ℚ) × (can_rise t j ≡ true)) ⊎ ((step ≡ neg_ℚ one_ℚ) × (can_fall t j ≡ true))

pub heads : (t : Tableau) (j : ℕ) → improving t ≡ Some j → Heads t j
heads t j e = by (does_rise t j) refl
  where
    found : ((j < length t.basis) × (not (is_basic t.basis j) ≡ true)) × (helps t Lo (objective_variable t) j ≡ true)
    found = found_is (helps t Lo (objective_variable t)) (λ k. (k < length t.basis) × (not (is_basic t.basis k) ≡ true)) (nonbasics t.basis) j (below_all (λ k. not (is_basic t.basis k)) (length t.basis)) e

    not_basic : (b : Bool) → not b ≡ true → b ≡ false
    not_basic true h = absurd (true≢false (sym h))
    not_basic false h = refl

    by : (b : Bool) → does_rise t j ≡ b → Heads t j
    by true rises =
        let f = t.factor (objective_variable t) j in
        let above : zero_ℚ <ℚ f = lt_q-true zero_ℚ f rises in
        record {
          nonbasic = not_basic (is_basic t.basis j) found.0.1;
          known = found.0.0;
          helps_it = found.1;
          step = one_ℚ;
          rate_is = λ i. ap (λ b. cond b (t.factor i j) (neg_ℚ (t.factor i j))) rises ∙ ring_ℚ (t.factor i j ∷ []) x0 (x0 :* unit_of) tt;
          gains = subst (λ q. zero_ℚ <ℚ q) (ring_ℚ (f ∷ []) x0 (x0 :* unit_of) tt) above;
          can = inl (
            refl,
            elim (or_cases (lt_q zero_ℚ f && can_rise t j) (lt_q f zero_ℚ && can_fall t j) found.1) [
              | inl h ↦ (and_parts (lt_q zero_ℚ f) (can_rise t j) h).1
              | inr h ↦ lt-le_clash_ℚ above (le_of_lt_ℚ (lt_q-true f zero_ℚ (and_parts (lt_q f zero_ℚ) (can_fall t j) h).0))
            ],
          );
        }
    by false falls =
        let f = t.factor (objective_variable t) j in
        let both : (f <ℚ zero_ℚ) × (can_fall t j ≡ true) = elim (or_cases (lt_q zero_ℚ f && can_rise t j) (lt_q f zero_ℚ && can_fall t j) found.1) [
          | inl h ↦ absurd (true≢false (sym (and_parts (lt_q zero_ℚ f) (can_rise t j) h).0 ∙ falls))
          | inr h ↦ (lt_q-true f zero_ℚ (and_parts (lt_q f zero_ℚ) (can_fall t j) h).0, (and_parts (lt_q f zero_ℚ) (can_fall t j) h).1)
        ] in
        record {
          nonbasic = not_basic (is_basic t.basis j) found.0.1;
          known = found.0.0;
          helps_it = found.1;
          step = neg_ℚ one_ℚ;
          rate_is = λ i. ap (λ b. cond b (t.factor i j) (neg_ℚ (t.factor i j))) falls ∙ ring_ℚ (t.factor i j ∷ []) (minus x0) (x0 :* minus unit_of) tt;
          gains = lt_by (f ∷ []) zero_of (x0 :* minus unit_of) (zero_of :- x0) (positive_of_lt both.0) tt;
          can = inr (refl, both.1);
        }

-- ---- distances
some_side : (a b : Side) → ◌≡◌ {A = Option Side} (Some a) (Some b) → a ≡ b
some_side a b q = ap (of a) q
  where
    of : Side → Option Side → Side
    of d None = d
    of d (Some s) = s

no_side : (s : Side) → ◌≡◌ {A = Option Side} None (Some s) → ⊥
no_side s q = cc

-- what moves up has a rate above 0, and what moves down one below
pub rising : (q : ℚ) → towards q ≡ Some Up → zero_ℚ <ℚ q
rising q e = by (lt_q zero_ℚ q) (lt_q q zero_ℚ) refl refl e
  where
    by : (a b : Bool) → lt_q zero_ℚ q ≡ a → lt_q q zero_ℚ ≡ b → cond a (Some Up) (cond b (Some Lo) None) ≡ Some Up → zero_ℚ <ℚ q
    by true b f g h = lt_q-true zero_ℚ q f
    by false true f g h = absurd (apart (some_side Lo Up h))
      where
        is_up : Side → Bool
        is_up Lo = false
        is_up Up = true

        apart : Lo ≡ Up → ⊥
        apart s = true≢false (sym (ap is_up s))
    by false false f g h = absurd (no_side Up h)

pub falling : (q : ℚ) → towards q ≡ Some Lo → q <ℚ zero_ℚ
falling q e = by (lt_q zero_ℚ q) (lt_q q zero_ℚ) refl refl e
  where
    by : (a b : Bool) → lt_q zero_ℚ q ≡ a → lt_q q zero_ℚ ≡ b → cond a (Some Up) (cond b (Some Lo) None) ≡ Some Lo → q <ℚ zero_ℚ
    by true b f g h = absurd (apart (some_side Up Lo h))
      where
        is_up : Side → Bool
        is_up Lo = false
        is_up Up = true

        apart : Up ≡ Lo → ⊥
        apart s = true≢false (ap is_up s)
    by false true f g h = lt_q-true q zero_ℚ g
    by false false f g h = absurd (no_side Lo h)

pub goes_up : (q : ℚ) → zero_ℚ <ℚ q → towards q ≡ Some Up
goes_up q h = ap (λ b. cond b (Some Up) (cond (lt_q q zero_ℚ) (Some Lo) None)) ((lt_q-Decides zero_ℚ q).1 h)

pub goes_down : (q : ℚ) → q <ℚ zero_ℚ → towards q ≡ Some Lo
goes_down q h = by (lt_q zero_ℚ q) (lt_q q zero_ℚ) refl refl
  where
    by : (a b : Bool) → lt_q zero_ℚ q ≡ a → lt_q q zero_ℚ ≡ b → cond a (Some Up) (cond b (Some Lo) None) ≡ Some Lo
    by true b f g = lt-le_clash_ℚ h (le_of_lt_ℚ (lt_q-true zero_ℚ q f))
    by false true f g = refl
    by false false f g = lt-le_clash_ℚ h (lt_q-false q zero_ℚ g)

-- a quotient times its divisor
quotient : (a q : ℚ) → q ≢ zero_ℚ → (a /ℚ q) *ℚ q ≡ a
quotient a q h =
    ring_ℚ (a ∷ q ∷ inv_ℚ q ∷ []) ((x0 :* x2) :* x1) (x0 :* (x1 :* x2)) tt ∙ ap (λ z. a *ℚ z) (mul-inv_ℚ q h) ∙ ring_ℚ (a ∷ []) (x0 :* unit_of) x0 tt

not_zero_above : (q : ℚ) → zero_ℚ <ℚ q → q ≢ zero_ℚ
not_zero_above q h e = lt_irrefl_ℚ (subst (λ z. zero_ℚ <ℚ z) e h)

module _ (t : Tableau) (j : ℕ) (way : Heads t j) where
  -- the size of a factor is that of its rate
  size_up : (i : ℕ) → zero_ℚ <ℚ rate t j i → magnitude (t.factor i j) ≡ rate t j i
  size_up i h = by (does_rise t j) (lt_q (t.factor i j) zero_ℚ) refl refl h
    where
      by : (a b : Bool) → does_rise t j ≡ a → lt_q (t.factor i j) zero_ℚ ≡ b → zero_ℚ <ℚ cond a (t.factor i j) (neg_ℚ (t.factor i j)) → cond b (neg_ℚ (t.factor i j)) (t.factor i j) ≡ cond a (t.factor i j) (neg_ℚ (t.factor i j))
      by true true e f h = lt-le_clash_ℚ h (le_of_lt_ℚ (lt_q-true (t.factor i j) zero_ℚ f))
      by true false e f h = refl
      by false true e f h = refl
      by false false e f h = lt-le_clash_ℚ h (le_by (t.factor i j ∷ []) (minus x0) zero_of (x0 :- zero_of) (nonneg_of_le (lt_q-false (t.factor i j) zero_ℚ f)) tt)

  size_down : (i : ℕ) → rate t j i <ℚ zero_ℚ → magnitude (t.factor i j) ≡ neg_ℚ (rate t j i)
  size_down i h = by (does_rise t j) (lt_q (t.factor i j) zero_ℚ) refl refl h
    where
      twice : (q : ℚ) → q ≡ neg_ℚ (neg_ℚ q)
      twice q = ring_ℚ (q ∷ []) x0 (minus (minus x0)) tt

      by : (a b : Bool) → does_rise t j ≡ a → lt_q (t.factor i j) zero_ℚ ≡ b → cond a (t.factor i j) (neg_ℚ (t.factor i j)) <ℚ zero_ℚ → cond b (neg_ℚ (t.factor i j)) (t.factor i j) ≡ neg_ℚ (cond a (t.factor i j) (neg_ℚ (t.factor i j)))
      by true true e f h = refl
      by true false e f h = lt-le_clash_ℚ h (lt_q-false (t.factor i j) zero_ℚ f)
      by false true e f h = lt-le_clash_ℚ h (le_by (t.factor i j ∷ []) zero_of (minus x0) (zero_of :- x0) (nonneg_of_le (le_of_lt_ℚ (lt_q-true (t.factor i j) zero_ℚ f))) tt)
      by false false e f h = twice (t.factor i j)

  -- a distance times the rate is what is left to the limit
  pub distance_is : (i : ℕ) (side : Side) (limit : ℚ) → towards (rate t j i) ≡ Some side → distance_to t j i side limit *ℚ rate t j i ≡ limit -ℚ basic_value t i
  distance_is i Up limit e =
      let up = rising (rate t j i) e in
      ap (λ q. ((limit -ℚ basic_value t i) /ℚ q) *ℚ rate t j i) (size_up i up) ∙ quotient (limit -ℚ basic_value t i) (rate t j i) (not_zero_above (rate t j i) up)
  distance_is i Lo limit e =
      let down = falling (rate t j i) e in
      let above : zero_ℚ <ℚ neg_ℚ (rate t j i) = lt_by (rate t j i ∷ []) zero_of (minus x0) (zero_of :- x0) (positive_of_lt down) tt in
      ap (λ q. ((basic_value t i -ℚ limit) /ℚ q) *ℚ rate t j i) (size_down i down)
      ∙ ring_ℚ (((basic_value t i -ℚ limit) /ℚ neg_ℚ (rate t j i)) ∷ rate t j i ∷ []) (x0 :* x1) (minus (x0 :* minus x1)) tt
      ∙ ap neg_ℚ (quotient (basic_value t i -ℚ limit) (neg_ℚ (rate t j i)) (not_zero_above (neg_ℚ (rate t j i)) above))
      ∙ ring_ℚ (basic_value t i ∷ limit ∷ []) (minus (x0 :- x1)) (x1 :- x0) tt

-- a number by which something above 0, or below, grows no less than not at all is at least 0
pub from_above : (d g : ℚ) → zero_ℚ <ℚ g → zero_ℚ ≤ℚ d *ℚ g → zero_ℚ ≤ℚ d
from_above d g h k = elim (le_or_lt_ℚ zero_ℚ d) [
  | inl l ↦ l
  | inr l ↦ lt-le_clash_ℚ (lt_by (d ∷ g ∷ []) (x0 :* x1) zero_of ((zero_of :- x0) :* x1) (positive-mul (positive_of_lt l) (positive_is.0 h)) tt) k
]

pub from_below : (d g : ℚ) → g <ℚ zero_ℚ → d *ℚ g ≤ℚ zero_ℚ → zero_ℚ ≤ℚ d
from_below d g h k =
    let above : zero_ℚ <ℚ neg_ℚ g = lt_by (g ∷ []) zero_of (minus x0) (zero_of :- x0) (positive_of_lt h) tt in
    from_above d (neg_ℚ g) above (le_by (d ∷ g ∷ []) zero_of (x0 :* minus x1) (zero_of :- x0 :* x1) (nonneg_of_le k) tt)
