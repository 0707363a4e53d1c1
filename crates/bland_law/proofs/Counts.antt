-- A count for each variable, which read as the digits of a number in base 3 falls in each turn that exchanges two of them.
use Rattle.std.proofs.Common.{◌≡◌, ◌≢◌, ◌⊎◌, ◌*◌, ◌+◌, ◌^◌, ◌<◌, ◌≤◌, refl, sym, ◌∙◌, ap, subst, ℕ, zero, suc, max, Bool, true, false, cond, ltb, ◌==◌, true≢false, List, arith, inl, inr}
use native.Mathlib.Nat.{mul-le-mul_right}
use Rattle.std.proofs.lemmas.Bool.{cases_lt, cases_Bool, cond-true, cond-false}
use Rattle.certs.specs.System.{Place, is_basic}

-- One turn over so many variables: i leaves the basis and j enters. What is known of a variable that has left stays as long as
-- only lesser ones move, and no variable of which it is known enters where a lesser one leaves.
pub record Exchanges (n : ℕ) (Before After : ℕ → Type 0) (basis next : List Place) (i j : ℕ) : Type 0 where
  pub leaves_below : i < n
  pub enters_below : j < n
  pub leaves_basic : is_basic basis i ≡ true
  pub enters_nonbasic : is_basic basis j ≡ false
  pub left_nonbasic : is_basic next i ≡ false
  pub entered_basic : is_basic next j ≡ true
  pub others_same : (k : ℕ) → k ≢ i → k ≢ j → is_basic next k ≡ is_basic basis k
  pub remembered : j < i → After i
  pub still : (e : ℕ) → i < e → j < e → Before e → After e
  pub no_return : Before j → i < j → ⊥

-- each variable's count: 1 where it is basic; else 2, or 0 once it has left and that is known of it
pub record Counted (Known : ℕ → Type 0) (basis : List Place) (c : ℕ → ℕ) : Type 0 where
  pub basic_one : (j : ℕ) → is_basic basis j ≡ true → c j ≡ 1
  pub nonbasic_cases : (j : ℕ) → is_basic basis j ≡ false → (c j ≡ 2) ⊎ ((c j ≡ 0) × Known j)

-- the counts after a turn, where m is the greater of the two variables that move
abbrev pub next_count : (ℕ → ℕ) → (ℕ → Bool) → ℕ → ℕ → ℕ
next_count c basic m j = cond (ltb m j) (c j) (cond (basic j) 1 (cond (j == m) 0 2))

-- the counts as digits in base 3
abbrev pub weight : ℕ → (ℕ → ℕ) → ℕ
weight zero c = 0
weight (suc n) c = weight n c + c n * 3 ^ n

-- ---- the number that the counts spell
pub weight_below : (n : ℕ) (c : ℕ → ℕ) → ((j : ℕ) → j < n → c j ≤ 2) → weight n c < 3 ^ n
weight_below zero c h = omega arith
weight_below (suc n) c h =
    let r : weight n c < 3 ^ n = weight_below n c (λ j l. h j (omega arith)) in
    let k : c n ≤ 2 = h n (omega arith) in
    omega (arith, mul-le-mul_right (3 ^ n) k)

weight_falls : (size m : ℕ) (c d : ℕ → ℕ) → m < size → d m < c m → ((j : ℕ) → j < m → d j ≤ 2) → ((j : ℕ) → m < j → d j ≡ c j) → weight size d < weight size c
weight_falls zero m c d h k low high = absurd (omega arith)
weight_falls (suc n) m c d h k low high =
    elim (cases_lt m n) [
      | inl l ↦
          (let r : weight n d < weight n c = weight_falls n m c d l k low high in
          let e : d n ≡ c n = high n l in
          omega (arith, ap (λ z. z * 3 ^ n) e))
      | inr l ↦
          (let e : n ≡ m = omega arith in
          let r : weight n d < 3 ^ n = weight_below n d (λ j i. low j (omega arith)) in
          let k2 : suc (d n) ≤ c n = subst (λ z. d z < c z) (sym e) k in
          omega (arith, mul-le-mul_right (3 ^ n) k2))
    ]

-- ---- the counts after a turn
next_above : (c : ℕ → ℕ) (basic : ℕ → Bool) (m j : ℕ) → m < j → next_count c basic m j ≡ c j
next_above c basic m j h = grind arith

next_basic : (c : ℕ → ℕ) (basic : ℕ → Bool) (m j : ℕ) → j ≤ m → basic j ≡ true → next_count c basic m j ≡ 1
next_basic c basic m j h e = grind arith

next_out : (c : ℕ → ℕ) (basic : ℕ → Bool) (m j : ℕ) → j ≡ m → basic j ≡ false → next_count c basic m j ≡ 0
next_out c basic m j h e = grind arith

next_reset : (c : ℕ → ℕ) (basic : ℕ → Bool) (m j : ℕ) → j < m → basic j ≡ false → next_count c basic m j ≡ 2
next_reset c basic m j h e = grind arith

low_counts : (c : ℕ → ℕ) (basic : ℕ → Bool) (m j : ℕ) → j < m → next_count c basic m j ≤ 2
low_counts c basic m j h =
    elim (cases_Bool (basic j)) [
      | inl t ↦ (let e : next_count c basic m j ≡ 1 = next_basic c basic m j (omega arith) t in omega arith)
      | inr f ↦ (let e : next_count c basic m j ≡ 2 = next_reset c basic m j h f in omega arith)
    ]

-- counts that a turn leaves, with a lesser number
pub record Lowered (n : ℕ) (Known : ℕ → Type 0) (basis : List Place) (c : ℕ → ℕ) : Type 0 where
  pub count : ℕ → ℕ
  pub counted : Counted Known basis count
  pub less : weight n count < weight n c

module _ (n : ℕ) (Before After : ℕ → Type 0) (basis after : List Place) (i j : ℕ) (turn : Exchanges n Before After basis after i j) (c : ℕ → ℕ) (v : Counted Before basis c) where
  most : ℕ
  most = max i j

  fresh : ℕ → ℕ
  fresh = next_count c (is_basic after) most

  same_above : (k : ℕ) → most < k → is_basic after k ≡ is_basic basis k
  unfolding most
  same_above k h = turn.others_same k (λ e. absurd (omega arith)) (λ e. absurd (omega arith))

  -- where the greater of the two is not basic, it is the one that left
  left_is : (k : ℕ) → is_basic after k ≡ false → k ≡ most → (k ≡ i) × (j < i)
  unfolding most
  left_is k f e =
      let apart : k ≢ j = λ q. true≢false (sym turn.entered_basic ∙ (ap (is_basic after) (sym q) ∙ f)) in
      elim (cases_lt i j) [
        | inl l ↦ absurd (apart (omega arith))
        | inr l ↦ elim (cases_lt j i) [ inl g ↦ (omega arith, g) | inr g ↦ absurd (apart (omega arith)) ]
      ]

  cases_after : (k : ℕ) → is_basic after k ≡ false → (fresh k ≡ 2) ⊎ ((fresh k ≡ 0) × After k)
  unfolding fresh most
  cases_after k f =
      elim (cases_lt k most) [
        | inl l ↦ inl (next_reset c (is_basic after) most k l f)
        | inr l ↦ elim (cases_lt most k) [
          | inl g ↦
              elim (v.nonbasic_cases k (sym (same_above k g) ∙ f)) [
                | inl two ↦ inl (next_above c (is_basic after) most k g ∙ two)
                | inr gone ↦ inr (next_above c (is_basic after) most k g ∙ gone.0, turn.still k (omega arith) (omega arith) gone.1)
              ]
          | inr g ↦
              (let e : k ≡ most = omega arith in
              let at = left_is k f e in
              inr (next_out c (is_basic after) most k e f, subst After (sym at.0) (turn.remembered at.1)))
        ]
      ]

  counted_after : Counted After after fresh
  unfolding fresh
  counted_after = record {
    basic_one = λ k b. elim (cases_lt most k) [
      | inl g ↦ next_above c (is_basic after) most k g ∙ v.basic_one k (sym (same_above k g) ∙ b)
      | inr l ↦ next_basic c (is_basic after) most k l b
    ];
    nonbasic_cases = cases_after;
  }

  falls_at : fresh most < c most
  unfolding fresh most
  falls_at = elim (cases_lt i j) [ inl l ↦ enters l | inr l ↦ leaves l ]
    where
      enters : i < j → next_count c (is_basic after) (max i j) (max i j) < c (max i j)
      enters l =
          let e : max i j ≡ j = omega arith in
          let one : next_count c (is_basic after) (max i j) (max i j) ≡ 1 = next_basic c (is_basic after) (max i j) (max i j) (omega arith) (ap (is_basic after) e ∙ turn.entered_basic) in
          elim (v.nonbasic_cases j turn.enters_nonbasic) [
            | inl two ↦ (let k : c (max i j) ≡ 2 = ap c e ∙ two in omega arith)
            | inr gone ↦ absurd (turn.no_return gone.1 l)
          ]

      leaves : j ≤ i → next_count c (is_basic after) (max i j) (max i j) < c (max i j)
      leaves l =
          let e : max i j ≡ i = omega arith in
          let none : next_count c (is_basic after) (max i j) (max i j) ≡ 0 = next_out c (is_basic after) (max i j) (max i j) refl (ap (is_basic after) e ∙ turn.left_nonbasic) in
          let k : c (max i j) ≡ 1 = ap c e ∙ v.basic_one i turn.leaves_basic in
          omega arith

  in_reach : most < n
  unfolding most
  in_reach = (let a : i < n = turn.leaves_below in let b : j < n = turn.enters_below in omega arith)

  lowers : weight n fresh < weight n c
  unfolding fresh
  lowers = weight_falls n most c fresh in_reach falls_at (λ k l. low_counts c (is_basic after) most k l) (λ k l. next_above c (is_basic after) most k l)

  -- a turn leaves counts with a lesser number
  pub lowered : Lowered n After after c
  lowered = record { count = fresh; counted = counted_after; less = lowers }

-- ---- the counts at first
-- nothing has left yet
pub first_count : List Place → ℕ → ℕ
first_count basis j = cond (is_basic basis j) 1 2

pub first_counted : (Known : ℕ → Type 0) (basis : List Place) → Counted Known basis (first_count basis)
unfolding first_count
first_counted Known basis = record {
  basic_one = λ j b. cond-true (is_basic basis j) 1 2 b;
  nonbasic_cases = λ j b. inl (cond-false (is_basic basis j) 1 2 b);
}

pub first_small : (basis : List Place) (n : ℕ) → weight n (first_count basis) < 3 ^ n
unfolding first_count
first_small basis n = weight_below n (first_count basis) (λ j l. small j)
  where
    small : (j : ℕ) → first_count basis j ≤ 2
    small j =
        elim (cases_Bool (is_basic basis j)) [
          | inl b ↦ (let e : first_count basis j ≡ 1 = cond-true (is_basic basis j) 1 2 b in omega arith)
          | inr b ↦ (let e : first_count basis j ≡ 2 = cond-false (is_basic basis j) 1 2 b in omega arith)
        ]

-- ---- after so many turns the number has fallen as often
pub record Fallen (n : ℕ) (Known : ℕ → Type 0) (first basis : List Place) (made : ℕ) : Type 0 where
  pub count : ℕ → ℕ
  pub counted : Counted Known basis count
  pub less : weight n count + made ≤ weight n (first_count first)

pub nothing_fallen : (n : ℕ) (Known : ℕ → Type 0) (basis : List Place) → Fallen n Known basis basis 0
nothing_fallen n Known basis = record { count = first_count basis; counted = first_counted Known basis; less = omega arith }

pub fallen_more : (n : ℕ) (Before After : ℕ → Type 0) (first basis next : List Place) (i j made : ℕ) → Exchanges n Before After basis next i j → Fallen n Before first basis made → Fallen n After first next (suc made)
fallen_more n Before After first basis next i j made turn f =
    let l : Lowered n After next f.count = lowered n Before After basis next i j turn f.count f.counted in
    record {
      count = l.count;
      counted = l.counted;
      less = (let a : weight n l.count < weight n f.count = l.less in let b : weight n f.count + made ≤ weight n (first_count first) = f.less in omega arith);
    }

-- so as many turns as 3 to the number of variables are never made
pub fallen_few : (n : ℕ) (Known : ℕ → Type 0) (first basis : List Place) (made : ℕ) → Fallen n Known first basis made → made < 3 ^ n
fallen_few n Known first basis made f =
    let a : weight n (first_count first) < 3 ^ n = first_small first n in
    let b : weight n f.count + made ≤ weight n (first_count first) = f.less in
    omega arith

-- ---- a way back to a basis can be gone as often as wanted
unfoldable pub rounds : ℕ → ℕ → ℕ
rounds k zero = 0
rounds k (suc n) = suc k + rounds k n

pub rounds_enough : (k n : ℕ) → n ≤ rounds k n
unfolding rounds
rounds_enough k zero = omega arith
rounds_enough k (suc n) = (let r : n ≤ rounds k n = rounds_enough k n in omega arith)
