-- Bits of words.
use Rattle.std.proofs.Common.{◌≡◌, ◌≢◌, ℕ, ◌+◌, ◌-◌, ◌*◌, ◌/◌, ◌%◌, ◌<◌, ◌≤◌, ◌^◌, min, Bool, false, cond, eqb, List, length, get_or, set, inl, inr, sym, ap, ◌∙◌, arith}
use Rattle.std.specs.Int.{bit_at, w64, trailing_zeros}
use Rattle.std.specs.Prelude.{bit_xor, count_ones}
use Rattle.std.proofs.lemmas.Bool.{cases_lt, cases_eq, eq-eqb, ne_eqb, cond-true, cond-false}
use Rattle.std.proofs.lemmas.Nat.Bits.{bit_at_and, bit_at_xor, bit_at_ones, bit_at_above, bit_at-zero, bit_at-trailing_zeros, bit_at-lt}
use Rattle.std.proofs.lemmas.Nat.{and_le_l, shr-shr, shr_le}
use Rattle.std.proofs.lemmas.List.{get_or_past, get_or-set_same, get_or-set_other}
use borrow.Author.Numbers.{ones_of_64}
use Rattle.lane_scan.specs.Bits.{shared, bit_of, IsFirstBit}

-- a number that is not 0 has a bit
some_bit : (n : ℕ) → n < 2 ^ 64 → n ≢ 0 → (j : ℕ) × (bit_at n j ≡ 1)
some_bit n h ne = (trailing_zeros w64 n, (bit_at-trailing_zeros w64 n (omega arith) h).1)

-- 0 has none
no_bit : (n j : ℕ) → n ≡ 0 → bit_at n j ≡ 0
no_bit n j e = ap (λ (k : ℕ). bit_at k j) e ∙ bit_at-zero j

-- ---- what two words share
-- it has a bit where x has it, and y has it or it is turned
bit_at_shared : (x y turn j : ℕ) → bit_at (shared x y turn) j ≡ min (bit_at x j) ((bit_at y j + bit_at turn j) % 2)
bit_at_shared x y turn j = bit_at_and x (bit_xor y turn) j ∙ ap (λ (n : ℕ). min (bit_at x j) n) (bit_at_xor y turn j)

-- a bit that is shared
shared_bit : (x y turn : ℕ) → x < 2 ^ 64 → shared x y turn ≢ 0 → (j : ℕ) × (bit_at x j ≡ 1) × ((bit_at y j + bit_at turn j) % 2 ≡ 1)
shared_bit x y turn h ne =
    let few = and_le_l x (bit_xor y turn) in
    let m = some_bit (shared x y turn) (omega arith) ne in
    let b = bit_at_shared x y turn m.0 in
    let s = m.1 in
    let t = bit_at-lt x m.0 in
    (m.0, omega arith, omega arith)

-- where none is
none_shared : (x y turn j : ℕ) → shared x y turn ≡ 0 → bit_at x j ≡ 1 → (bit_at y j + bit_at turn j) % 2 ≡ 0
none_shared x y turn j e s =
    let b = bit_at_shared x y turn j in
    let z = no_bit (shared x y turn) j e in
    omega arith

-- all bits turned: each bit of x is one of y
pub each_bit : (x y j : ℕ) → x < 2 ^ 64 → shared x y (2 ^ 64 - 1) ≡ 0 → bit_at x j ≡ 1 → bit_at y j ≡ 1
each_bit x y j h e s = elim (cases_lt j 64) [
  | inl l ↦
      let none = none_shared x y (2 ^ 64 - 1) j e s in
      let all = bit_at_ones 64 j l in
      let t = bit_at-lt y j in
      omega arith
  | inr l ↦ let z = bit_at_above x 64 j h l in absurd (omega arith)
]

-- all bits turned: a bit of x that y lacks
pub lacking_bit : (x y : ℕ) → x < 2 ^ 64 → shared x y (2 ^ 64 - 1) ≢ 0 → (j : ℕ) × (bit_at x j ≡ 1) × (bit_at y j ≡ 1 → ⊥)
lacking_bit x y h ne =
    let m = shared_bit x y (2 ^ 64 - 1) h ne in
    let here = m.1 in
    let there = m.2 in (
      m.0,
      here,
      λ s. elim (cases_lt m.0 64) [
        | inl l ↦ let all = bit_at_ones 64 m.0 l in absurd (omega arith)
        | inr l ↦ let z = bit_at_above x 64 m.0 h l in absurd (omega arith)
      ],
    )

-- no bit turned: a bit of both
pub both_bits : (x y : ℕ) → x < 2 ^ 64 → shared x y 0 ≢ 0 → (j : ℕ) × (bit_at x j ≡ 1) × (bit_at y j ≡ 1)
both_bits x y h ne =
    let m = shared_bit x y 0 h ne in
    let there = m.2 in
    let z = bit_at-zero m.0 in
    let t = bit_at-lt y m.0 in
    (m.0, m.1, omega arith)

-- no bit turned: none of both
pub no_both : (x y j : ℕ) → shared x y 0 ≡ 0 → bit_at x j ≡ 1 → bit_at y j ≡ 1 → ⊥
no_both x y j e s t =
    let none = none_shared x y 0 j e s in
    let z = bit_at-zero j in
    omega arith

-- past the words there is no bit
pub no_bit_past : (xs : List ℕ) (i j : ℕ) → length xs ≤ i → bit_at (get_or xs i 0) j ≡ 1 → ⊥
no_bit_past xs i j h s =
    let z = no_bit (get_or xs i 0) j (get_or_past xs i 0 h) in
    omega arith

-- ---- bits by their places
-- the bits of a word from one on
bit_from : (w s j : ℕ) → bit_at (w / 2 ^ s) j ≡ bit_at w (s + j)
bit_from w s j = ap (λ (n : ℕ). n % 2) (shr-shr w s j)

-- a bit of the word of a place, from that place on
abbrev rest_of : List ℕ → ℕ → ℕ
rest_of words at = get_or words (at / 64) 0 / 2 ^ (at % 64)

bit_of_rest : (words : List ℕ) (at k : ℕ) → at ≤ k → k < 64 * (at / 64 + 1) → bit_of words k ≡ eqb (bit_at (rest_of words at) (k - at)) 1
bit_of_rest words at k low high =
    let word : k / 64 ≡ at / 64 = omega arith in
    let bit : k % 64 ≡ at % 64 + (k - at) = omega arith in
    ap (λ (n : ℕ). eqb n 1)
    (ap (λ (i : ℕ). bit_at (get_or words i 0) (k % 64)) word
    ∙ (ap (λ (j : ℕ). bit_at (get_or words (at / 64) 0) j) bit ∙ sym (bit_from (get_or words (at / 64) 0) (at % 64) (k - at))))

-- no bit from a place on in its word
pub none_in_rest : (words : List ℕ) (at k : ℕ) → at ≤ k → k < 64 * (at / 64 + 1) → rest_of words at ≡ 0 → bit_of words k ≡ false
none_in_rest words at k low high e =
    bit_of_rest words at k low high ∙ ap (λ (n : ℕ). eqb n 1) (no_bit (rest_of words at) (k - at) e)

-- the first bit from a place on in its word
pub first_in_rest : (words : List ℕ) (at : ℕ) → get_or words (at / 64) 0 < 2 ^ 64 → at < 64 * length words → rest_of words at ≢ 0 → IsFirstBit words at (at + trailing_zeros w64 (rest_of words at))
first_in_rest words at fits within ne =
    let w = get_or words (at / 64) 0 in
    let s = at % 64 in
    let few = shr_le w s in
    let t = bit_at-trailing_zeros w64 (w / 2 ^ s) (omega arith) (omega arith) in
    let n = trailing_zeros w64 (w / 2 ^ s) in
    let seen : bit_at w (s + n) ≡ 1 = sym (bit_from w s n) ∙ t.1 in
    let inside : s + n < 64 = elim (cases_lt (s + n) 64) [
      | inl l ↦ l
      | inr l ↦ let z = bit_at_above w 64 (s + n) fits l in absurd (omega arith)
    ] in
    let bit : (at + n) - at ≡ n = omega arith in
    record {
      low = omega arith;
      high = omega arith;
      none = λ k low high.
          bit_of_rest words at k low (omega arith) ∙ ap (λ (n : ℕ). eqb n 1) (t.2 (k - at) (omega arith));
      here = λ _.
          bit_of_rest words at (at + n) (omega arith) (omega arith)
          ∙ ap (λ (m : ℕ). eqb m 1) (ap (λ (j : ℕ). bit_at (w / 2 ^ s) j) bit ∙ t.1);
    }

-- a word exchanged for one that differs in one bit
pub bit_put : (words : List ℕ) (place v : ℕ) (b : Bool) → place < 64 * length words → eqb (bit_at v (place % 64)) 1 ≡ b → ((j : ℕ) → j < 64 → j ≢ place % 64 → bit_at v j ≡ bit_at (get_or words (place / 64) 0) j) → (k : ℕ) → bit_of (set words (place / 64) v) k ≡ cond (eqb k place) b (bit_of words k)
bit_put words place v b within here other k =
    let i = place / 64 in
    let there : get_or (set words i v) i 0 ≡ v = get_or-set_same words i v 0 (omega arith) in
    elim (cases_eq k place) [
      | inl e ↦
          ap (bit_of (set words i v)) e
          ∙ (ap (λ (n : ℕ). eqb (bit_at n (place % 64)) 1) there ∙ (here ∙ sym (cond-true (eqb k place) b (bit_of words k) (eq-eqb k place e))))
      | inr ne ↦
          elim (cases_eq (k / 64) i) [
            | inl e ↦
                let off : k % 64 ≢ place % 64 = λ f. ne (omega arith) in
                ap (λ (m : ℕ). eqb (bit_at (get_or (set words i v) m 0) (k % 64)) 1) e
                ∙ (ap (λ (n : ℕ). eqb (bit_at n (k % 64)) 1) there
                ∙ (ap (λ (n : ℕ). eqb n 1) (other (k % 64) (omega arith) off) ∙ ap (λ (m : ℕ). eqb (bit_at (get_or words m 0) (k % 64)) 1) (sym e)))
            | inr off ↦ ap (λ (n : ℕ). eqb (bit_at n (k % 64)) 1) (get_or-set_other words i (k / 64) v 0 off)
          ]
          ∙ sym (cond-false (eqb k place) b (bit_of words k) (ne_eqb k place ne))
    ]

-- a word has no more bits than 64
pub few_ones : (n : ℕ) → n < 2 ^ 64 → count_ones n ≤ 64
few_ones n h = ones_of_64 n h
