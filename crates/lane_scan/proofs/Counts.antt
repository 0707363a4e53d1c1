-- How many bits of words are set.
use Rattle.std.proofs.Common.{◌≡◌, ℕ, zero, suc, ◌+◌, ◌*◌, ◌/◌, ◌%◌, ◌<◌, ◌≤◌, ◌^◌, Bool, false, cond, eqb, List, length, get_or, take, inl, inr, refl, sym, ap, ap₂, ◌∙◌, arith, sum_by}
use Rattle.std.specs.Int.{bit_at}
use Rattle.std.specs.Prelude.{count_ones}
use Rattle.std.proofs.lemmas.Bool.{cases_lt}
use Rattle.std.proofs.lemmas.Nat.{ones_cat, mod-pow-add, mod_below, pow_pos}
use Rattle.std.proofs.lemmas.List.{take_all}
use Rattle.std.proofs.lemmas.List.Sums.{sum_by_more}
use lib.Count.{ones}
use Rattle.lane_scan.specs.Bits.{bit_of}

-- how many numbers below n pass a test
abbrev pub count_below : (ℕ → Bool) → ℕ → ℕ
count_below p zero = zero
count_below p (suc n) = count_below p n + cond (p n) 1 0

-- none from n on
none_more : (p : ℕ → Bool) (n m : ℕ) → n ≤ m → ((k : ℕ) → n ≤ k → k < m → p k ≡ false) → count_below p m ≡ count_below p n
none_more p n zero l none = ap (count_below p) (let e : 0 ≡ n = omega arith in e)
none_more p n (suc m) l none = elim (cases_lt m n) [
  | inl h ↦ ap (count_below p) (let e : suc m ≡ n = omega arith in e)
  | inr h ↦
      let rest = none_more p n m h (λ k low high. none k low (omega arith)) in
      let last : count_below p m + cond (p m) 1 0 ≡ count_below p m + 0 = ap (λ (b : Bool). count_below p m + cond b 1 0) (none m h (omega arith)) in
      omega arith
]

-- one bit more of a word
one_bit : (b : ℕ) → b < 2 → count_ones b ≡ cond (eqb b 1) 1 0
unfolding ones
one_bit zero l = refl
one_bit (suc zero) l = refl
one_bit (suc (suc b)) l = absurd (omega arith)

ones_more : (w j : ℕ) → count_ones (w % 2 ^ (1 + j)) ≡ count_ones (w % 2 ^ j) + cond (eqb (bit_at w j) 1) 1 0
ones_more w j =
    let cut = ap count_ones (mod-pow-add w 1 j) in
    let two = ones_cat j (bit_at w j) (w % 2 ^ j) (mod_below w (2 ^ j) (pow_pos j)) in
    let bit = one_bit (bit_at w j) (mod_below (w / 2 ^ j) 2 (omega arith)) in
    omega arith

-- a front of a word
word_front : (words : List ℕ) (i j : ℕ) → j ≤ 64 → count_below (bit_of words) (64 * i + j) ≡ count_below (bit_of words) (64 * i) + count_ones (get_or words i 0 % 2 ^ j)
word_front words i zero l =
    let start = ap (count_below (bit_of words)) (let e : 64 * i + 0 ≡ 64 * i = omega arith in e) in
    let none : count_ones (get_or words i 0 % 1) ≡ 0 = ap count_ones (let e : get_or words i 0 % 1 ≡ 0 = omega arith in e) ∙ one_bit 0 (omega arith) in
    omega arith
word_front words i (suc j) l =
    let w = get_or words i 0 in
    let bit : bit_of words (64 * i + j) ≡ eqb (bit_at w j) 1 =
    ap₂ (λ (k m : ℕ). eqb (bit_at (get_or words k 0) m) 1)
    (let e : (64 * i + j) / 64 ≡ i = omega arith in e) (let e : (64 * i + j) % 64 ≡ j = omega arith in e) in
    let next = ap (count_below (bit_of words)) (let e : 64 * i + suc j ≡ suc (64 * i + j) = omega arith in e)
    ∙ ap (λ (b : Bool). count_below (bit_of words) (64 * i + j) + cond b 1 0) bit in
    let front = word_front words i j (omega arith) in
    let more = ap (λ (k : ℕ). count_ones (w % 2 ^ k)) (let e : suc j ≡ 1 + j = omega arith in e) ∙ ones_more w j in
    omega arith

-- a front of the words
words_front : (words : List ℕ) (i : ℕ) → ((k : ℕ) → get_or words k 0 < 2 ^ 64) → i ≤ length words → count_below (bit_of words) (64 * i) ≡ sum_by count_ones (take i words)
words_front words zero fits l = refl
words_front words (suc i) fits l =
    let next = ap (count_below (bit_of words)) (let e : 64 * suc i ≡ 64 * i + 64 = omega arith in e) in
    let word = word_front words i 64 (omega arith) in
    let whole = ap count_ones (let fit = fits i in let e : get_or words i 0 % 2 ^ 64 ≡ get_or words i 0 = omega arith in e) in
    let front = words_front words i fits (omega arith) in
    let more = sum_by_more count_ones words i 0 l in
    let last = ap (λ (k : ℕ). sum_by count_ones (take k words)) (let e : suc i ≡ i + 1 = omega arith in e) in
    omega (arith, next, word, whole, front, more, last)

-- where none is set from n on, those below n are all
pub count_is : (words : List ℕ) (n : ℕ) → ((k : ℕ) → get_or words k 0 < 2 ^ 64) → n ≤ 64 * length words → ((k : ℕ) → n ≤ k → k < 64 * length words → bit_of words k ≡ false) → sum_by count_ones words ≡ count_below (bit_of words) n
count_is words n fits l none =
    ap (sum_by count_ones) (sym (take_all (length words) words (omega arith)))
    ∙ (sym (words_front words (length words) fits (omega arith)) ∙ none_more (bit_of words) n (64 * length words) l none)
