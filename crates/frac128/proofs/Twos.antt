-- Factors 2, and the steps of the binary algorithm for the greatest common divisor.
use Rattle.std.proofs.Common.{◌≡◌, ◌⊎◌, inl, inr, ℕ, zero, suc, ◌+◌, ◌-◌, ◌*◌, ◌/◌, ◌%◌, ◌^◌, ◌<◌, ◌≤◌, min, refl, sym, ap, subst, ◌∙◌, arith}
use Rattle.std.specs.Int.{◌∣◌, abs_diff}
use Rattle.std.proofs.lemmas.Nat.Gcd.{IsGcd-from_sub}
use Rattle.std.proofs.Math.Nat.{pow-suc, mul_comm, mul_assoc, dvd_refl, dvd_trans, dvd-mul_right, one-dvd, mul-dvd-mul_right, div-mul_cancel, min-eq_left, min-eq_right, le_of_dvd, mod-eq_of_lt}
use Rattle.std.proofs.lemmas.Nat.{pow-add}
use Rattle.std.proofs.lemmas.Bool.{cases_lt}
use Rattle.algebra.specs.Gcd.{gcd}
use Rattle.algebra.proofs.Gcd.{gcd_is, gcd_from_is, gcd_comm, gcd-mod, gcd-mul_right, gcd-dvd_left, gcd-dvd_right, dvd-gcd, dvd_of_dvd-mul, coprime_one, coprime_down_left, coprime-mul_right}
use lib.Count.{count_trailing_zeros, under}

-- ---- the factors 2 of a number
-- of an even number by those of its half
twos_by : (n t d : ℕ) → n % 2 ≡ d → 2 ^ t ∣ n / 2 → 2 ^ under d t ∣ n
twos_by n t zero even half =
    let twice : n / 2 * 2 ≡ n = omega arith in
    subst (λ (m : ℕ). m ∣ n) (sym (pow-suc 2 t)) (subst (λ (m : ℕ). 2 ^ t * 2 ∣ m) twice (mul-dvd-mul_right _ half 2))
twos_by n t (suc d) odd half = one-dvd n

twos_dvd : (k n : ℕ) → 2 ^ count_trailing_zeros k n ∣ n
unfolding count_trailing_zeros
twos_dvd zero n = one-dvd n
twos_dvd (suc k) n = twos_by n (count_trailing_zeros k (n / 2)) (n % 2) refl (twos_dvd k (n / 2))

pub twos_out : (k n : ℕ) → n / 2 ^ count_trailing_zeros k n * 2 ^ count_trailing_zeros k n ≡ n
twos_out k n = div-mul_cancel (2 ^ count_trailing_zeros k n) (twos_dvd k n)

-- ---- odd numbers have no common divisor with a power of 2
odd_two : (a : ℕ) → a % 2 ≡ 1 → gcd a 2 ≡ 1
odd_two a odd = sym (gcd-mod a 2) ∙ ap (gcd 2) odd ∙ coprime_one 2

odd_power : (a k : ℕ) → a % 2 ≡ 1 → gcd a (2 ^ k) ≡ 1
odd_power a zero odd = coprime_one a
odd_power a (suc k) odd = ap (gcd a) (pow-suc 2 k) ∙ coprime-mul_right a (2 ^ k) 2 (odd_power a k odd) (odd_two a odd)

-- what has no common divisor with a number may be left out of the other
coprime_out : (a b c : ℕ) → gcd a c ≡ 1 → gcd a (b * c) ≡ gcd a b
coprime_out a b c e = gcd_from_is a (b * c) (gcd a b) (
  gcd-dvd_left a b,
  dvd_trans (gcd a b) (gcd-dvd_right a b) (dvd-mul_right b c),
  λ d p q. dvd-gcd a b d p (dvd_of_dvd-mul d c b (coprime_down_left a c d e p) (subst (λ (n : ℕ). d ∣ n) (mul_comm b c) q)),
)

-- ---- the twos that both have
-- where the first has the fewer
fewer_twos : (x y i j : ℕ) → x % 2 ≡ 1 → i ≤ j → gcd (x * 2 ^ i) (y * 2 ^ j) ≡ gcd x y * 2 ^ i
fewer_twos x y i j odd le =
    let sum : j ≡ (j - i) + i = omega arith in
    let split : y * 2 ^ j ≡ y * 2 ^ (j - i) * 2 ^ i = ap (λ k. y * 2 ^ k) sum ∙ ap (λ n. y * n) (pow-add 2 (j - i) i) ∙ sym (mul_assoc y (2 ^ (j - i)) (2 ^ i)) in
    ap (gcd (x * 2 ^ i)) split ∙ gcd-mul_right x (y * 2 ^ (j - i)) (2 ^ i) ∙ ap (λ n. n * 2 ^ i) (coprime_out x y (2 ^ (j - i)) (odd_power x (j - i) odd))

twos_by_order : (x y i j : ℕ) → x % 2 ≡ 1 → y % 2 ≡ 1 → (i < j) ⊎ (j ≤ i) → gcd (x * 2 ^ i) (y * 2 ^ j) ≡ gcd x y * 2 ^ min i j
twos_by_order x y i j p q (inl l) = let h : i ≤ j = omega arith in fewer_twos x y i j p h ∙ ap (λ k. gcd x y * 2 ^ k) (sym (min-eq_left h))
twos_by_order x y i j p q (inr h) =
    gcd_comm (x * 2 ^ i) (y * 2 ^ j) ∙ fewer_twos y x j i q h ∙ ap (λ n. n * 2 ^ j) (gcd_comm y x) ∙ ap (λ k. gcd x y * 2 ^ k) (sym (min-eq_right h))

pub gcd_twos : (x y i j a b : ℕ) → x % 2 ≡ 1 → y % 2 ≡ 1 → x * 2 ^ i ≡ a → y * 2 ^ j ≡ b → gcd x y * 2 ^ min i j ≡ gcd a b
gcd_twos x y i j a b p q e f = sym (twos_by_order x y i j p q (cases_lt i j)) ∙ ap (λ n. gcd n (y * 2 ^ j)) e ∙ ap (gcd a) f

-- ---- a step: the lesser, and the odd part of the difference
difference_by : (x y : ℕ) → (x < y) ⊎ (y ≤ x) → gcd (min x y) (abs_diff x y) ≡ gcd x y
difference_by x y (inl l) =
    let least : min x y ≡ x = min-eq_left (omega arith) in
    let apart : abs_diff x y ≡ y - x = omega arith in
    rw (least, apart) (gcd_comm x (y - x) ∙ sym (gcd_from_is y x _ (IsGcd-from_sub y x _ (omega arith) (gcd_is (y - x) x))) ∙ gcd_comm y x)
difference_by x y (inr h) =
    let least : min x y ≡ y = min-eq_right h in
    let apart : abs_diff x y ≡ x - y = omega arith in
    rw (least, apart) (gcd_comm y (x - y) ∙ sym (gcd_from_is x y _ (IsGcd-from_sub x y _ h (gcd_is (x - y) y))))

min_odd : (x y : ℕ) → x % 2 ≡ 1 → y % 2 ≡ 1 → (x < y) ⊎ (y ≤ x) → min x y % 2 ≡ 1
min_odd x y p q (inl l) = ap (λ n. n % 2) (min-eq_left (omega arith)) ∙ p
min_odd x y p q (inr h) = ap (λ n. n % 2) (min-eq_right h) ∙ q

-- a pair of odd numbers whose greatest common divisor is that of the pair at the start
pub record IsOddPair (x y a b : ℕ) : Type 0 where
  pub first : x % 2 ≡ 1
  pub second : y % 2 ≡ 1
  pub same : gcd x y ≡ gcd a b

pub step : (x y a b q t m : ℕ) → IsOddPair x y a b → q % 2 ≡ 1 → q * 2 ^ t ≡ abs_diff x y → m ≡ min x y → IsOddPair q m a b
step x y a b q t m h odd e is =
    let least : m % 2 ≡ 1 = ap (λ n. n % 2) is ∙ min_odd x y h.first h.second (cases_lt x y) in
    record {
      first = odd;
      second = least;
      same = gcd_comm q m ∙ sym (coprime_out m q (2 ^ t) (odd_power m t least)) ∙ ap (gcd m) e ∙ ap (λ n. gcd n (abs_diff x y)) is ∙ difference_by x y (cases_lt x y) ∙ h.same;
    }

pub at_end : (x y a b : ℕ) → IsOddPair x y a b → x ≡ y → x ≡ gcd a b
at_end x y a b h e = sym (gcd_from_is x x x (dvd_refl x, dvd_refl x, λ d p q. p)) ∙ ap (gcd x) e ∙ h.same

-- ---- the two numbers, the lesser first
pub in_order : (a b : ℕ) (p : ℕ × ℕ) → (p ≡ (a, b)) ⊎ (p ≡ (b, a)) → gcd p.1 p.0 ≡ gcd a b
in_order a b p (inl e) = ap (λ (q : ℕ × ℕ). gcd q.1 q.0) e ∙ gcd_comm b a
in_order a b p (inr e) = ap (λ (q : ℕ × ℕ). gcd q.1 q.0) e

lesser_fits : (a b w : ℕ) (p : ℕ × ℕ) → (p ≡ (a, b)) ⊎ (p ≡ (b, a)) → a < w → b < w → p.0 < w
lesser_fits a b w p (inl e) low high = let is : p.0 ≡ a = ap (λ (q : ℕ × ℕ). q.0) e in omega arith
lesser_fits a b w p (inr e) low high = let is : p.0 ≡ b = ap (λ (q : ℕ × ℕ). q.0) e in omega arith

-- the odd divisor with the twos that both have, of which nothing is shifted out
pub shifted_back : (a b w : ℕ) (p : ℕ × ℕ) (v x y i j k : ℕ) → (p ≡ (a, b)) ⊎ (p ≡ (b, a)) → a < w → b < w → (p.0 ≡ 0 → ⊥)
    → x % 2 ≡ 1 → y % 2 ≡ 1 → x * 2 ^ i ≡ p.0 → y * 2 ^ j ≡ p.1 % p.0 → v ≡ gcd x y → k ≡ min i j → v * 2 ^ k % w ≡ gcd a b
shifted_back a b w p v x y i j k order low high some odd odd' e f is least =
    let whole : v * 2 ^ k ≡ gcd p.0 (p.1 % p.0) = ap (λ n. n * 2 ^ k) is ∙ ap (λ n. gcd x y * 2 ^ n) least ∙ gcd_twos x y i j p.0 (p.1 % p.0) odd odd' e f in
    let fits : p.0 < w = lesser_fits a b w p order low high in
    let within : gcd p.0 (p.1 % p.0) ≤ p.0 = le_of_dvd (omega arith) (gcd-dvd_left p.0 (p.1 % p.0)) in
    mod-eq_of_lt (omega arith) ∙ whole ∙ gcd-mod p.1 p.0 ∙ in_order a b p order
