-- Numbers that words write: what is printed is read, and what is read is printed so.
use Rattle.std.proofs.Common.{◌≡◌, ◌≢◌, refl, ap, subst, ◌∙◌, ℕ, ◌^◌, ◌<◌, ◌≤◌, ◌==◌, Bool, true, false, ◌&&◌, cond, List, decimal, eqb-true, Option, Some, None, nat_lt, ℤ, pos, negsuc, unsigned_abs, arith}
use Rattle.std.specs.Prelude.{int_lt, neg_ℤ, ◌≤ℤ◌, ◌<ℤ◌}
use Rattle.std.specs.Fmt.{signed_decimal}
use Rattle.std.specs.Option.{option_and_then}
use Rattle.std.specs.Str.{bytes_eq}
use Rattle.std.proofs.lemmas.Bool.{and_parts, false_from_ne_true, lt-ltb, ltb-true}
use Rattle.std.proofs.lemmas.Int.{ints}
use Rattle.std.proofs.lemmas.Fmt.{digits_value-decimal}
use Rattle.std.proofs.lemmas.Option.{same_Some, option_and_then_some}
use Rattle.std.proofs.lemmas.Slice.Eq.{bytes_eq-Decides}
use Rattle.rational.specs.Rational.{ℚ, whole, zero_ℚ, eq_ℚ, lt_q, ◌<ℚ◌}
use Rattle.rational.proofs.Compare.{eq-Decides, apart_from_test, lt_q-Decides}
use Rattle.rational.proofs.Whole.{whole-whole}
use Rattle.frac128.specs.Limit.{limit}
use Rattle.frac128.specs.Literal.{number_of}
use Rattle.frac128.specs.Printed.{printed}
use Rattle.report_text.specs.Form.{IsWithinLimit, IsCount}
use Rattle.phrase_reader.specs.Numerals.{fraction_in}
use Rattle.phrase_reader.specs.Words.{Finds, IsCountSaid, IsFractionSaid, IsWholeSaid, nonzero, positive, numerator, whole_in, below_limit, count_as, count_in}
use Rattle.phrase_reader.proofs.Named.{found_is, told_if}
use Rattle.phrase_reader.proofs.Budgets.{own}
use Rattle.phrase_reader.proofs.Quotients.{own_fraction, fraction_said}
use Rattle.phrase_reader.proofs.Wholes.{num_is, said_whole, said_fraction}
use Rattle.phrase_reader.proofs.Spelling.{split_fits}

-- ---- fractions
pub nonzero_own : (v : ℚ) → IsWithinLimit v → v ≢ zero_ℚ → option_and_then nonzero (fraction_in (printed v)) ≡ Some v
nonzero_own v h apart =
    ap (option_and_then nonzero) (own_fraction (printed v) v (h, refl))
    ∙ ap (λ b. cond b None (Some v)) (false_from_ne_true (eq_ℚ v zero_ℚ) (λ t. apart ((eq-Decides v zero_ℚ).0 t)))

pub nonzero_said : (word : List ℕ) (v : ℚ) → option_and_then nonzero (fraction_in word) ≡ Some v → IsFractionSaid word v × (v ≢ zero_ℚ)
nonzero_said word v e = option_and_then_some nonzero (fraction_in word) v e (λ w f g. by w f (eq_ℚ w zero_ℚ) refl g)
  where
    by : (w : ℚ) → fraction_in word ≡ Some w → (b : Bool) → eq_ℚ w zero_ℚ ≡ b → cond b None (Some w) ≡ Some v → IsFractionSaid word v × (v ≢ zero_ℚ)
    by w f true t g = absurd (let s : None ≡ Some v = g in cc)
    by w f false t g = subst (λ (x : ℚ). IsFractionSaid word x × (x ≢ zero_ℚ)) (same_Some w v g) (fraction_said word w f, apart_from_test w zero_ℚ zero_ℚ refl t)

pub positive_own : (v : ℚ) → IsWithinLimit v → zero_ℚ <ℚ v → option_and_then positive (fraction_in (printed v)) ≡ Some v
positive_own v h above =
    ap (option_and_then positive) (own_fraction (printed v) v (h, refl))
    ∙ ap (λ b. cond b (Some v) None) ((lt_q-Decides zero_ℚ v).1 above)

pub positive_said : (word : List ℕ) (v : ℚ) → option_and_then positive (fraction_in word) ≡ Some v → IsFractionSaid word v × (zero_ℚ <ℚ v)
positive_said word v e = option_and_then_some positive (fraction_in word) v e (λ w f g.
    let t = told_if (lt_q zero_ℚ w) (Some w) v g in
    subst (λ (x : ℚ). IsFractionSaid word x × (zero_ℚ <ℚ x)) (same_Some w v t.1) (fraction_said word w f, (lt_q-Decides zero_ℚ w).0 t.0))

-- ---- whole numbers
pub whole_own : (k : ℤ) → unsigned_abs k ≤ limit → whole_in (signed_decimal k) ≡ Some k
whole_own k h =
    ap (option_and_then numerator) (own_fraction (signed_decimal k) (whole k) (said_fraction (signed_decimal k) k (h, refl)))
    ∙ ap (λ d. cond (d == 1) (Some (whole k).num) None) (whole-whole k) ∙ ap Some (num_is k)

pub whole_said : (word : List ℕ) (k : ℤ) → whole_in word ≡ Some k → IsWholeSaid word k
whole_said word k e = option_and_then_some numerator (fraction_in word) k e (λ q f g.
    let t = told_if (q.den == 1) (Some q.num) k g in
    subst (IsWholeSaid word) (same_Some q.num k t.1) (said_whole word q (fraction_said word q f) (eqb-true q.den 1 t.0)))

pub whole_found : (word : List ℕ) (r : Option ℤ) → Finds (IsWholeSaid word) r → r ≡ whole_in word
whole_found word r h = found_is (IsWholeSaid word) r (whole_in word) h (whole_said word) (λ k s. ap whole_in s.1 ∙ whole_own k s.0)

below_test : (k : ℤ) → k <ℤ pos limit → int_lt k (pos limit) ≡ true
below_test (pos n) h = lt-ltb n limit (let l : n < limit = omega (arith, ints, h) in l)
below_test (negsuc n) h = refl

test_below : (k : ℤ) → int_lt k (pos limit) ≡ true → k <ℤ pos limit
test_below (pos n) e = let l : n < limit = ltb-true n limit e in omega (arith, ints)
test_below (negsuc n) e = omega (arith, ints)

above_low : (k : ℤ) → unsigned_abs k ≤ limit → neg_ℤ (pos limit) ≤ℤ k
above_low (pos n) h = omega (arith, ints)
above_low (negsuc n) h = omega (arith, ints, h)

pub split_own : (k : ℤ) → (neg_ℤ (pos limit) ≤ℤ k) × (k <ℤ pos limit) → option_and_then below_limit (whole_in (signed_decimal k)) ≡ Some k
split_own k h =
    ap (option_and_then below_limit) (whole_own k (split_fits k h.0 h.1)) ∙ ap (λ b. cond b (Some k) None) (below_test k h.1)

pub split_said : (word : List ℕ) (k : ℤ) → option_and_then below_limit (whole_in word) ≡ Some k → ((neg_ℤ (pos limit) ≤ℤ k) × (k <ℤ pos limit)) × (word ≡ signed_decimal k)
split_said word k e = option_and_then_some below_limit (whole_in word) k e (λ m f g.
    let t = told_if (int_lt m (pos limit)) (Some m) k g in
    let said = whole_said word m f in
    subst (λ z. ((neg_ℤ (pos limit) ≤ℤ z) × (z <ℤ pos limit)) × (word ≡ signed_decimal z)) (same_Some m k t.1) ((above_low m said.0, test_below m t.0), said.1))

pub split_found : (word : List ℕ) (r : Option ℤ) → Finds (λ k. IsWholeSaid word k × (k <ℤ pos limit)) r → r ≡ option_and_then below_limit (whole_in word)
split_found word r h =
    found_is (λ k. IsWholeSaid word k × (k <ℤ pos limit)) r (option_and_then below_limit (whole_in word)) h
    (λ k e. let s = split_said word k e in ((split_fits k s.0.0 s.0.1, s.1), s.0.1))
    (λ k s. ap (λ w. option_and_then below_limit (whole_in w)) s.0.1 ∙ split_own k (above_low k s.0.0, s.1))

-- ---- counts
tests : (a b : Bool) (n : ℕ) → a ≡ true → b ≡ true → cond (a && b) (Some n) None ≡ Some n
tests a b n e f = rw (e, f) refl

pub count_own : (n : ℕ) → IsCount n → count_in (decimal n) ≡ Some n
count_own n h = ap (count_as (decimal n)) (digits_value-decimal own n h) ∙ tests (nat_lt n (2 ^ 64)) (bytes_eq (decimal n) (decimal n)) n (lt-ltb n (2 ^ 64) h) ((bytes_eq-Decides (decimal n) (decimal n)).1 refl)

pub count_said : (word : List ℕ) (n : ℕ) → count_in word ≡ Some n → IsCountSaid word n
count_said word n e =
    let m = number_of word in
    let t = told_if (nat_lt m (2 ^ 64) && bytes_eq word (decimal m)) (Some m) n e in
    let both = and_parts (nat_lt m (2 ^ 64)) (bytes_eq word (decimal m)) t.0 in
    subst (IsCountSaid word) (same_Some m n t.1) (ltb-true m (2 ^ 64) both.0, (bytes_eq-Decides word (decimal m)).0 both.1)

pub count_found : (word : List ℕ) (r : Option ℕ) → Finds (IsCountSaid word) r → r ≡ count_in word
count_found word r h = found_is (IsCountSaid word) r (count_in word) h (count_said word) (λ n s. ap count_in s.1 ∙ count_own n s.0)
