-- The floor of a fraction that is not whole stands from -M to M - 1, where M is the greatest part of a fraction.
use Rattle.std.proofs.Common.{◌≡◌, ◌<◌, ◌≤◌, ◌*◌, ℕ, zero, suc, sym, subst, false, arith}
use Rattle.std.specs.Prelude.{unsigned_abs, nat_lt}
use Rattle.std.proofs.Math.Nat.{mul-le-mul}
use Rattle.std.proofs.lemmas.Bool.{ltb-false, or_parts}
use Rattle.std.proofs.lemmas.Int.{ints, by_lt_z}
use lib.IntN.{ℤ, pos, negsuc, ◌+ℤ◌, ◌*ℤ◌, neg_ℤ}
use lib.Signed.{◌<ℤ◌, ◌≤ℤ◌}
use borrow.Author.Differences.{neg_is}
use Rattle.rational.specs.Rational.{ℚ, IsWhole, floor, whole, ◌≤ℚ◌}
use Rattle.rational.proofs.Order.{le-fracs, le_antisymm_ℚ, le_trans_ℚ, lt_irrefl_ℚ, lt-le_trans_ℚ}
use Rattle.rational.proofs.Values.{self}
use Rattle.rational.proofs.Whole.{floor-le, lt-floor, whole-is, whole-le, whole-whole}
use Rattle.frac128.specs.Width.{is_too_wide}

-- a numerator of such a magnitude, over a positive denominator
num_below : (m : ℕ) (n : ℤ) (d : ℕ) → 0 < d → unsigned_abs n ≤ m → (n *ℤ pos 1) ≤ℤ (pos m *ℤ pos d)
num_below m (pos n) d p l = let k : n * 1 ≤ m * d = mul-le-mul l p in omega (arith, ints)
num_below m (negsuc n) d p l = omega (arith, ints)

num_above : (m : ℕ) (n : ℤ) (d : ℕ) → 0 < d → unsigned_abs n ≤ m → (neg_ℤ (pos m) *ℤ pos d) ≤ℤ (n *ℤ pos 1)
num_above zero (pos n) d p l = omega (arith, ints)
num_above (suc k) (pos n) d p l = omega (arith, ints, neg_is (pos (suc k * d)))
num_above zero (negsuc n) d p l = absurd (let none : suc n ≤ 0 = l in omega arith)
num_above (suc k) (negsuc n) d p l = let most : suc n * 1 ≤ suc k * d = mul-le-mul l p in omega (arith, ints, neg_is (pos (suc k * d)))

module _ (m : ℕ) (q : ℚ) (fits : is_too_wide m q ≡ false) where
  below : q ≤ℚ whole (pos m)
  below = (le-fracs (self q) (whole-is (pos m))).1 (num_below m q.num q.den q.positive (ltb-false m (unsigned_abs q.num) (or_parts (nat_lt m (unsigned_abs q.num)) (nat_lt m q.den) fits).0))

  above : whole (neg_ℤ (pos m)) ≤ℚ q
  above = (le-fracs (whole-is (neg_ℤ (pos m))) (self q)).1 (num_above m q.num q.den q.positive (ltb-false m (unsigned_abs q.num) (or_parts (nat_lt m (unsigned_abs q.num)) (nat_lt m q.den) fits).0))

  pub floor_above : neg_ℤ (pos m) ≤ℤ floor q
  floor_above =
      by_lt_z (floor q) (neg_ℤ (pos m))
      (λ l. let next : (floor q +ℤ pos 1) ≤ℤ neg_ℤ (pos m) = omega (arith, ints) in
      absurd (lt_irrefl_ℚ (lt-le_trans_ℚ (lt-floor q) (le_trans_ℚ (whole-le (floor q +ℤ pos 1) (neg_ℤ (pos m)) next) above))))
      (λ l. l)

  pub floor_below : (IsWhole q → ⊥) → floor q <ℤ pos m
  floor_below h =
      by_lt_z (floor q) (pos m) (λ l. l)
      (λ l. let same : q ≡ whole (pos m) = le_antisymm_ℚ below (le_trans_ℚ (whole-le (pos m) (floor q) l) (floor-le q)) in
      absurd (h (subst IsWhole (sym same) (whole-whole (pos m)))))
