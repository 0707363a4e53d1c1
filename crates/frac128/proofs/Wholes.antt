-- Sums and products of whole numbers.
use Rattle.std.proofs.Common.{◌≡◌, ℕ, ◌*◌, ◌/◌, ◌≤◌, ℤ, pos, ◌*ℤ◌, ◌+ℤ◌, unsigned_abs, Option, Some, None, MatchOption, sym, ap, ap₂, subst, ◌∙◌, arith}
use Rattle.std.proofs.Math.IntN.{*ℤ-one}
use Rattle.algebra.specs.Gcd.{lcm}
use Rattle.algebra.proofs.Gcd.{coprime_one}
use Rattle.frac128.specs.declared.raw.Parts.{Parts}
use Rattle.frac128.specs.Raw.{ProductFits, SumFits, WholeSumFits, IsSameValue}

-- the least common denominator of whole numbers
lcm_ones : lcm 1 1 ≡ 1
lcm_ones = ap (λ (g : ℕ). 1 / g * 1) (coprime_one 1)

module _ (m : ℕ) (x y : ℤ) (one : 1 ≤ m) where
  -- the sum's rule, where the common denominator is so many
  abbrev By : ℕ → Type 0
  By l = (l ≤ m) × (unsigned_abs x * (l / 1) ≤ m) × (unsigned_abs y * (l / 1) ≤ m) × (unsigned_abs (x *ℤ pos (l / 1) +ℤ y *ℤ pos (l / 1)) ≤ m)

  ones : x *ℤ pos 1 +ℤ y *ℤ pos 1 ≡ x +ℤ y
  unfolding lib.IntN.one
  ones = ap₂ (λ (a b : ℤ). a +ℤ b) (*ℤ-one x) (*ℤ-one y)

  pub whole_sum_in : WholeSumFits m x y → SumFits m x 1 y 1
  whole_sum_in h =
      let a : unsigned_abs x ≤ m = h.0 in
      let b : unsigned_abs y ≤ m = h.1 in
      subst By (sym lcm_ones) (one, (let k : unsigned_abs x * 1 ≤ m = omega arith in k), (let k : unsigned_abs y * 1 ≤ m = omega arith in k), subst (λ (z : ℤ). unsigned_abs z ≤ m) (sym ones) h.2)

  pub whole_sum_out : SumFits m x 1 y 1 → WholeSumFits m x y
  whole_sum_out h =
      let k : By 1 = subst By lcm_ones h in
      let a : unsigned_abs x * 1 ≤ m = k.1 in
      let b : unsigned_abs y * 1 ≤ m = k.2 in
      ((let l : unsigned_abs x ≤ m = omega arith in l), (let l : unsigned_abs y ≤ m = omega arith in l), subst (λ (z : ℤ). unsigned_abs z ≤ m) ones k.3)

  -- the product's rule, where the greatest common divisor is so many
  pub whole_product_in : unsigned_abs (x *ℤ y) ≤ m → ProductFits m x 1 y 1
  whole_product_in h = subst (λ (g : ℕ). (unsigned_abs (x *ℤ y) / g ≤ m) × (1 * 1 / g ≤ m)) (sym (coprime_one (unsigned_abs (x *ℤ y)))) ((let k : unsigned_abs (x *ℤ y) / 1 ≤ m = omega arith in k), one)

  pub whole_product_out : ProductFits m x 1 y 1 → unsigned_abs (x *ℤ y) ≤ m
  whole_product_out h =
      let k : (unsigned_abs (x *ℤ y) / 1 ≤ m) × (1 * 1 / 1 ≤ m) = subst (λ (g : ℕ). (unsigned_abs (x *ℤ y) / g ≤ m) × (1 * 1 / g ≤ m)) (coprime_one (unsigned_abs (x *ℤ y))) h in
      let l : unsigned_abs (x *ℤ y) / 1 ≤ m = k.0 in
      omega arith

-- what is told of the sum of whole numbers, as of any parts; the numbers are read from the bits of the machine
pub whole_sum_answer : (m : ℕ) (x : ℤ) (b : ℕ) (y : ℤ) (d : ℕ) (u v : ℤ) (o : Option Parts) → b ≡ 1 → d ≡ 1 → u ≡ x → v ≡ y → 1 ≤ m
    → MatchOption o (¬ (WholeSumFits m u v)) (λ r. WholeSumFits m u v × ((r.num ≡ u +ℤ v) × (r.den ≡ 1)))
    → MatchOption o (¬ (SumFits m x b y d)) (λ r. SumFits m x b y d × IsSameValue r.num r.den (x *ℤ pos d +ℤ y *ℤ pos b) (b * d) × (unsigned_abs r.num ≤ m) × (r.den ≤ m))
whole_sum_answer m x b y d u v o eb ed eu ev one h = rw (eb, ed) (by o (rw (eu, ev) at h))
  where
    by : (o : Option Parts) → MatchOption o (¬ (WholeSumFits m x y)) (λ r. WholeSumFits m x y × ((r.num ≡ x +ℤ y) × (r.den ≡ 1)))
        → MatchOption o (¬ (SumFits m x 1 y 1)) (λ r. SumFits m x 1 y 1 × IsSameValue r.num r.den (x *ℤ pos 1 +ℤ y *ℤ pos 1) (1 * 1) × (unsigned_abs r.num ≤ m) × (r.den ≤ m))
    by None h = λ p. h (whole_sum_out m x y one p)
    by (Some r) h =
        let fits : WholeSumFits m x y = h.0 in
        let n : r.num ≡ x +ℤ y = h.1.0 in
        let e : r.den ≡ 1 = h.1.1 in (
          whole_sum_in m x y one fits,
          (ap (λ (z : ℤ). z *ℤ pos 1) (n ∙ sym (ones m x y one)) ∙ ap (λ (k : ℕ). (x *ℤ pos 1 +ℤ y *ℤ pos 1) *ℤ pos k) (sym e)),
          subst (λ (z : ℤ). unsigned_abs z ≤ m) (sym n) fits.2,
          subst (λ (k : ℕ). k ≤ m) (sym e) one,
        )

-- and of the product
pub whole_product_answer : (m : ℕ) (x : ℤ) (b : ℕ) (y : ℤ) (d : ℕ) (u v : ℤ) (o : Option Parts) → b ≡ 1 → d ≡ 1 → u ≡ x → v ≡ y → 1 ≤ m
    → MatchOption o (¬ (unsigned_abs (u *ℤ v) ≤ m)) (λ r. (unsigned_abs (u *ℤ v) ≤ m) × ((r.num ≡ u *ℤ v) × (r.den ≡ 1)))
    → MatchOption o (¬ (ProductFits m x b y d)) (λ r. ProductFits m x b y d × IsSameValue r.num r.den (x *ℤ y) (b * d) × (unsigned_abs r.num ≤ m) × (r.den ≤ m))
whole_product_answer m x b y d u v o eb ed eu ev one h = rw (eb, ed) (by o (rw (eu, ev) at h))
  where
    by : (o : Option Parts) → MatchOption o (¬ (unsigned_abs (x *ℤ y) ≤ m)) (λ r. (unsigned_abs (x *ℤ y) ≤ m) × ((r.num ≡ x *ℤ y) × (r.den ≡ 1)))
        → MatchOption o (¬ (ProductFits m x 1 y 1)) (λ r. ProductFits m x 1 y 1 × IsSameValue r.num r.den (x *ℤ y) (1 * 1) × (unsigned_abs r.num ≤ m) × (r.den ≤ m))
    by None h = λ p. h (whole_product_out m x y one p)
    by (Some r) h =
        let fits : unsigned_abs (x *ℤ y) ≤ m = h.0 in
        let n : r.num ≡ x *ℤ y = h.1.0 in
        let e : r.den ≡ 1 = h.1.1 in (
          whole_product_in m x y one fits,
          (ap (λ (z : ℤ). z *ℤ pos 1) n ∙ ap (λ (k : ℕ). (x *ℤ y) *ℤ pos k) (sym e)),
          subst (λ (z : ℤ). unsigned_abs z ≤ m) (sym n) fits,
          subst (λ (k : ℕ). k ≤ m) (sym e) one,
        )
