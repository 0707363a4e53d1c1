-- Fractions over a common denominator: what they add up to, and that no operation on small ones is too wide.
use Rattle.std.proofs.Common.{◌≡◌, ℕ, ◌*◌, ◌/◌, ◌<◌, ◌≤◌, ℤ, pos, ◌*ℤ◌, ◌+ℤ◌, unsigned_abs, false, inl, inr, List, [], ◌∷◌, refl, sym, ap, subst, ◌∙◌, arith}
use Rattle.std.specs.Int.{◌∣◌}
use Rattle.std.proofs.lemmas.Int.{unsigned_abs-mul}
use Rattle.std.proofs.Math.Nat.{div-le_self, div-mul_cancel, dvd-mul_left, dvd-mul_right, le_of_dvd, mul-le-mul_left, mul-pos, pos_of_dvd_of_pos}
use Rattle.algebra.specs.Gcd.{gcd, lcm}
use Rattle.algebra.proofs.Gcd.{lcm-dvd_left, lcm-dvd_right, lcm_least, lowest_dvd}
use Rattle.algebra.proofs.Ring.{ring_ℤ, unit_of, zero_of, x0, x1, x2, ◌:+◌, ◌:*◌}
use Rattle.algebra.proofs.Signs.{z-add-mul, z-mul_pos, z_cancel}
use Rattle.rational.specs.Rational.{ℚ, frac, zero_ℚ, ◌+ℚ◌, ◌*ℚ◌}
use Rattle.rational.proofs.Values.{IsFrac, frac-is, is-add, is-mul, is-zero, moved, same_from, self}
use Rattle.frac128.specs.declared.Op.TheVariants.{Times}
use Rattle.frac128.specs.Limit.{limit}
use Rattle.frac128.specs.Calculation.{AddsProduct}
use Rattle.frac128.specs.Raw.{ProductFits, SumFits}
use Rattle.frac128.specs.Width.{IsTooWide, is_wide, operation}
use Rattle.frac128.proofs.Wides.{frac_den, frac_num, product_not_wide, sum_not_wide}
use Rattle.frac128.proofs.Widths.{not_wide_from}

-- a product that is small as it stands is small in lowest terms
product_fits_over : (m : ℕ) (a b : ℚ) → unsigned_abs (a.num *ℤ b.num) ≤ m → a.den * b.den ≤ m → ProductFits m a.num a.den b.num b.den
product_fits_over m a b top bottom =
    let p = div-le_self (unsigned_abs (a.num *ℤ b.num)) (gcd (unsigned_abs (a.num *ℤ b.num)) (a.den * b.den)) in
    let q = div-le_self (a.den * b.den) (gcd (unsigned_abs (a.num *ℤ b.num)) (a.den * b.den)) in
    (omega (arith, p, top), omega (arith, q, bottom))

-- the same fraction over a multiple of its denominator
pub widened : {q : ℚ} (n : ℤ) (d u c : ℕ) → IsFrac q n d → 0 < c → u * d ≡ c → IsFrac q (n *ℤ pos u) c
widened n d u c f above e = moved f above (sym (z-mul_pos n u d ∙ ap (λ i. n *ℤ pos i) e))

grown : (n : ℤ) (k : ℕ) → 0 < k → unsigned_abs n ≤ unsigned_abs (n *ℤ pos k)
grown n k h =
    let e = unsigned_abs-mul n (pos k) in
    let l = mul-le-mul_left (unsigned_abs n) (let g : 1 ≤ k = omega (arith, h) in g) in
    omega (arith, e, l)

module _ (c : ℕ) (above : 0 < c) where
  den_divides : (a : ℚ) (x : ℤ) → IsFrac a x c → a.den ∣ c
  den_divides a x f =
      (lowest_dvd (unsigned_abs a.num) a.den (unsigned_abs x) c a.lowest (sym (unsigned_abs-mul a.num (pos c)) ∙ ap unsigned_abs f.crossed ∙ unsigned_abs-mul x (pos a.den))).1

  -- over a smaller common denominator, times what it lacks
  scaled_back : (a : ℚ) (x : ℤ) (l : ℕ) → IsFrac a x c → a.den ∣ l → l ∣ c → (a.num *ℤ pos (l / a.den)) *ℤ pos (c / l) ≡ x
  scaled_back a x l f d e =
      let p = l / a.den in
      let k = c / l in
      let pe : p * a.den ≡ l = div-mul_cancel a.den d in
      let ke : k * l ≡ c = div-mul_cancel l e in
      let y = ap (λ (n : ℕ). k * n) pe in
      let all : p * k * a.den ≡ c = omega arith in
      z_cancel ((a.num *ℤ pos p) *ℤ pos k) x a.den a.positive
      (ap (λ z. z *ℤ pos a.den) (z-mul_pos a.num p k) ∙ z-mul_pos a.num (p * k) a.den ∙ ap (λ n. a.num *ℤ pos n) all ∙ f.crossed)

  sum_fits_over : (m : ℕ) (a b : ℚ) (x y : ℤ) → c ≤ m → IsFrac a x c → IsFrac b y c → unsigned_abs x ≤ m → unsigned_abs y ≤ m → unsigned_abs (x +ℤ y) ≤ m → SumFits m a.num a.den b.num b.den
  sum_fits_over m a b x y small f g hx hy hs =
      let l = lcm a.den b.den in
      let le : l ∣ c = lcm_least a.den b.den c b.positive (den_divides a x f) (den_divides b y g) in
      let k = c / l in
      let ke : k * l ≡ c = div-mul_cancel l le in
      let some : 0 < k = pos_of_dvd_of_pos (subst (λ (n : ℕ). k ∣ n) ke (dvd-mul_right k l)) above in
      let u = a.num *ℤ pos (l / a.den) in
      let v = b.num *ℤ pos (l / b.den) in
      let left : u *ℤ pos k ≡ x = scaled_back a x l f (lcm-dvd_left a.den b.den b.positive) le in
      let right : v *ℤ pos k ≡ y = scaled_back b y l g (lcm-dvd_right a.den b.den) le in
      let both : (u +ℤ v) *ℤ pos k ≡ x +ℤ y = z-add-mul u v (pos k) ∙ (λ i. left i +ℤ right i) in
      let first = grown u k some in
      let second = grown v k some in
      let third = grown (u +ℤ v) k some in
      let un = unsigned_abs-mul a.num (pos (l / a.den)) in
      let vn = unsigned_abs-mul b.num (pos (l / b.den)) in
      let lx = ap unsigned_abs left in
      let ly = ap unsigned_abs right in
      let ls = ap unsigned_abs both in
      let within = le_of_dvd above le in (
        omega (arith, within, small),
        omega (arith, un, first, lx, hx),
        omega (arith, vn, second, ly, hy),
        omega (arith, third, ls, hs),
      )

  sum_over : {a b : ℚ} (x y : ℤ) → IsFrac a x c → IsFrac b y c → IsFrac (a +ℚ b) (x +ℤ y) c
  sum_over x y f g = moved (is-add f g) above (ring_ℤ (x ∷ y ∷ pos c ∷ []) ((x0 :* x2 :+ x1 :* x2) :* x2) ((x0 :+ x1) :* (x2 :* x2)) tt)

-- a product more, over a denominator that is a multiple of both
pub adds_product : (sum factor value : ℚ) (n : ℤ) (d : ℕ) (t : ℤ) (b c u v : ℕ) → sum ≡ frac n d → 0 < d → factor.num *ℤ value.num ≡ t → factor.den * value.den ≡ b
    → 0 < c → c ≤ limit → u * d ≡ c → v * b ≡ c → unsigned_abs t ≤ limit → unsigned_abs (n *ℤ pos u) ≤ limit → unsigned_abs (t *ℤ pos v) ≤ limit → unsigned_abs (n *ℤ pos u +ℤ t *ℤ pos v) ≤ limit
    → AddsProduct sum factor value (frac (n *ℤ pos u +ℤ t *ℤ pos v) c)
adds_product sum factor value n d t b c u v is some top bottom above small ud vb ht hx hy hs =
    let whole : IsFrac sum n d = subst (λ q. IsFrac q n d) (sym is) (frac-is n d some) in
    let part : IsFrac (factor *ℚ value) t b = subst (λ (p : ℤ × ℕ). IsFrac (factor *ℚ value) p.0 p.1) (λ i. (top i, bottom i)) (is-mul (self factor) (self value)) in
    let left = widened n d u c whole above ud in
    let right = widened t b v c part above vb in
    let within : b ≤ c = le_of_dvd above (subst (λ (k : ℕ). b ∣ k) vb (dvd-mul_left b v)) in
    record {
      is = same_from (frac-is _ c above) (sum_over c above (n *ℤ pos u) (t *ℤ pos v) left right) refl;
      times = product_not_wide limit factor value (product_fits_over limit factor value (subst (λ z. unsigned_abs z ≤ limit) (sym top) ht) (omega (arith, within, small, bottom)));
      plus = sum_not_wide limit sum (factor *ℚ value) (sum_fits_over c above limit sum (factor *ℚ value) (n *ℤ pos u) (t *ℤ pos v) small left right hx hy hs);
    }

-- nothing more, where the product is 0
nothing_fits : (a b : ℚ) → a *ℚ b ≡ zero_ℚ → is_wide limit (operation Times a b) ≡ false
nothing_fits a b e =
    let some : 0 < 1 = omega arith in
    let p = frac_num (pos 0) 1 some in
    let q = frac_den (pos 0) 1 some in
    let top = div-le_self 0 (gcd 0 1) in
    let bottom = div-le_self 1 (gcd 0 1) in
    not_wide_from limit (operation Times a b) (λ w. elim (subst (IsTooWide limit) e w) [
      | inl l ↦ absurd (omega (arith, l, p, top))
      | inr l ↦ absurd (omega (arith, l, q, bottom))
    ])

pub adds_nothing : (sum factor value : ℚ) (n : ℤ) (d : ℕ) → sum ≡ frac n d → 0 < d → d ≤ limit → unsigned_abs n ≤ limit → factor.num *ℤ value.num ≡ pos 0 → AddsProduct sum factor value sum
adds_nothing sum factor value n d is some small fits none =
    let zero : factor *ℚ value ≡ zero_ℚ = same_from (is-mul (self factor) (self value)) is-zero (ap (λ z. z *ℤ pos 1) none ∙ ring_ℤ (pos (factor.den * value.den) ∷ []) (zero_of :* unit_of) (zero_of :* x0) tt) in
    let whole : IsFrac sum n d = subst (λ q. IsFrac q n d) (sym is) (frac-is n d some) in
    let part : IsFrac (factor *ℚ value) (pos 0) d = subst (λ q. IsFrac q (pos 0) d) (sym zero) (moved is-zero some (ring_ℤ (pos d ∷ []) (zero_of :* x0) (zero_of :* unit_of) tt)) in
    let same : n +ℤ pos 0 ≡ n = ring_ℤ (n ∷ []) (x0 :+ zero_of) x0 tt in
    record {
      is = same_from whole (sum_over d some n (pos 0) whole part) (ap (λ z. z *ℤ pos d) (sym same));
      times = nothing_fits factor value zero;
      plus = sum_not_wide limit sum (factor *ℚ value) (sum_fits_over d some limit sum (factor *ℚ value) n (pos 0) small whole part fits (omega arith) (subst (λ z. unsigned_abs z ≤ limit) (sym same) fits));
    }
