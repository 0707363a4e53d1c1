-- The value of a literal that fits is within the limit.
use Rattle.std.proofs.Common.{◌≡◌, refl, subst, ℕ, suc, ◌*◌, ◌^◌, ◌<◌, ◌≤◌, ◌==◌, leb, Bool, true, false, cond, List, ℤ, pos, negsuc, unsigned_abs, Option, Some, None, arith, inl, inr}
use Rattle.std.specs.Prelude.{option_map}
use Rattle.std.proofs.lemmas.Bool.{and_parts}
use Rattle.std.proofs.lemmas.Option.{same_Some}
use Rattle.std.proofs.Math.Nat.{div-le_self}
use Rattle.algebra.specs.Sign.{signed_of}
use Rattle.algebra.proofs.Signs.{abs-neg}
use Rattle.rational.specs.Rational.{ℚ, frac, zero_ℚ}
use Rattle.frac128.specs.Limit.{limit}
use Rattle.frac128.specs.Width.{is_too_wide}
use Rattle.frac128.specs.Literal.{Spelling, spelling_of, reading, significant, place, is_fitting, is_huge, scaled, literal_of}
use Rattle.frac128.specs.declared.literal.Literal.TheVariants.{Fits, TooWide}
use Rattle.frac128.proofs.Placed.{leb-le, ten-pos, ten-le}
use Rattle.frac128.proofs.Wides.{frac_num, frac_den}
use Rattle.frac128.proofs.Widths.{fits_from}
use Rattle.text_fields.specs.Numbers.{literal_in}

-- a fraction of parts within the limit
parts_fit : (n : ℤ) (d : ℕ) → 0 < d → unsigned_abs n ≤ limit → d ≤ limit → is_too_wide limit (frac n d) ≡ false
parts_fit n d h p q =
    let a : unsigned_abs (frac n d).num ≤ unsigned_abs n = rw (frac_num n d h) (div-le_self (unsigned_abs n) _) in
    let b : (frac n d).den ≤ d = rw (frac_den n d h) (div-le_self d _) in
    fits_from limit (frac n d) (λ w. elim w [ inl k ↦ absurd (omega arith) | inr k ↦ absurd (omega arith) ])

magnitude : (negative : Bool) (d : ℕ) → unsigned_abs (signed_of negative d) ≡ d
magnitude false d = refl
magnitude true d = abs-neg (pos d)

signed_fits : (negative : Bool) (d e : ℕ) → 0 < e → d ≤ limit → e ≤ limit → is_too_wide limit (frac (signed_of negative d) e) ≡ false
signed_fits negative d e h p q = parts_fit (signed_of negative d) e h (let m = magnitude negative d in omega arith) q

scaled_within : (negative : Bool) (d : ℕ) (q : ℤ) → is_fitting d q ≡ true → is_too_wide limit (scaled negative d q) ≡ false
unfolding is_fitting scaled
scaled_within negative d (pos k) e = signed_fits negative (d * 10 ^ k) 1 (omega arith) (leb-le (d * 10 ^ k) limit (and_parts (leb d limit) (leb (d * 10 ^ k) limit) e).1) (omega arith)
scaled_within negative d (negsuc k) e =
    let both = and_parts (leb d limit) (leb (suc k) 38) e in
    let low = ten-le (suc k) 38 (leb-le (suc k) 38 both.1) in
    signed_fits negative d (10 ^ suc k) (ten-pos (suc k)) (leb-le d limit both.0) (omega arith)

same_value : (v w : ℚ) → Fits v ≡ Fits w → v ≡ w
same_value v w e = cc

reading_within : (negative : Bool) (d : ℕ) (q : ℤ) (v : ℚ) → literal_of negative d q ≡ Fits v → is_too_wide limit v ≡ false
unfolding literal_of
reading_within negative d q v e = by (d == 0) (is_fitting d q) refl e
  where
    by : (zero fits : Bool) → is_fitting d q ≡ fits → cond zero (Fits zero_ℚ) (cond fits (Fits (scaled negative d q)) (TooWide (is_huge d q) negative)) ≡ Fits v → is_too_wide limit v ≡ false
    by true fits f g = subst (λ (w : ℚ). is_too_wide limit w ≡ false) (same_value zero_ℚ v g) (parts_fit (pos 0) 1 (omega arith) (omega arith) (omega arith))
    by false true f g = subst (λ (w : ℚ). is_too_wide limit w ≡ false) (same_value (scaled negative d q) v g) (scaled_within negative d q f)
    by false false f g = absurd (let s : TooWide (is_huge d q) negative ≡ Fits v = g in cc)

pub literal_within : (word : List ℕ) (v : ℚ) → literal_in word ≡ Some (Fits v) → is_too_wide limit v ≡ false
literal_within word v e = by (spelling_of word) e
  where
    by : (o : Option Spelling) → option_map reading o ≡ Some (Fits v) → is_too_wide limit v ≡ false
    by None g = absurd (let s : None ≡ Some (Fits v) = g in cc)
    by (Some x) g = reading_within x.negative (significant x) (place x) v (same_Some (reading x) (Fits v) g)
