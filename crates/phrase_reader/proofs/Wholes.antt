-- Whole numbers as they are printed.
use Rattle.std.proofs.Common.{◌≡◌, sym, ap, ◌∙◌, ℕ, ℤ, List, nat_lt, unsigned_abs, arith, false}
use Rattle.std.specs.Fmt.{signed_decimal}
use Rattle.std.proofs.lemmas.Bool.{or_from, or_parts, le-ltb, ltb-false}
use Rattle.rational.specs.Rational.{ℚ, whole, IsWhole}
use Rattle.rational.proofs.Whole.{same_from_whole, whole-num, whole-whole}
use Rattle.frac128.specs.Limit.{limit}
use Rattle.frac128.specs.Width.{is_too_wide}
use Rattle.frac128.proofs.Texts.{printed_whole}
use Rattle.phrase_reader.specs.Words.{IsFractionSaid, IsWholeSaid}

pub num_is : (k : ℤ) → (whole k).num ≡ k
num_is k = same_from_whole (whole k).num k (whole-num (whole k) (whole-whole k))

-- a fraction that is whole is printed as its numerator
pub said_whole : (text : List ℕ) (q : ℚ) → IsFractionSaid text q → IsWhole q → IsWholeSaid text q.num
said_whole text q h w = (ltb-false limit (unsigned_abs q.num) (or_parts (nat_lt limit (unsigned_abs q.num)) (nat_lt limit q.den) h.0).0, h.1 ∙ printed_whole q w)

-- and a whole number as a fraction
pub said_fraction : (text : List ℕ) (k : ℤ) → IsWholeSaid text k → IsFractionSaid text (whole k)
said_fraction text k h =
    let w = whole-whole k in
    let narrow : is_too_wide limit (whole k) ≡ false =
    or_from (nat_lt limit (unsigned_abs (whole k).num)) (nat_lt limit (whole k).den)
    (ap (λ z. nat_lt limit (unsigned_abs z)) (num_is k) ∙ le-ltb limit (unsigned_abs k) h.0)
    (ap (nat_lt limit) w ∙ le-ltb limit 1 (omega arith)) in
    (narrow, h.1 ∙ ap signed_decimal (sym (num_is k)) ∙ sym (printed_whole (whole k) w))
