-- What printed fractions are read as, by their digits, and as literals.
use Rattle.std.proofs.Common.{◌≡◌, ◌≢◌, refl, sym, ap, subst, ◌∙◌, ℕ, suc, ◌+◌, ◌-◌, ◌*◌, ◌^◌, ◌<◌, ◌≤◌, ◌==◌, Bool, true, false, cond, List, [], ◌∷◌, ◌++◌, length, take, drop, get_or, decimal, ℤ, pos, negsuc, ◌+ℤ◌, ◌-ℤ◌, leb, unsigned_abs, Option, Some, None, option_map, arith, inl, inr, true≢false, append-nil}
use Rattle.std.specs.Prelude.{nat_lt, not, ◌&&◌}
use Rattle.phrase_reader.proofs.Named.{found_is}
use Rattle.std.specs.Str.{bytes_eq}
use Rattle.std.proofs.lemmas.Slice.Eq.{bytes_eq-Decides}
use Rattle.std.specs.List.{list_all, prefix_len}
use Rattle.std.specs.Fmt.{signed_decimal}
use Rattle.std.proofs.Math.Seq.{drop-append_seam, take-append_seam}
use Rattle.std.proofs.lemmas.Bool.{cases_eq, and_parts, or_parts, ltb-false}
use Rattle.std.proofs.lemmas.Bool.Decides.{nat_tests}
use Rattle.std.proofs.lemmas.Option.{same_Some}
use Rattle.std.proofs.lemmas.Fmt.{decimal_is_IsNumeral_wide}
use Rattle.algebra.specs.Sign.{signed_of}
use Rattle.rational.specs.Rational.{ℚ, frac, zero_ℚ}
use Rattle.rational.proofs.Field.{frac-self}
use Rattle.frac128.specs.Limit.{limit}
use Rattle.frac128.specs.Width.{is_too_wide}
use Rattle.frac128.specs.Printed.{printed}
use Rattle.frac128.specs.Literal.{is_dec, number_of, kept, past_sign, past_digits, spelling_of, reading, is_fitting, is_huge, scaled, literal_of}
use Rattle.frac128.specs.declared.literal.Literal.TheVariants.{Fits, TooWide}
use Rattle.frac128.proofs.Digits.{number-nil}
use Rattle.frac128.proofs.Literals.{kept-value}
use Rattle.frac128.proofs.Placed.{leb-yes, ten-pos}
use Rattle.text_fields.specs.Numbers.{literal_in}
use Rattle.frac128.proofs.Spellings.{sign-minus, sign-other, point-none, point-not, exponent-none, exponent-not, spelled-none, spelled-some}
use Rattle.frac128.proofs.Texts.{printed_whole, printed_part}
use Rattle.phrase_reader.specs.Numerals.{bottom_of, quotient_in, printed_as, fraction_in}
use Rattle.phrase_reader.specs.Words.{Finds, IsFractionSaid}
use Rattle.phrase_reader.proofs.Budgets.{own}

-- ---- digits, and what stands behind them
-- the rest begins with no digit
abbrev Ends : List ℕ → Type 0
Ends rest = prefix_len is_dec rest ≡ 0

digits_len : (ds rest : List ℕ) → list_all is_dec ds ≡ true → Ends rest → prefix_len is_dec (ds ++ rest) ≡ length ds
digits_len [] rest h e = e
digits_len (d ∷ ds) rest h e =
    let both = and_parts (is_dec d) (list_all is_dec ds) h in
    let r = digits_len ds rest both.1 e in
    let n : 1 + prefix_len is_dec (ds ++ rest) ≡ suc (length ds) = omega arith in
    rw (both.0) n

past_all : (ds rest : List ℕ) → list_all is_dec ds ≡ true → Ends rest → past_digits (ds ++ rest) ≡ (ds, rest)
unfolding past_digits
past_all ds rest h e =
    ap (λ (n : ℕ). (take n (ds ++ rest), drop n (ds ++ rest))) (digits_len ds rest h e)
    ∙ (λ i. (take-append_seam ds rest i, drop-append_seam ds rest i))

-- ---- the text of a number
-- its digits, which write it
record IsTextOf (n : ℕ) (ds : List ℕ) : Type 0 where
  some : length ds ≢ 0
  digits : list_all is_dec ds ≡ true
  value : number_of ds ≡ n

text_of_number : (n : ℕ) → n ≤ limit → IsTextOf n (decimal n)
text_of_number n h =
    let k = decimal_is_IsNumeral_wide n (omega arith) in
    record { some = (λ e. (let s = k.0.0 in omega arith)); digits = own.from (decimal n) k.0.1; value = own.same (decimal n) k.0.1 ∙ k.1 }

no_sign : (c : ℕ) → is_dec c ≡ true → (c ≢ 45) × (c ≢ 43)
no_sign c h = (λ e. true≢false (sym h ∙ ap is_dec e), λ e. true≢false (sym h ∙ ap is_dec e))

-- a sign, and the digits of a magnitude, with what stands behind them
record IsSigned (z : ℤ) (rest word : List ℕ) : Type 0 where
  negative : Bool
  digits : List ℕ
  text : IsTextOf (unsigned_abs z) digits
  sign : past_sign word ≡ (negative, digits ++ rest)
  is : signed_of negative (unsigned_abs z) ≡ z

unsigned_text : (ds rest : List ℕ) → length ds ≢ 0 → list_all is_dec ds ≡ true → past_sign (ds ++ rest) ≡ (false, ds ++ rest)
unsigned_text [] rest some h = absurd (some refl)
unsigned_text (d ∷ ds) rest some h =
    let n = no_sign d (and_parts (is_dec d) (list_all is_dec ds) h).0 in
    sign-other (d ∷ (ds ++ rest)) d (ds ++ rest) refl n.0 n.1

signed_text : (z : ℤ) (rest : List ℕ) → unsigned_abs z ≤ limit → IsSigned z rest (signed_decimal z ++ rest)
signed_text (pos n) rest h =
    let t = text_of_number n h in
    record { negative = false; digits = decimal n; text = t; sign = unsigned_text (decimal n) rest t.some t.digits; is = refl }
signed_text (negsuc n) rest h =
    record { negative = true; digits = decimal (suc n); text = text_of_number (suc n) h; sign = sign-minus (45 ∷ (decimal (suc n) ++ rest)) 45 (decimal (suc n) ++ rest) refl refl; is = refl }

-- ---- the literal that is printed
-- after a sign and digits that stand alone, and before a mark that no literal has
whole_spelling : (z : ℤ) (word : List ℕ) (s : IsSigned z [] word) → spelling_of word ≡ Some (record { negative = s.negative; before = s.digits; after = []; below = false; exponent = [] })
whole_spelling z word s =
    let d = past_all s.digits [] s.text.digits refl in
    let p = point-none [] refl in
    spelled-some word s.negative (s.digits ++ []) s.digits [] [] []
    (sym (ap (λ (t : Bool × List ℕ). t.0) s.sign)) (sym (ap (λ (t : Bool × List ℕ). t.1) s.sign))
    (sym (ap (λ (t : List ℕ × List ℕ). t.0) d)) (sym (ap (λ (t : List ℕ × List ℕ). t.1) d))
    (sym (ap (λ (t : List ℕ × List ℕ). t.0) p)) (sym (ap (λ (t : List ℕ × List ℕ). t.1) p))
    false [] (λ e. s.text.some (omega arith)) (exponent-none [] refl)

no_spelling : (z : ℤ) (rest word : List ℕ) → IsSigned z (47 ∷ rest) word → spelling_of word ≡ None
no_spelling z rest word s =
    let d = past_all s.digits (47 ∷ rest) s.text.digits refl in
    let p = point-not (47 ∷ rest) 47 rest refl (omega arith) in
    spelled-none word s.negative (s.digits ++ (47 ∷ rest)) s.digits (47 ∷ rest) [] (47 ∷ rest)
    (sym (ap (λ (t : Bool × List ℕ). t.0) s.sign)) (sym (ap (λ (t : Bool × List ℕ). t.1) s.sign))
    (sym (ap (λ (t : List ℕ × List ℕ). t.0) d)) (sym (ap (λ (t : List ℕ × List ℕ). t.1) d))
    (sym (ap (λ (t : List ℕ × List ℕ). t.0) p)) (sym (ap (λ (t : List ℕ × List ℕ). t.1) p))
    (exponent-not (47 ∷ rest) 47 rest refl refl)

-- d with k zeros
scaled_fits : (negative : Bool) (d k n : ℕ) → d * 10 ^ k ≡ n → n ≤ limit → literal_of negative d (pos k) ≡ Fits (frac (signed_of negative n) 1)
unfolding literal_of is_fitting scaled
scaled_fits negative d k n e h = by (d == 0) refl
  where
    nothing : (negative : Bool) → Fits zero_ℚ ≡ Fits (frac (signed_of negative 0) 1)
    nothing true = refl
    nothing false = refl

    by : (b : Bool) → (d == 0) ≡ b → cond b (Fits zero_ℚ) (cond (leb d limit && leb (d * 10 ^ k) limit) (Fits (frac (signed_of negative (d * 10 ^ k)) 1)) (TooWide (is_huge d (pos k)) negative)) ≡ Fits (frac (signed_of negative n) 1)
    by true t =
        let z : d ≡ 0 = grind (arith, nat_tests) in
        let m = ap (λ (x : ℕ). x * 10 ^ k) z in
        let none : n ≡ 0 = omega arith in
        nothing negative ∙ ap (λ (x : ℕ). Fits (frac (signed_of negative x) 1)) (sym none)
    by false t =
        let one : 0 < 10 ^ k = ten-pos k in
        let next : 10 ^ k ≡ suc (10 ^ k - 1) = omega arith in
        let more = ap (λ (x : ℕ). d * x) next in
        let low : leb d limit ≡ true = leb-yes d limit (omega arith) in
        let high : leb (d * 10 ^ k) limit ≡ true = leb-yes (d * 10 ^ k) limit (omega arith) in
        rw (low, high) (ap (λ (x : ℕ). Fits (frac (signed_of negative x) 1)) e)

place_is : (m k : ℕ) → m ≡ 0 → (signed_of false m -ℤ pos 0) +ℤ pos k ≡ pos k
place_is m k e = ap (λ (x : ℕ). (pos x -ℤ pos 0) +ℤ pos k) e ∙ ap pos (let p : 0 + k ≡ k = omega arith in p)

-- a whole number alone
whole_reading : (negative : Bool) (ds : List ℕ) (n : ℕ) → number_of ds ≡ n → n ≤ limit
    → reading (record { negative = negative; before = ds; after = []; below = false; exponent = [] }) ≡ Fits (frac (signed_of negative n) 1)
whole_reading negative ds n e h =
    let same = append-nil ds in
    let at = ap (λ (l : List ℕ). literal_of negative (number_of (kept l)) ((signed_of false (number_of []) -ℤ pos 0) +ℤ pos (length l - length (kept l)))) same in
    let place = ap (literal_of negative (number_of (kept ds))) (place_is (number_of []) (length ds - length (kept ds)) (number-nil 0)) in
    at ∙ place ∙ scaled_fits negative (number_of (kept ds)) (length ds - length (kept ds)) n (sym (kept-value 0 ds) ∙ e) h

-- ---- the fraction that is printed
quotient_of : (q : ℚ) (rest word : List ℕ) → IsSigned q.num rest word → Ends rest → bottom_of rest ≡ q.den → quotient_in word ≡ q
unfolding quotient_in
quotient_of q rest word s e f =
    let d = past_all s.digits rest s.text.digits e in
    let t = ap (λ (p : Bool × List ℕ). frac (signed_of p.0 (number_of (past_digits p.1).0)) (bottom_of (past_digits p.1).1)) s.sign in
    let u = ap (λ (p : List ℕ × List ℕ). frac (signed_of s.negative (number_of p.0)) (bottom_of p.1)) d in
    let v = ap (λ (n : ℕ). frac (signed_of s.negative n) (bottom_of rest)) s.text.value in
    let w = ap (λ (z : ℤ). frac z (bottom_of rest)) s.is in
    let x = ap (λ (n : ℕ). frac q.num n) f in
    t ∙ u ∙ v ∙ w ∙ x ∙ frac-self q

record Within (q : ℚ) : Type 0 where
  num : unsigned_abs q.num ≤ limit
  den : q.den ≤ limit

within : (q : ℚ) → is_too_wide limit q ≡ false → Within q
within q h =
    let both = or_parts (nat_lt limit (unsigned_abs q.num)) (nat_lt limit q.den) h in
    record { num = ltb-false limit (unsigned_abs q.num) both.0; den = ltb-false limit q.den both.1 }

whole_text : (q : ℚ) → unsigned_abs q.num ≤ limit → q.den ≡ 1 → IsSigned q.num [] (printed q)
whole_text q h one = subst (IsSigned q.num []) (append-nil (signed_decimal q.num) ∙ sym (printed_whole q one)) (signed_text q.num [] h)

part_text : (q : ℚ) → unsigned_abs q.num ≤ limit → q.den ≢ 1 → IsSigned q.num (47 ∷ decimal q.den) (printed q)
part_text q h n = subst (IsSigned q.num (47 ∷ decimal q.den)) (sym (printed_part q n)) (signed_text q.num (47 ∷ decimal q.den) h)

-- behind a sign a digit stands first
first_digit : (ds rest : List ℕ) → length ds ≢ 0 → list_all is_dec ds ≡ true → is_dec (get_or (ds ++ rest) 0 0) ≡ true
first_digit [] rest some h = absurd (some refl)
first_digit (d ∷ ds) rest some h = (and_parts (is_dec d) (list_all is_dec ds) h).0

begins : (z : ℤ) (rest word : List ℕ) → IsSigned z rest word → is_dec (get_or (past_sign word).1 0 0) ≡ true
begins z rest word s = ap (λ (p : Bool × List ℕ). is_dec (get_or p.1 0 0)) s.sign ∙ first_digit s.digits rest s.text.some s.text.digits

pub printed_begins : (q : ℚ) → is_too_wide limit q ≡ false → is_dec (get_or (past_sign (printed q)).1 0 0) ≡ true
printed_begins q h = let w = within q h in elim (cases_eq q.den 1) [ inl one ↦ begins q.num [] (printed q) (whole_text q w.num one) | inr n ↦ begins q.num (47 ∷ decimal q.den) (printed q) (part_text q w.num n) ]

pub printed_some : (q : ℚ) → is_too_wide limit q ≡ false → length (printed q) ≢ 0
unfolding past_sign
printed_some q h = by (printed q) (printed_begins q h)
  where
    by : (word : List ℕ) → is_dec (get_or (past_sign word).1 0 0) ≡ true → length word ≢ 0
    by [] e l = true≢false (sym e)
    by (b ∷ word) e l = absurd (omega arith)

-- a whole number is printed as a literal, which is read as it
pub whole_literal : (q : ℚ) → is_too_wide limit q ≡ false → q.den ≡ 1 → literal_in (printed q) ≡ Some (Fits q)
whole_literal q h one =
    let w = within q h in
    let s = whole_text q w.num one in
    let x = ap (option_map reading) (whole_spelling q.num (printed q) s) in
    let r = whole_reading s.negative s.digits (unsigned_abs q.num) s.text.value w.num in
    x ∙ ap Some (r ∙ ap Fits (ap (λ (z : ℤ). frac z 1) s.is ∙ ap (frac q.num) (sym one) ∙ frac-self q))

-- any other number as none
pub part_literal : (q : ℚ) → is_too_wide limit q ≡ false → q.den ≢ 1 → literal_in (printed q) ≡ None
part_literal q h n = ap (option_map reading) (no_spelling q.num (decimal q.den) (printed q) (part_text q (within q h).num n))

-- a printed number is read as it is
pub own_quotient : (q : ℚ) → is_too_wide limit q ≡ false → quotient_in (printed q) ≡ q
own_quotient q h =
    let w = within q h in
    elim (cases_eq q.den 1) [
      | inl one ↦ quotient_of q [] (printed q) (whole_text q w.num one) refl (sym one)
      | inr n ↦ quotient_of q (47 ∷ decimal q.den) (printed q) (part_text q w.num n) refl (text_of_number q.den w.den).value
    ]

-- ---- the fraction whose printed form a word is
printed_so : (word : List ℕ) (q : ℚ) → IsFractionSaid word q → printed_as word q ≡ Some q
printed_so word q h = rw (h.0, (bytes_eq-Decides word (printed q)).1 h.1) refl

said_so : (word : List ℕ) (q r : ℚ) → printed_as word q ≡ Some r → IsFractionSaid word q
said_so word q r e = by (is_too_wide limit q) (bytes_eq word (printed q)) refl refl e
  where
    by : (wide same : Bool) → is_too_wide limit q ≡ wide → bytes_eq word (printed q) ≡ same → cond (not wide && same) (Some q) None ≡ Some r → IsFractionSaid word q
    by false true f g k = (f, (bytes_eq-Decides word (printed q)).0 g)
    by false false f g k = absurd (let s : None ≡ Some r = k in cc)
    by true same f g k = absurd (let s : None ≡ Some r = k in cc)

pub own_fraction : (word : List ℕ) (q : ℚ) → IsFractionSaid word q → fraction_in word ≡ Some q
own_fraction word q h =
    let same : quotient_in word ≡ q = ap quotient_in h.1 ∙ own_quotient q h.0 in
    ap (printed_as word) same ∙ printed_so word q h

pub fraction_said : (word : List ℕ) (q : ℚ) → fraction_in word ≡ Some q → IsFractionSaid word q
fraction_said word q e =
    let said = said_so word (quotient_in word) q e in
    subst (IsFractionSaid word) (same_Some (quotient_in word) q (sym (printed_so word (quotient_in word) said) ∙ e)) said

-- what finds the printed fraction gives it
pub fraction_found : (word : List ℕ) (r : Option ℚ) → Finds (IsFractionSaid word) r → r ≡ fraction_in word
fraction_found word r h = found_is (IsFractionSaid word) r (fraction_in word) h (fraction_said word) (own_fraction word)
