-- The bytes of names may be shown.
use Rattle.std.proofs.Common.{◌≡◌, ℕ, zero, suc, ◌+◌, ◌/◌, ◌%◌, ◌<◌, ◌≤◌, ◌==◌, ltb, leb, ◌||◌, ◌⊎◌, Bool, true, false, cond, List, [], ◌∷◌, length, take, refl, sym, ap, ◌∙◌, arith, true≢false, inl, inr}
use Rattle.std.specs.List.{list_all, list_any, prefix_len}
use Rattle.std.proofs.Math.Numerals.{one-add}
use Rattle.std.specs.Fmt.{decimal, digits, digits_onto, digit_glyph}
use Rattle.std.proofs.lemmas.Bool.{and_from, and_parts, eqb-true, lt-ltb, le-leb}
use Rattle.std.proofs.lemmas.Bool.Decides.{nat_tests}
use Rattle.std.proofs.lemmas.Nat.{mod_below}
use Rattle.frac128.specs.Literal.{is_dec}
use Rattle.lane_scan.specs.Bytes.{is_blank, is_end, is_foreign}
use Rattle.text_fields.specs.Pieces.{is_letter, name_signs, is_name_sign, is_word_start, is_word_byte}
use Rattle.report_text.specs.Names.{is_shown}
use Rattle.report_text.specs.Form.{is_word}

-- one of two
either : (x y : Bool) → (x || y) ≡ true → (x ≡ true) ⊎ (y ≡ true)
either true y e = inl refl
either false y e = inr e

-- a byte from 33 to 126
shown : (b : ℕ) → 33 ≤ b → b ≤ 126 → is_shown b ≡ true
shown b low high = and_from (leb 33 b) (leb b 126) (le-leb 33 b low) (le-leb b 126 high)

-- what each of a list is, one that stands in it is
one_of : (p : ℕ → Bool) (b : ℕ) (cs : List ℕ) → list_any (λ c. b == c) cs ≡ true → list_all p cs ≡ true → p b ≡ true
one_of p b [] h a = absurd (true≢false (sym h))
one_of p b (c ∷ cs) h a = by (b == c) refl (λ h. one_of p b cs h (and_parts (p c) (list_all p cs) a).1)
  where
    by : (t : Bool) → (b == c) ≡ t → (list_any (λ c. b == c) cs ≡ true → p b ≡ true) → p b ≡ true
    by true e rest = ap p (eqb-true b c e) ∙ (and_parts (p c) (list_all p cs) a).0
    by false e rest = rest (sym (ap (λ t. t || list_any (λ c. b == c) cs) e) ∙ h)

letter_shown : (b : ℕ) → is_letter b ≡ true → is_shown b ≡ true
letter_shown b e = grind (arith, nat_tests)

sign_shown : (b : ℕ) → is_name_sign b ≡ true → is_shown b ≡ true
sign_shown b e = one_of is_shown b name_signs e refl

start_shown : (b : ℕ) → is_word_start b ≡ true → is_shown b ≡ true
unfolding is_word_start
start_shown b e = elim (either (is_letter b) (is_name_sign b) e) [
  | inl l ↦ letter_shown b l
  | inr s ↦ sign_shown b s
]

digit_shown : (b : ℕ) → is_dec b ≡ true → is_shown b ≡ true
digit_shown b e = grind (arith, nat_tests)

point_shown : (b : ℕ) → (b == 46) ≡ true → is_shown b ≡ true
point_shown b e = ap is_shown (eqb-true b 46 e)

-- a byte of a word of an LP text
pub word_byte_shown : (b : ℕ) → is_word_byte b ≡ true → is_shown b ≡ true
unfolding is_word_byte
word_byte_shown b e = elim (either (is_word_start b) (is_dec b || (b == 46)) e) [
  | inl s ↦ start_shown b s
  | inr o ↦ elim (either (is_dec b) (b == 46) o) [
    | inl d ↦ digit_shown b d
    | inr p ↦ point_shown b p
  ]
]

-- a byte that a text may have, that is no blank and ends no line
pub field_byte_shown : (b : ℕ) → is_foreign b ≡ false → is_blank b ≡ false → is_end b ≡ false → is_shown b ≡ true
field_byte_shown b f g h = grind (arith, nat_tests)

-- ---- lists
pub all_weaker : (p q : ℕ → Bool) → ((b : ℕ) → p b ≡ true → q b ≡ true) → (bs : List ℕ) → list_all p bs ≡ true → list_all q bs ≡ true
all_weaker p q f [] e = refl
all_weaker p q f (b ∷ bs) e =
    and_from (q b) (list_all q bs) (f b (and_parts (p b) (list_all p bs) e).0) (all_weaker p q f bs (and_parts (p b) (list_all p bs) e).1)

-- the front that passes a test
pub all_front : (p : ℕ → Bool) (bs : List ℕ) → list_all p (take (prefix_len p bs) bs) ≡ true
all_front p [] = refl
all_front p (b ∷ bs) = by (p b) refl (all_front p bs)
  where
    by : (t : Bool) → p b ≡ t → list_all p (take (prefix_len p bs) bs) ≡ true → list_all p (take (cond t (1 + prefix_len p bs) 0) (b ∷ bs)) ≡ true
    by true e h = ap (λ n. list_all p (take n (b ∷ bs))) (one-add (prefix_len p bs)) ∙ and_from (p b) (list_all p (take (prefix_len p bs) bs)) e h
    by false e h = refl

-- some bytes, each of which may be shown
pub word : (bs : List ℕ) → 0 < length bs → list_all is_shown bs ≡ true → is_word bs ≡ true
word bs some each = and_from (ltb 0 (length bs)) (list_all is_shown bs) (lt-ltb 0 (length bs) some) each

-- ---- decimals
glyph_shown : (d : ℕ) → d < 10 → is_shown (digit_glyph false d) ≡ true
glyph_shown d h = ap (λ (t : Bool). is_shown (cond t (48 + d) (87 + d))) (lt-ltb d 10 h) ∙ shown (48 + d) (omega arith) (omega arith)

onto_shown : (k n : ℕ) (acc : List ℕ) → list_all is_shown acc ≡ true → list_all is_shown (digits_onto k 10 false n acc) ≡ true
onto_shown zero n acc e = e
onto_shown (suc k) n acc e =
    let more = and_from (is_shown (digit_glyph false (n % 10))) (list_all is_shown acc) (glyph_shown (n % 10) (mod_below n 10 (omega arith))) e in
    by (n / 10 == 0) more (onto_shown k (n / 10) (digit_glyph false (n % 10) ∷ acc) more)
  where
    by : (t : Bool) → list_all is_shown (digit_glyph false (n % 10) ∷ acc) ≡ true → list_all is_shown (digits_onto k 10 false (n / 10) (digit_glyph false (n % 10) ∷ acc)) ≡ true
        → list_all is_shown (cond t (digit_glyph false (n % 10) ∷ acc) (digits_onto k 10 false (n / 10) (digit_glyph false (n % 10) ∷ acc))) ≡ true
    by true more rest = more
    by false more rest = rest

-- the digits of a number
pub decimal_shown : (n : ℕ) → list_all is_shown (decimal n) ≡ true
unfolding digits
decimal_shown n = onto_shown 64 n [] refl
