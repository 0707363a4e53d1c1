-- What stands first in a text, by its first byte.
use Rattle.std.proofs.Common.{◌≡◌, ◌≢◌, ℕ, ◌+◌, ◌<◌, ◌==◌, ltb, leb, get_or, ◌||◌, ◌&&◌, Bool, true, false, cond, List, [], ◌∷◌, length, drop, not, refl, sym, ap, ap₂, ◌∙◌, arith, eq-eqb}
use Rattle.std.proofs.lemmas.Bool.{ne_eqb}
use Rattle.std.specs.List.{prefix_len, position_or_len}
use Rattle.frac128.specs.Literal.{is_dec}
use Rattle.text_fields.specs.declared.pieces.TokenKind.TheVariants.{Word, Number}
use Rattle.text_fields.specs.Pieces.{is_word_start, is_word_byte, point_len, sign_len, is_sign, marked_len, exponent_len, number_len, mark_of, piece, piece_at}

pub point-none : (bs : List ℕ) → length bs ≡ 0 → point_len bs ≡ 0
unfolding point_len
point-none [] e = refl
point-none (c ∷ cs) e = absurd (omega arith)

pub point-is : (bs : List ℕ) (c : ℕ) (cs : List ℕ) → bs ≡ c ∷ cs → c ≡ 46 → point_len bs ≡ 1 + prefix_len is_dec cs
unfolding point_len
point-is bs c cs e f = ap point_len e ∙ ap (λ (t : Bool). cond t (1 + prefix_len is_dec cs) 0) (eq-eqb c 46 f)

pub point-not : (bs : List ℕ) (c : ℕ) (cs : List ℕ) → bs ≡ c ∷ cs → c ≢ 46 → point_len bs ≡ 0
unfolding point_len
point-not bs c cs e n = ap point_len e ∙ ap (λ (t : Bool). cond t (1 + prefix_len is_dec cs) 0) (ne_eqb c 46 n)

pub sign-none : (bs : List ℕ) → length bs ≡ 0 → sign_len bs ≡ 0
unfolding sign_len
sign-none [] e = refl
sign-none (c ∷ cs) e = absurd (omega arith)

pub sign-by : (bs : List ℕ) (c : ℕ) (cs : List ℕ) (b : Bool) → bs ≡ c ∷ cs → is_sign c ≡ b → sign_len bs ≡ cond b 1 0
unfolding sign_len
sign-by bs c cs b e f = ap sign_len e ∙ ap (λ (t : Bool). cond t 1 0) f

pub exponent-none : (bs : List ℕ) → length bs ≡ 0 → exponent_len bs ≡ 0
unfolding exponent_len
exponent-none [] e = refl
exponent-none (c ∷ cs) e = absurd (omega arith)

pub exponent-not : (bs : List ℕ) (c : ℕ) (cs : List ℕ) → bs ≡ c ∷ cs → ((c == 101) || (c == 69)) ≡ false → exponent_len bs ≡ 0
unfolding exponent_len
exponent-not bs c cs e f = ap exponent_len e ∙ ap (λ (t : Bool). cond t (marked_len (sign_len cs) (prefix_len is_dec (drop (sign_len cs) cs))) 0) f

pub exponent-by : (bs : List ℕ) (c : ℕ) (cs : List ℕ) → bs ≡ c ∷ cs → ((c == 101) || (c == 69)) ≡ true → (s d : ℕ) → s ≡ sign_len cs → d ≡ prefix_len is_dec (drop s cs) → exponent_len bs ≡ marked_len s d
unfolding exponent_len
exponent-by bs c cs e f s d p q =
    ap exponent_len e
    ∙ ap (λ (t : Bool). cond t (marked_len (sign_len cs) (prefix_len is_dec (drop (sign_len cs) cs))) 0) f
    ∙ ap (λ (k : ℕ). marked_len k (prefix_len is_dec (drop k cs))) (sym p)
    ∙ ap (λ (k : ℕ). marked_len s k) (sym q)

-- the length of a number, by its parts as they are found
pub number-by : (bs : List ℕ) (w p x : ℕ) (b : Bool) → w ≡ prefix_len is_dec bs → p ≡ point_len (drop w bs) → x ≡ exponent_len (drop p (drop w bs)) → ((w == 0) && leb p 1) ≡ b → number_len bs ≡ cond b 0 (w + (p + x))
unfolding number_len
number-by bs w p x b e f g h =
    sym (ap (λ (t : Bool). cond t 0 (w + (p + x))) (sym h)
    ∙ ap (λ (k : ℕ). cond ((w == 0) && leb p 1) 0 (w + (p + k))) g
    ∙ ap (λ (k : ℕ). cond ((w == 0) && leb k 1) 0 (w + (k + exponent_len (drop k (drop w bs))))) f
    ∙ ap (λ (k : ℕ). cond ((k == 0) && leb (point_len (drop k bs)) 1) 0 (k + (point_len (drop k bs) + exponent_len (drop (point_len (drop k bs)) (drop k bs))))) e)

-- the same where there is no digit, whatever comes after
pub number-none : (bs : List ℕ) (w p : ℕ) → w ≡ prefix_len is_dec bs → p ≡ point_len (drop w bs) → ((w == 0) && leb p 1) ≡ true → number_len bs ≡ 0
number-none bs w p e f h = number-by bs w p (exponent_len (drop p (drop w bs))) true e f refl h

-- a word, a number, or a mark
pub piece-by : (bs : List ℕ) (b t : Bool) → is_word_start (get_or bs 0 0) ≡ b → ltb 0 (number_len bs) ≡ t
    → piece_at bs ≡ cond b (piece Word (prefix_len is_word_byte bs)) (cond t (piece Number (number_len bs)) (mark_of (get_or bs 0 0) (get_or bs 1 0)))
unfolding piece_at
piece-by bs b t e f =
    ap (λ (k : Bool). cond k (piece Word (prefix_len is_word_byte bs)) (cond (ltb 0 (number_len bs)) (piece Number (number_len bs)) (mark_of (get_or bs 0 0) (get_or bs 1 0)))) e
    ∙ ap (λ (k : Bool). cond b (piece Word (prefix_len is_word_byte bs)) (cond k (piece Number (number_len bs)) (mark_of (get_or bs 0 0) (get_or bs 1 0)))) f

-- a word goes on with what it begins with
pub goes_on : (c : ℕ) → is_word_start c ≡ true → is_word_byte c ≡ true
unfolding is_word_byte
goes_on c e = ap (λ (t : Bool). t || (is_dec c || (c == 46))) e

-- a word has at least its first byte
pub word-some : (bs : List ℕ) → 0 < length bs → is_word_start (get_or bs 0 0) ≡ true → 0 < prefix_len is_word_byte bs
word-some [] h e = absurd (omega arith)
word-some (c ∷ cs) h e = rw (ap (λ (t : Bool). cond t (1 + prefix_len is_word_byte cs) 0) (goes_on c e)) (omega arith)

-- where a test that is turned first passes
pub position-not : (p : ℕ → Bool) (xs : List ℕ) → position_or_len (λ b. not (p b)) xs ≡ prefix_len p xs
position-not p [] = refl
position-not p (x ∷ xs) = ap₂ (λ (b : Bool) (n : ℕ). cond b (1 + n) 0) (turned_twice (p x)) (position-not p xs)
  where
    turned_twice : (b : Bool) → not (not b) ≡ b
    turned_twice true = refl
    turned_twice false = refl
