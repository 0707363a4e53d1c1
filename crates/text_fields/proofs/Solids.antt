-- No piece has a blank or the end of a line in it, so that a piece is the same in a line and in the text.
use Rattle.std.proofs.Common.{◌≡◌, ℕ, ◌+◌, ◌<◌, ◌≤◌, ◌==◌, ltb, leb, ◌||◌, ◌&&◌, not, ◌⊎◌, Bool, true, false, cond, List, [], ◌∷◌, get_or, drop, refl, sym, ap, ◌∙◌, arith, inl, inr}
use Rattle.std.specs.List.{prefix_len, position_or_len, before_first}
use Rattle.std.proofs.lemmas.Bool.{eqb-true, ltb-true, true≢false, cond_both, and_parts}
use Rattle.std.proofs.lemmas.Bool.Decides.{nat_tests}
use Rattle.lane_scan.specs.Bytes.{is_end, is_blank}
use Rattle.frac128.specs.Literal.{is_dec}
use Rattle.text_fields.specs.declared.pieces.TokenKind.TheVariants.{Word, Number}
use Rattle.text_fields.specs.Pieces.{is_word_start, is_word_byte, point_len, sign_len, is_sign, marked_len, exponent_len, number_len, mark_of, Piece, piece, piece_at}
use Rattle.text_fields.proofs.PieceLists.{number-by, piece-by, word-some}
use Rattle.text_fields.proofs.Cuts.{prefix-le, prefix-add, cut-prefix, cut-cons_yes, cut-cons_no, cut-drop}

-- neither a blank nor an end
abbrev pub is_solid : ℕ → Bool
is_solid c = not (is_blank c) && not (is_end c)

-- a byte is solid, or one of four
solid_or : (c : ℕ) → (is_solid c ≡ true) ⊎ ((c ≡ 32) ⊎ ((c ≡ 9) ⊎ ((c ≡ 13) ⊎ (c ≡ 10))))
solid_or c = by (c == 32) (c == 9) (c == 13) (c == 10) refl refl refl refl
  where
    by : (p q r s : Bool) → (c == 32) ≡ p → (c == 9) ≡ q → (c == 13) ≡ r → (c == 10) ≡ s → (is_solid c ≡ true) ⊎ ((c ≡ 32) ⊎ ((c ≡ 9) ⊎ ((c ≡ 13) ⊎ (c ≡ 10))))
    by true q r s e f g h = inr (inl (eqb-true c 32 e))
    by false true r s e f g h = inr (inr (inl (eqb-true c 9 f)))
    by false false true s e f g h = inr (inr (inr (inl (eqb-true c 13 g))))
    by false false false true e f g h = inr (inr (inr (inr (eqb-true c 10 h))))
    by false false false false e f g h = inl (
        ap (λ (t : Bool). not (t || ((c == 9) || (c == 13))) && not (c == 10)) e
        ∙ ap (λ (t : Bool). not (t || (c == 13)) && not (c == 10)) f
        ∙ ap (λ (t : Bool). not t && not (c == 10)) g
        ∙ ap (λ (t : Bool). not t) h)

-- what fails at these four is solid
solid_if : (p : ℕ → Bool) → p 32 ≡ false → p 9 ≡ false → p 13 ≡ false → p 10 ≡ false → (c : ℕ) → p c ≡ true → is_solid c ≡ true
solid_if p a b d e c h = elim (solid_or c) [
  | inl s ↦ s
  | inr o ↦ absurd (elim o [
    | inl f ↦ true≢false (sym h ∙ ap p f ∙ a)
    | inr o2 ↦ elim o2 [
      | inl f ↦ true≢false (sym h ∙ ap p f ∙ b)
      | inr o3 ↦ elim o3 [
        | inl f ↦ true≢false (sym h ∙ ap p f ∙ d)
        | inr f ↦ true≢false (sym h ∙ ap p f ∙ e)
      ]
    ]
  ])
]

-- what fails at an end
pub end_fails : (p : ℕ → Bool) → p 10 ≡ false → (c : ℕ) → is_end c ≡ true → p c ≡ false
end_fails p a c h = ap p (eqb-true c 10 h) ∙ a

word_solid : (c : ℕ) → is_word_byte c ≡ true → is_solid c ≡ true
unfolding is_word_byte is_word_start
word_solid c = solid_if is_word_byte refl refl refl refl c

word_no_end : (c : ℕ) → is_end c ≡ true → is_word_byte c ≡ false
unfolding is_word_byte is_word_start
word_no_end c = end_fails is_word_byte refl c

dec_solid : (c : ℕ) → is_dec c ≡ true → is_solid c ≡ true
dec_solid c = solid_if is_dec refl refl refl refl c

dec_no_end : (c : ℕ) → is_end c ≡ true → is_dec c ≡ false
dec_no_end c = end_fails is_dec refl c

-- ---- the parts of a number are solid
first-solid : (q : ℕ → Bool) (c : ℕ) (cs : List ℕ) (n : ℕ) → q c ≡ true → n ≤ prefix_len q cs → 1 + n ≤ prefix_len q (c ∷ cs)
first-solid q c cs n e h = rw (ap (λ (b : Bool). cond b (1 + prefix_len q cs) 0) e) (omega arith)

point-solid : (xs : List ℕ) → point_len xs ≤ prefix_len is_solid xs
unfolding point_len
point-solid [] = omega arith
point-solid (c ∷ cs) = by (c == 46) refl
  where
    by : (b : Bool) → (c == 46) ≡ b → cond b (1 + prefix_len is_dec cs) 0 ≤ prefix_len is_solid (c ∷ cs)
    by true e = first-solid is_solid c cs (prefix_len is_dec cs) (ap is_solid (eqb-true c 46 e)) (prefix-le is_dec is_solid dec_solid cs)
    by false e = omega arith

sign-solid : (xs : List ℕ) → sign_len xs ≤ prefix_len is_solid xs
unfolding sign_len
sign-solid [] = omega arith
sign-solid (c ∷ cs) = by (is_sign c) refl
  where
    by : (b : Bool) → is_sign c ≡ b → cond b 1 0 ≤ prefix_len is_solid (c ∷ cs)
    by true e = first-solid is_solid c cs 0 (solid_if is_sign refl refl refl refl c e) (omega arith)
    by false e = omega arith

abbrev is_mark : ℕ → Bool
is_mark c = (c == 101) || (c == 69)

exponent-solid : (xs : List ℕ) → exponent_len xs ≤ prefix_len is_solid xs
unfolding exponent_len
exponent-solid [] = omega arith
exponent-solid (c ∷ cs) = by (is_mark c) refl
  where
    within : is_mark c ≡ true → 1 + (sign_len cs + prefix_len is_dec (drop (sign_len cs) cs)) ≤ prefix_len is_solid (c ∷ cs)
    within e = first-solid is_solid c cs _ (solid_if is_mark refl refl refl refl c e) (prefix-add is_solid cs _ _ (sign-solid cs) (prefix-le is_dec is_solid dec_solid (drop (sign_len cs) cs)))

    some : (z : Bool) → is_mark c ≡ true → cond z 0 (1 + sign_len cs + prefix_len is_dec (drop (sign_len cs) cs)) ≤ prefix_len is_solid (c ∷ cs)
    some true e = omega arith
    some false e = omega (arith, within e)

    by : (b : Bool) → is_mark c ≡ b → cond b (marked_len (sign_len cs) (prefix_len is_dec (drop (sign_len cs) cs))) 0 ≤ prefix_len is_solid (c ∷ cs)
    by true e = some (prefix_len is_dec (drop (sign_len cs) cs) == 0) e
    by false e = omega arith

number-solid : (xs : List ℕ) → number_len xs ≤ prefix_len is_solid xs
unfolding number_len
number-solid xs = by ((prefix_len is_dec xs == 0) && leb (point_len (drop (prefix_len is_dec xs) xs)) 1)
  where
    by : (b : Bool) → cond b 0 (prefix_len is_dec xs + (point_len (drop (prefix_len is_dec xs) xs) + exponent_len (drop (point_len (drop (prefix_len is_dec xs) xs)) (drop (prefix_len is_dec xs) xs)))) ≤ prefix_len is_solid xs
    by true = omega arith
    by false = prefix-add is_solid xs _ _ (prefix-le is_dec is_solid dec_solid xs) (prefix-add is_solid (drop (prefix_len is_dec xs) xs) _ _ (point-solid _) (exponent-solid _))

-- ---- a mark is solid
abbrev is_second : ℕ → Bool
is_second d = (d == 60) || ((d == 61) || (d == 62))

-- a mark has one byte, or two, of which the second is one of three
abbrev HasLen : ℕ → ℕ → Type 0
HasLen d n = (n ≡ 1) ⊎ ((n ≡ 2) × (is_second d ≡ true))

relation_second : (c d : ℕ) → (((d == 61) && ((c == 60) || (c == 62))) || ((c == 61) && ((d == 60) || (d == 62)))) ≡ true → is_second d ≡ true
relation_second c d h = by (d == 60) (d == 61) (d == 62) refl refl refl h
  where
    by : (p q r : Bool) → (d == 60) ≡ p → (d == 61) ≡ q → (d == 62) ≡ r → (((d == 61) && ((c == 60) || (c == 62))) || ((c == 61) && ((d == 60) || (d == 62)))) ≡ true → is_second d ≡ true
    by p q r e f g h = grind (arith, nat_tests)

pub mark-len : (c d : ℕ) → HasLen d (mark_of c d).len
unfolding mark_of
mark-len c d =
    let P : Piece → Type 0 = λ p. HasLen d p.len in
    cond_both (c == 45) _ _ P
    (λ e. cond_both (d == 62) _ _ P (λ f. inr (refl, ap (λ (b : Bool). (d == 60) || ((d == 61) || b)) f ∙ last (d == 60) (d == 61))) (λ f. inl refl))
    (λ e. cond_both (c == 43) _ _ P (λ f. inl refl)
    (λ f. cond_both ((c == 60) || ((c == 61) || (c == 62))) _ _ P
    (λ g. cond_both (((d == 61) && ((c == 60) || (c == 62))) || ((c == 61) && ((d == 60) || (d == 62)))) 2 1 (HasLen d) (λ t. inr (refl, relation_second c d t)) (λ t. inl refl))
    (λ g. cond_both (c == 58) _ _ P (λ t. inl refl) (λ t. cond_both (c == 46) _ _ P (λ u. inl refl) (λ u. inl refl)))))
  where
    last : (p q : Bool) → (p || (q || true)) ≡ true
    last true q = refl
    last false true = refl
    last false false = refl

mark-solid : (c : ℕ) (cs : List ℕ) → is_solid c ≡ true → (mark_of c (get_or cs 0 0)).len ≤ prefix_len is_solid (c ∷ cs)
mark-solid c cs e = elim (mark-len c (get_or cs 0 0)) [
  | inl one ↦ (let h = first-solid is_solid c cs 0 e (omega arith) in omega arith)
  | inr two ↦ (let h = first-solid is_solid c cs 1 e (second cs two.1) in let t = two.0 in omega arith)
]
  where
    second : (cs : List ℕ) → is_second (get_or cs 0 0) ≡ true → 1 ≤ prefix_len is_solid cs
    second [] h = absurd (true≢false (sym h))
    second (d ∷ ds) h = first-solid is_solid d ds 0 (solid_if is_second refl refl refl refl d h) (omega arith)

-- the piece that stands first has a byte, and is solid
pub piece-solid : (c : ℕ) (cs : List ℕ) → is_solid c ≡ true → (0 < (piece_at (c ∷ cs)).len) × ((piece_at (c ∷ cs)).len ≤ prefix_len is_solid (c ∷ cs))
unfolding piece_at
piece-solid c cs e =
    let P : Piece → Type 0 = λ p. (0 < p.len) × (p.len ≤ prefix_len is_solid (c ∷ cs)) in
    cond_both (is_word_start c) _ _ P
    (λ w. (word-some (c ∷ cs) (omega arith) w, prefix-le is_word_byte is_solid word_solid (c ∷ cs)))
    (λ w. cond_both (ltb 0 (number_len (c ∷ cs))) _ _ P (λ n. (ltb-true 0 (number_len (c ∷ cs)) n, number-solid (c ∷ cs)))
    (λ n. (some (mark-len c (get_or cs 0 0)), mark-solid c cs e)))
  where
    some : HasLen (get_or cs 0 0) (mark_of c (get_or cs 0 0)).len → 0 < (mark_of c (get_or cs 0 0)).len
    some (inl h) = omega arith
    some (inr h) = (let t = h.0 in omega arith)

-- what is solid stands before the end
pub solid-within : (xs : List ℕ) → prefix_len is_solid xs ≤ position_or_len is_end xs
solid-within xs = prefix-le is_solid (λ c. not (is_end c)) (λ c h. (and_parts (not (is_blank c)) (not (is_end c)) h).1) xs

-- ---- the same in a line and in the text
cut-point : (xs : List ℕ) → point_len (before_first is_end xs) ≡ point_len xs
unfolding point_len
cut-point [] = refl
cut-point (c ∷ cs) = by (is_end c) refl
  where
    by : (b : Bool) → is_end c ≡ b → point_len (before_first is_end (c ∷ cs)) ≡ point_len (c ∷ cs)
    by true e = ap point_len (cut-cons_yes c cs e) ∙ sym (ap (λ (b : Bool). cond b (1 + prefix_len is_dec cs) 0) (end_fails (λ k. k == 46) refl c e))
    by false e = ap point_len (cut-cons_no c cs e) ∙ ap (λ (n : ℕ). cond (c == 46) (1 + n) 0) (cut-prefix is_dec dec_no_end cs)

cut-sign : (xs : List ℕ) → sign_len (before_first is_end xs) ≡ sign_len xs
unfolding sign_len
cut-sign [] = refl
cut-sign (c ∷ cs) = by (is_end c) refl
  where
    by : (b : Bool) → is_end c ≡ b → sign_len (before_first is_end (c ∷ cs)) ≡ sign_len (c ∷ cs)
    by true e = ap sign_len (cut-cons_yes c cs e) ∙ sym (ap (λ (b : Bool). cond b 1 0) (end_fails is_sign refl c e))
    by false e = ap sign_len (cut-cons_no c cs e)

cut-exponent : (xs : List ℕ) → exponent_len (before_first is_end xs) ≡ exponent_len xs
unfolding exponent_len
cut-exponent [] = refl
cut-exponent (c ∷ cs) = by (is_end c) refl
  where
    marked : List ℕ → ℕ
    marked ds = marked_len (sign_len ds) (prefix_len is_dec (drop (sign_len ds) ds))

    sign-within : sign_len cs ≤ position_or_len is_end cs
    sign-within = (let a = sign-solid cs in let b = solid-within cs in omega arith)

    by : (b : Bool) → is_end c ≡ b → exponent_len (before_first is_end (c ∷ cs)) ≡ exponent_len (c ∷ cs)
    by true e = ap exponent_len (cut-cons_yes c cs e) ∙ sym (ap (λ (b : Bool). cond b (marked_len (sign_len cs) (prefix_len is_dec (drop (sign_len cs) cs))) 0) (end_fails is_mark refl c e))
    by false e =
        ap exponent_len (cut-cons_no c cs e)
        ∙ ap (λ (n : ℕ). cond (is_mark c) (marked_len n (prefix_len is_dec (drop n (before_first is_end cs)))) 0) (cut-sign cs)
        ∙ ap (λ (n : ℕ). cond (is_mark c) (marked_len (sign_len cs) n) 0)
        (ap (prefix_len is_dec) (sym (cut-drop (sign_len cs) cs sign-within)) ∙ cut-prefix is_dec dec_no_end (drop (sign_len cs) cs))

cut-number : (xs : List ℕ) → number_len (before_first is_end xs) ≡ number_len xs
cut-number xs =
    let w : ℕ = prefix_len is_dec xs in
    let rest : List ℕ = drop w xs in
    let p : ℕ = point_len rest in
    let x : ℕ = exponent_len (drop p rest) in
    let a : w ≤ position_or_len is_end xs = (let l = prefix-le is_dec is_solid dec_solid xs in let m = solid-within xs in omega arith) in
    let b : p ≤ position_or_len is_end rest = (let l = point-solid rest in let m = solid-within rest in omega arith) in
    let whole : drop w (before_first is_end xs) ≡ before_first is_end rest = sym (cut-drop w xs a) in
    number-by (before_first is_end xs) w p x ((w == 0) && leb p 1)
    (sym (cut-prefix is_dec dec_no_end xs))
    (sym (ap point_len whole ∙ cut-point rest))
    (sym (ap (λ ys. exponent_len (drop p ys)) whole ∙ ap exponent_len (sym (cut-drop p rest b)) ∙ cut-exponent (drop p rest)))
    refl
    ∙ sym (number-by xs w p x ((w == 0) && leb p 1) refl refl refl refl)

cut-next : (c : ℕ) (cs : List ℕ) → mark_of c (get_or (before_first is_end cs) 0 0) ≡ mark_of c (get_or cs 0 0)
unfolding mark_of
cut-next c [] = refl
cut-next c (d ∷ ds) = by (is_end d) refl
  where
    by : (b : Bool) → is_end d ≡ b → mark_of c (get_or (before_first is_end (d ∷ ds)) 0 0) ≡ mark_of c d
    by true e = ap (λ ys. mark_of c (get_or ys 0 0)) (cut-cons_yes d ds e) ∙ ap (mark_of c) (sym (eqb-true d 10 e))
    by false e = ap (λ ys. mark_of c (get_or ys 0 0)) (cut-cons_no d ds e)

pub cut-piece : (c : ℕ) (cs : List ℕ) → is_end c ≡ false → piece_at (before_first is_end (c ∷ cs)) ≡ piece_at (c ∷ cs)
cut-piece c cs e =
    let same : number_len (c ∷ before_first is_end cs) ≡ number_len (c ∷ cs) = ap number_len (sym (cut-cons_no c cs e)) ∙ cut-number (c ∷ cs) in
    let word : prefix_len is_word_byte (c ∷ before_first is_end cs) ≡ prefix_len is_word_byte (c ∷ cs) = ap (prefix_len is_word_byte) (sym (cut-cons_no c cs e)) ∙ cut-prefix is_word_byte word_no_end (c ∷ cs) in
    ap piece_at (cut-cons_no c cs e)
    ∙ piece-by (c ∷ before_first is_end cs) (is_word_start c) (ltb 0 (number_len (c ∷ cs))) refl (ap (ltb 0) same)
    ∙ ap (λ (n : ℕ). cond (is_word_start c) (piece Word n) (cond (ltb 0 (number_len (c ∷ cs))) (piece Number (number_len (c ∷ before_first is_end cs))) (mark_of c (get_or (before_first is_end cs) 0 0)))) word
    ∙ ap (λ (n : ℕ). cond (is_word_start c) (piece Word (prefix_len is_word_byte (c ∷ cs))) (cond (ltb 0 (number_len (c ∷ cs))) (piece Number n) (mark_of c (get_or (before_first is_end cs) 0 0)))) same
    ∙ ap (λ q. cond (is_word_start c) (piece Word (prefix_len is_word_byte (c ∷ cs))) (cond (ltb 0 (number_len (c ∷ cs))) (piece Number (number_len (c ∷ cs))) q)) (cut-next c cs)
    ∙ sym (piece-by (c ∷ cs) (is_word_start c) (ltb 0 (number_len (c ∷ cs))) refl refl)
