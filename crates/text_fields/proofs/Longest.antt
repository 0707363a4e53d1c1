-- The number that stands first is the longest literal there.
use Rattle.std.proofs.Common.{◌≡◌, ◌≢◌, ℕ, zero, suc, ◌+◌, ◌<◌, ◌≤◌, ◌==◌, leb, ◌||◌, ◌&&◌, ◌⊎◌, Bool, true, false, cond, List, [], ◌∷◌, ◌++◌, length, get_or, take, drop, refl, sym, ap, subst, ◌∙◌, arith, eq-eqb, inl, inr, length-append}
use Rattle.std.proofs.Math.Numerals.{one-add}
use Rattle.std.specs.List.{prefix_len}
use Rattle.std.proofs.lemmas.Bool.{ne_eqb, eqb-true, eqb-false, true≢false}
use Rattle.std.proofs.lemmas.Bool.Decides.{nat_tests}
use Rattle.std.proofs.lemmas.List.{take-append-drop, append_assoc, drop_at, length-take-le, get_or-take}
use Rattle.std.proofs.lemmas.List.Sums.{prefix_len_is, prefix_len-le-length}
use Rattle.std.proofs.lemmas.List.Folds.{prefix_len-append}
use Rattle.frac128.specs.Literal.{is_dec, AllDec, Spelling, IsSign, IsPoint, IsMarked, IsExponent, IsWritten}
use Rattle.frac128.proofs.Written.{written_from, written_into}
use Rattle.frac128.proofs.Digits.{dec-prefix}
use Rattle.text_fields.specs.Pieces.{is_sign, sign_len, point_len, marked_len, exponent_len, number_len}
use Rattle.text_fields.specs.Laws.{IsUnsigned}
use Rattle.text_fields.proofs.PieceLists.{point-is, point-not, sign-by, exponent-not, exponent-by, number-by}

-- ---- digits
all_dec : (ds : List ℕ) → AllDec ds → prefix_len is_dec ds ≡ length ds
all_dec ds h = prefix_len_is is_dec ds (length ds) 0 (omega arith) h (λ l. absurd (omega arith))

dec-append : (ds ys : List ℕ) → AllDec ds → prefix_len is_dec (ds ++ ys) ≡ length ds + prefix_len is_dec ys
dec-append ds ys h =
    prefix_len-append is_dec ds ys
    ∙ ap (λ (b : Bool). cond b (length ds + prefix_len is_dec ys) (prefix_len is_dec ds)) (eq-eqb (prefix_len is_dec ds) (length ds) (all_dec ds h))

no_dec : (c : ℕ) (cs : List ℕ) → is_dec c ≡ false → prefix_len is_dec (c ∷ cs) ≡ 0
no_dec c cs e = ap (λ (b : Bool). cond b (1 + prefix_len is_dec cs) 0) e

-- ---- by the parts of a number where there is a digit
number-is : (bs : List ℕ) (w p x : ℕ) → w ≡ prefix_len is_dec bs → p ≡ point_len (drop w bs) → x ≡ exponent_len (drop p (drop w bs)) → (w ≡ 0 → 1 < p) → number_len bs ≡ w + (p + x)
number-is bs w p x e f g h = number-by bs w p x false e f g (digit w p h)
  where
    digit : (w p : ℕ) → (w ≡ 0 → 1 < p) → ((w == 0) && leb p 1) ≡ false
    digit zero p h = let l = h refl in grind (arith, nat_tests)
    digit (suc w) p h = ap (λ (t : Bool). t && leb p 1) (ne_eqb (suc w) 0 (λ e. omega arith))

-- ---- an exponent
mark_no_dec : (c : ℕ) → (c ≡ 101) ⊎ (c ≡ 69) → is_dec c ≡ false
mark_no_dec c (inl e) = ap is_dec e
mark_no_dec c (inr e) = ap is_dec e

mark_is : (c : ℕ) → (c ≡ 101) ⊎ (c ≡ 69) → ((c == 101) || (c == 69)) ≡ true
mark_is c (inl e) = ap (λ (k : ℕ). (k == 101) || (k == 69)) e
mark_is c (inr e) = ap (λ (k : ℕ). (k == 101) || (k == 69)) e

mark_no_point : (c : ℕ) → (c ≡ 101) ⊎ (c ≡ 69) → c ≢ 46
mark_no_point c (inl e) h = omega arith
mark_no_point c (inr e) h = omega arith

-- a sign before digits
sign-before : (below : Bool) (sign ds rest : List ℕ) → IsSign below sign → AllDec ds → ds ≢ [] → sign_len ((sign ++ ds) ++ rest) ≡ length sign
sign-before false sign [] rest (inl e) h n = absurd (n refl)
sign-before false sign (c ∷ cs) rest (inl e) h n =
    ap (λ (s : List ℕ). sign_len ((s ++ (c ∷ cs)) ++ rest)) e
    ∙ sign-by (c ∷ (cs ++ rest)) c (cs ++ rest) false refl (no_sign c (h 0 (omega arith)))
    ∙ ap length (sym e)
  where
    no_sign : (c : ℕ) → is_dec c ≡ true → is_sign c ≡ false
    no_sign c h = grind (arith, nat_tests)
sign-before false sign ds rest (inr e) h n = ap (λ (s : List ℕ). sign_len ((s ++ ds) ++ rest)) e ∙ sign-by (43 ∷ (ds ++ rest)) 43 (ds ++ rest) true refl refl ∙ ap length (sym e)
sign-before true sign ds rest e h n = ap (λ (s : List ℕ). sign_len ((s ++ ds) ++ rest)) e ∙ sign-by (45 ∷ (ds ++ rest)) 45 (ds ++ rest) true refl refl ∙ ap length (sym e)

some_length : (xs : List ℕ) → xs ≢ [] → 0 < length xs
some_length [] n = absurd (n refl)
some_length (x ∷ xs) n = omega arith

marked : (below : Bool) (ds t rest : List ℕ) → IsMarked below ds t → length t ≤ exponent_len (t ++ rest)
marked below ds t rest m =
    let body : List ℕ = (m.sign ++ ds) ++ rest in
    let s : sign_len body ≡ length m.sign = sign-before below m.sign ds rest m.is_sign m.digits m.some in
    let after : drop (length m.sign) body ≡ ds ++ rest = ap (drop (length m.sign)) (append_assoc m.sign ds rest) ∙ drop_at m.sign (ds ++ rest) (length m.sign) refl in
    let d : prefix_len is_dec (drop (length m.sign) body) ≡ length ds + prefix_len is_dec rest = ap (prefix_len is_dec) after ∙ dec-append ds rest m.digits in
    let some = some_length ds m.some in
    let k : ℕ = length ds + prefix_len is_dec rest in
    let found : exponent_len (t ++ rest) ≡ marked_len (length m.sign) k =
    ap (λ (ys : List ℕ). exponent_len (ys ++ rest)) m.bytes
    ∙ exponent-by (m.mark ∷ body) m.mark body refl (mark_is m.mark m.is_mark) (length m.sign) k (sym s) (sym d) in
    let full : marked_len (length m.sign) k ≡ 1 + length m.sign + k = ap (λ (b : Bool). cond b 0 (1 + length m.sign + k)) (ne_eqb k 0 (λ e. omega arith)) in
    let size : length t ≡ suc (length m.sign + length ds) = ap length m.bytes ∙ ap suc (length-append m.sign ds) in
    omega (arith, found, full, size)

-- what comes after digits that an exponent or nothing follows
no_dec_marked : (below : Bool) (ds t rest : List ℕ) → IsMarked below ds t → prefix_len is_dec (t ++ rest) ≡ 0
no_dec_marked below ds t rest m = ap (λ (ys : List ℕ). prefix_len is_dec (ys ++ rest)) m.bytes ∙ no_dec m.mark ((m.sign ++ ds) ++ rest) (mark_no_dec m.mark m.is_mark)

no_point_marked : (below : Bool) (ds t rest : List ℕ) → IsMarked below ds t → point_len (t ++ rest) ≡ 0
no_point_marked below ds t rest m = ap (λ (ys : List ℕ). point_len (ys ++ rest)) m.bytes ∙ point-not _ m.mark ((m.sign ++ ds) ++ rest) refl (mark_no_point m.mark m.is_mark)

-- ---- a literal that stands first is no longer than the number
module _ (b f point tail rest : List ℕ) (hb : AllDec b) (hf : AllDec f) (some : length b + length f ≢ 0) (below : Bool) (ds : List ℕ) where
  abbrev text : List ℕ
  text = b ++ (point ++ (tail ++ rest))

  -- with a point
  pointed : point ≡ 46 ∷ f → IsExponent below ds tail → length b + (length point + length tail) ≤ number_len text
  pointed e x =
      let next : List ℕ = tail ++ rest in
      let whole : prefix_len is_dec text ≡ length b =
      dec-append b (point ++ next) hb ∙ ap (λ (ys : List ℕ). length b + prefix_len is_dec (ys ++ next)) e ∙ omega arith in
      let after : drop (length b) text ≡ point ++ next = drop_at b (point ++ next) (length b) refl in
      let part : point_len (drop (length b) text) ≡ 1 + (length f + prefix_len is_dec next) =
      ap point_len (after ∙ ap (λ (ys : List ℕ). ys ++ next) e) ∙ point-is (46 ∷ (f ++ next)) 46 (f ++ next) refl refl ∙ ap (λ (n : ℕ). 1 + n) (dec-append f next hf) in
      let size : length point ≡ suc (length f) = ap length e in
      by x whole after part size
    where
      by : IsExponent below ds tail → prefix_len is_dec text ≡ length b → drop (length b) text ≡ point ++ (tail ++ rest) → point_len (drop (length b) text) ≡ 1 + (length f + prefix_len is_dec (tail ++ rest))
          → length point ≡ suc (length f) → length b + (length point + length tail) ≤ number_len text
      by (inl none) whole after part size =
          let e = number-is text (length b) (1 + (length f + prefix_len is_dec (tail ++ rest))) _ (sym whole) (sym part) refl (λ z. omega arith) in
          let t : length tail ≡ 0 = ap length none.2 in
          omega (arith, e, t)
      by (inr m) whole after part size =
          let z = no_dec_marked below ds tail rest m in
          let there : drop (1 + length f) (drop (length b) text) ≡ tail ++ rest =
          ap (drop (1 + length f)) after ∙ drop_at point (tail ++ rest) (1 + length f) (omega arith) in
          let short : 1 + length f ≡ point_len (drop (length b) text) = omega (arith, part, z) in
          let e = number-is text (length b) (1 + length f) _ (sym whole) short refl (λ w. omega arith) in
          let x : length tail ≤ exponent_len (drop (1 + length f) (drop (length b) text)) = subst (λ (ys : List ℕ). length tail ≤ exponent_len ys) (sym there) (marked below ds tail rest m) in
          omega (arith, e, x)

  -- without a point
  pointless : f ≡ [] → point ≡ [] → IsExponent below ds tail → length b + (length point + length tail) ≤ number_len text
  pointless e q x =
      let size : length point ≡ 0 = ap length q in
      let few : length f ≡ 0 = ap length e in
      let whole : prefix_len is_dec text ≡ length b + prefix_len is_dec (tail ++ rest) =
      dec-append b (point ++ (tail ++ rest)) hb ∙ ap (λ (ys : List ℕ). length b + prefix_len is_dec (ys ++ (tail ++ rest))) q in
      let after : drop (length b) text ≡ tail ++ rest = drop_at b (point ++ (tail ++ rest)) (length b) refl ∙ ap (λ (ys : List ℕ). ys ++ (tail ++ rest)) q in
      by x size few whole after
    where
      by : IsExponent below ds tail → length point ≡ 0 → length f ≡ 0 → prefix_len is_dec text ≡ length b + prefix_len is_dec (tail ++ rest) → drop (length b) text ≡ tail ++ rest
          → length b + (length point + length tail) ≤ number_len text
      by (inl none) size few whole after =
          let e = number-is text (length b + prefix_len is_dec (tail ++ rest)) _ _ (sym whole) refl refl (λ z. absurd (some (omega arith))) in
          let t : length tail ≡ 0 = ap length none.2 in
          omega (arith, e, t, size)
      by (inr m) size few whole after =
          let z = no_dec_marked below ds tail rest m in
          let w : length b ≡ prefix_len is_dec text = omega (arith, whole, z) in
          let p : 0 ≡ point_len (drop (length b) text) = sym (ap point_len after ∙ no_point_marked below ds tail rest m) in
          let e = number-is text (length b) 0 _ w p refl (λ k. absurd (some (omega arith))) in
          let x : length tail ≤ exponent_len (drop (length b) text) = subst (λ (ys : List ℕ). length tail ≤ exponent_len ys) (sym after) (marked below ds tail rest m) in
          omega (arith, e, x, size)

-- no longer front of the text is a literal without a sign
pub longest : (bs : List ℕ) (n : ℕ) → number_len bs < n → n ≤ length bs → IsUnsigned (take n bs) → ⊥
longest bs n more high u = by u.spelling (written_from (take n bs) u.spelling u.says)
  where
    size : length (take n bs) ≡ n
    size = length-take-le n bs high

    -- the sign is none
    bare : (negative : Bool) (sign t : List ℕ) → IsSign negative sign → take n bs ≡ sign ++ t → sign ≡ []
    bare false sign t (inl e) h = e
    bare false sign t (inr e) h = absurd (true≢false (sym (ap (λ (ys : List ℕ). is_sign (get_or ys 0 0)) (h ∙ ap (λ (s : List ℕ). s ++ t) e)) ∙ u.unsigned))
    bare true sign t e h = absurd (true≢false (sym (ap (λ (ys : List ℕ). is_sign (get_or ys 0 0)) (h ∙ ap (λ (s : List ℕ). s ++ t) e)) ∙ u.unsigned))

    by : (x : Spelling) → IsWritten x (take n bs) → ⊥
    by x w =
        let rest : List ℕ = drop n bs in
        let none = bare x.negative w.sign (x.before ++ (w.point ++ w.tail)) w.is_sign w.bytes in
        let front : take n bs ≡ x.before ++ (w.point ++ w.tail) = w.bytes ∙ ap (λ (s : List ℕ). s ++ (x.before ++ (w.point ++ w.tail))) none in
        let all : bs ≡ x.before ++ (w.point ++ (w.tail ++ rest)) =
        sym (take-append-drop n bs) ∙ ap (λ (ys : List ℕ). ys ++ rest) front ∙ append_assoc x.before (w.point ++ w.tail) rest ∙ ap (λ (ys : List ℕ). x.before ++ ys) (append_assoc w.point w.tail rest) in
        let long : n ≡ length x.before + (length w.point + length w.tail) =
        sym size ∙ ap length front ∙ length-append x.before (w.point ++ w.tail) ∙ ap (λ (k : ℕ). length x.before + k) (length-append w.point w.tail) in
        let same : number_len bs ≡ number_len (x.before ++ (w.point ++ (w.tail ++ rest))) = ap number_len all in
        elim w.is_point [
          | inl e ↦ (let l = pointed x.before x.after w.point w.tail rest w.before w.after w.some x.below x.exponent e w.is_exponent in omega (arith, l, long, same))
          | inr e ↦ (let l = pointless x.before x.after w.point w.tail rest w.before w.after w.some x.below x.exponent e.0 e.1 w.is_exponent in omega (arith, l, long, same))
        ]

-- ---- and the number is a literal
take-add : (a b : ℕ) (xs : List ℕ) → take (a + b) xs ≡ take a xs ++ take b (drop a xs)
take-add zero b xs = let e : zero + b ≡ b = omega arith in ap (λ (k : ℕ). take k xs) e
take-add (suc a) b [] = empty (suc a + b) ∙ sym (empty b)
  where
    empty : (k : ℕ) → ◌≡◌ {A = List ℕ} (take k []) []
    empty zero = refl
    empty (suc k) = refl
take-add (suc a) b (x ∷ xs) = let e : suc a + b ≡ suc (a + b) = omega arith in ap (λ (k : ℕ). take k (x ∷ xs)) e ∙ ap (λ (ys : List ℕ). x ∷ ys) (take-add a b xs)

-- a point and its digits, or nothing
pub record PointAt (ys : List ℕ) : Type 0 where
  pub after : List ℕ
  pub is_point : IsPoint after (take (point_len ys) ys)
  pub digits : AllDec after
  pub size : (point_len ys ≡ 0) ⊎ (point_len ys ≡ 1 + length after)

no_digits : AllDec []
no_digits i l = absurd (omega arith)

point_at : (ys : List ℕ) → PointAt ys
unfolding point_len
point_at [] = record { after = []; is_point = inr (refl, refl); digits = no_digits; size = inl refl }
point_at (c ∷ cs) = by (c == 46) refl
  where
    none : point_len (c ∷ cs) ≡ 0 → PointAt (c ∷ cs)
    none e = record { after = []; is_point = inr (refl, ap (λ (k : ℕ). take k (c ∷ cs)) e); digits = no_digits; size = inl e }

    some : c ≡ 46 → PointAt (c ∷ cs)
    some e =
        let k : ℕ = prefix_len is_dec cs in
        let is : point_len (c ∷ cs) ≡ 1 + k = point-is (c ∷ cs) c cs refl e in
        record {
          after = take k cs;
          is_point = inl (ap (λ (n : ℕ). take n (c ∷ cs)) is ∙ rw one-add (ap (λ (b : ℕ). b ∷ take k cs) e));
          digits = dec-prefix cs;
          size = inr (is ∙ ap (λ (n : ℕ). 1 + n) (sym (length-take-le k cs (prefix_len-le-length is_dec cs))));
        }

    by : (b : Bool) → (c == 46) ≡ b → PointAt (c ∷ cs)
    by true e = some (eqb-true c 46 e)
    by false e = none (point-not (c ∷ cs) c cs refl (eqb-false c 46 e))

-- a sign, or nothing
sign_at : (ys : List ℕ) → (below : Bool) × IsSign below (take (sign_len ys) ys)
unfolding sign_len
sign_at [] = (false, inl refl)
sign_at (c ∷ cs) = by (c == 43) (c == 45) refl refl
  where
    by : (a b : Bool) → (c == 43) ≡ a → (c == 45) ≡ b → (below : Bool) × IsSign below (take (sign_len (c ∷ cs)) (c ∷ cs))
    by true b e f = (false, inr (ap (λ (n : ℕ). take n (c ∷ cs)) (sign-by (c ∷ cs) c cs true refl (ap (λ (t : Bool). t || (c == 45)) e)) ∙ ap (λ (n : ℕ). n ∷ []) (eqb-true c 43 e)))
    by false true e f = (true, ap (λ (n : ℕ). take n (c ∷ cs)) (sign-by (c ∷ cs) c cs true refl (ap (λ (t : Bool). t || (c == 45)) e ∙ f)) ∙ ap (λ (n : ℕ). n ∷ []) (eqb-true c 45 f))
    by false false e f = (false, inl (ap (λ (n : ℕ). take n (c ∷ cs)) (sign-by (c ∷ cs) c cs false refl (ap (λ (t : Bool). t || (c == 45)) e ∙ f))))

-- an exponent, or nothing
pub record ExponentAt (ys : List ℕ) : Type 0 where
  pub below : Bool
  pub digits : List ℕ
  pub is_exponent : IsExponent below digits (take (exponent_len ys) ys)

exponent_at : (ys : List ℕ) → ExponentAt ys
unfolding exponent_len
exponent_at [] = record { below = false; digits = []; is_exponent = inl (refl, refl, refl) }
exponent_at (c ∷ cs) = by (c == 101) (c == 69) refl refl
  where
    none : exponent_len (c ∷ cs) ≡ 0 → ExponentAt (c ∷ cs)
    none e = record { below = false; digits = []; is_exponent = inl (refl, refl, ap (λ (k : ℕ). take k (c ∷ cs)) e) }

    some : (c ≡ 101) ⊎ (c ≡ 69) → ExponentAt (c ∷ cs)
    some m =
        let s : ℕ = sign_len cs in
        let rest : List ℕ = drop s cs in
        let d : ℕ = prefix_len is_dec rest in
        count m d refl (exponent-by (c ∷ cs) c cs refl (mark_is c m) s d refl refl)
      where
        count : (c ≡ 101) ⊎ (c ≡ 69) → (d : ℕ) → d ≡ prefix_len is_dec (drop (sign_len cs) cs) → exponent_len (c ∷ cs) ≡ marked_len (sign_len cs) d → ExponentAt (c ∷ cs)
        count m zero e f = none f
        count m (suc d) e f =
            let s : ℕ = sign_len cs in
            let rest : List ℕ = drop s cs in
            let sign = sign_at cs in
            let is : exponent_len (c ∷ cs) ≡ 1 + (s + suc d) = f ∙ ap (λ (b : Bool). cond b 0 (1 + s + suc d)) (ne_eqb (suc d) 0 (λ z. omega arith)) ∙ omega arith in
            let few : suc d ≤ length rest = (let l = prefix_len-le-length is_dec rest in omega arith) in
            record {
              below = sign.0;
              digits = take (suc d) rest;
              is_exponent = inr (record {
                mark = c;
                sign = take s cs;
                is_mark = m;
                is_sign = sign.1;
                digits = subst (λ (n : ℕ). AllDec (take n rest)) (sym e) (dec-prefix rest);
                some = λ z. (let l : length (take (suc d) rest) ≡ suc d = length-take-le (suc d) rest few in let k : length (take (suc d) rest) ≡ 0 = ap length z in omega arith);
                bytes = ap (λ (k : ℕ). take k (c ∷ cs)) is ∙ rw one-add (ap (λ (t : List ℕ). c ∷ t) (take-add s (suc d) cs));
              });
            }

    by : (a b : Bool) → (c == 101) ≡ a → (c == 69) ≡ b → ExponentAt (c ∷ cs)
    by true b e f = some (inl (eqb-true c 101 e))
    by false true e f = some (inr (eqb-true c 69 f))
    by false false e f = none (exponent-not (c ∷ cs) c cs refl (ap (λ (t : Bool). t || (c == 69)) e ∙ f))

-- a number begins with a digit or a point
first_unsigned : (bs : List ℕ) → (prefix_len is_dec bs ≡ 0 → 1 < point_len bs) → is_sign (get_or bs 0 0) ≡ false
unfolding point_len
first_unsigned [] h = refl
first_unsigned (c ∷ cs) h = by (is_dec c) (c == 46) refl refl
  where
    by : (a b : Bool) → is_dec c ≡ a → (c == 46) ≡ b → is_sign c ≡ false
    by true b e f = grind (arith, nat_tests)
    by false true e f = ap is_sign (eqb-true c 46 f)
    by false false e f = absurd (
        let l = h (no_dec c cs e) in
        let z : point_len (c ∷ cs) ≡ 0 = point-not (c ∷ cs) c cs refl (eqb-false c 46 f) in
        omega arith)

-- the digits before a point, the point and the digits after it, and the exponent
abbrev whole_of : List ℕ → ℕ
whole_of bs = prefix_len is_dec bs

abbrev part_of : List ℕ → ℕ
part_of bs = point_len (drop (whole_of bs) bs)

abbrev tail_of : List ℕ → ℕ
tail_of bs = exponent_len (drop (part_of bs) (drop (whole_of bs) bs))

pub number : (bs : List ℕ) → 0 < number_len bs → IsUnsigned (take (number_len bs) bs)
number bs h = by ((whole_of bs == 0) && leb (part_of bs) 1) refl
  where
    found : (digit : whole_of bs ≡ 0 → 1 < part_of bs) → IsUnsigned (take (number_len bs) bs)
    found digit =
        let rest : List ℕ = drop (whole_of bs) bs in
        let point = point_at rest in
        let exponent = exponent_at (drop (part_of bs) rest) in
        let is : number_len bs ≡ whole_of bs + (part_of bs + tail_of bs) = number-is bs (whole_of bs) (part_of bs) (tail_of bs) refl refl refl digit in
        let before : List ℕ = take (whole_of bs) bs in
        let size : length before ≡ whole_of bs = length-take-le (whole_of bs) bs (prefix_len-le-length is_dec bs) in
        let spelling : Spelling = record { negative = false; before = before; after = point.after; below = exponent.below; exponent = exponent.digits } in
        let cut : take (number_len bs) bs ≡ before ++ (take (part_of bs) rest ++ take (tail_of bs) (drop (part_of bs) rest)) =
        ap (λ (k : ℕ). take k bs) is ∙ take-add (whole_of bs) (part_of bs + tail_of bs) bs ∙ ap (λ (t : List ℕ). before ++ t) (take-add (part_of bs) (tail_of bs) rest) in
        let start : (whole_of bs ≡ 0 → 1 < point_len bs) = λ z. subst (λ (k : ℕ). 1 < point_len (drop k bs)) z (digit z) in
        record {
          spelling = spelling;
          says = written_into (take (number_len bs) bs) spelling (record {
            sign = [];
            point = take (part_of bs) rest;
            tail = take (tail_of bs) (drop (part_of bs) rest);
            is_sign = inl refl;
            before = dec-prefix bs;
            after = point.digits;
            some = λ z. some digit point.after before point.size size z;
            is_point = point.is_point;
            is_exponent = exponent.is_exponent;
            bytes = cut;
          });
          unsigned = ap is_sign (get_or-take (number_len bs) bs 0 0 h) ∙ first_unsigned bs start;
        }
      where
        some : (whole_of bs ≡ 0 → 1 < part_of bs) → (after before : List ℕ) → (part_of bs ≡ 0) ⊎ (part_of bs ≡ 1 + length after) → length before ≡ whole_of bs → length before + length after ≡ 0 → ⊥
        some digit after before (inl e) size z = (let l = digit (omega arith) in omega arith)
        some digit after before (inr e) size z = (let l = digit (omega arith) in omega arith)

    by : (b : Bool) → ((whole_of bs == 0) && leb (part_of bs) 1) ≡ b → IsUnsigned (take (number_len bs) bs)
    by true e = absurd (let z = number-by bs (whole_of bs) (part_of bs) (tail_of bs) true refl refl refl e in omega arith)
    by false e = found (λ z. above z e)
      where
        above : whole_of bs ≡ 0 → ((whole_of bs == 0) && leb (part_of bs) 1) ≡ false → 1 < part_of bs
        above z e = grind (arith, nat_tests)
