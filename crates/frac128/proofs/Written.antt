-- The bytes of a literal, and what they say.
use Rattle.std.proofs.Common.{◌≡◌, ◌≢◌, ℕ, suc, ◌+◌, ◌==◌, ◌||◌, Bool, true, false, cond, List, [], ◌∷◌, ◌++◌, length, take, drop, Option, None, Some, option_map, inl, inr, refl, sym, ap, subst, ◌∙◌, arith, ◌⊎◌}
use Rattle.std.proofs.lemmas.Bool.Decides.{nat_tests}
use Rattle.std.proofs.lemmas.List.{take-append-drop}
use Rattle.std.proofs.Math.Seq.{drop-append_seam, take-append_seam}
use Rattle.std.specs.List.{prefix_len}
use Rattle.frac128.specs.Literal.{is_dec, AllDec, past_sign, past_digits, past_point, some_digits, exponent_in, Spelling, spelling_of, IsSign, IsPoint, IsExponent, IsWritten}
use Rattle.frac128.proofs.Digits.{dec-prefix}
use Rattle.frac128.proofs.Spellings.{sign-none, sign-minus, sign-plus, sign-other, exponent-none, exponent-digits, point-none, point-is, point-not, spelled-some}

same : (a b : ℕ) → (a == b) ≡ true → a ≡ b
same a b e = grind (arith, nat_tests)

no_digits : AllDec []
no_digits i l = absurd (omega arith)

-- ---- from what is said
sign_out : (bs : List ℕ) → (s : List ℕ) × (IsSign (past_sign bs).0 s × (bs ≡ s ++ (past_sign bs).1))
unfolding past_sign
sign_out [] = ([], (inl refl, refl))
sign_out (c ∷ cs) = go (c == 45) (c == 43) refl refl
  where
    go : (t u : Bool) → (c == 45) ≡ t → (c == 43) ≡ u
        → (s : List ℕ) × (IsSign (cond {A = Bool × List ℕ} t (true, cs) (cond u (false, cs) (false, c ∷ cs))).0 s × (c ∷ cs ≡ s ++ (cond {A = Bool × List ℕ} t (true, cs) (cond u (false, cs) (false, c ∷ cs))).1))
    go true u p q = (45 ∷ [], (refl, ap (λ (x : ℕ). x ∷ cs) (same c 45 p)))
    go false true p q = (43 ∷ [], (inr refl, ap (λ (x : ℕ). x ∷ cs) (same c 43 q)))
    go false false p q = ([], (inl refl, refl))

digits_out : (bs : List ℕ) → bs ≡ (past_digits bs).0 ++ (past_digits bs).1
unfolding past_digits
digits_out bs = sym (take-append-drop (prefix_len is_dec bs) bs)

dec_out : (bs : List ℕ) → AllDec (past_digits bs).0
unfolding past_digits
dec_out bs = dec-prefix bs

point_out : (bs : List ℕ) → (p : List ℕ) × ((IsPoint (past_point bs).0 p × AllDec (past_point bs).0) × (bs ≡ p ++ (past_point bs).1))
unfolding past_point
point_out [] = ([], ((inr (refl, refl), no_digits), refl))
point_out (c ∷ cs) = go (c == 46) refl
  where
    go : (t : Bool) → (c == 46) ≡ t
        → (p : List ℕ) × ((IsPoint (cond t (past_digits cs) ([], c ∷ cs)).0 p × AllDec (cond t (past_digits cs) ([], c ∷ cs)).0) × (c ∷ cs ≡ p ++ (cond t (past_digits cs) ([], c ∷ cs)).1))
    go true e = (46 ∷ (past_digits cs).0, ((inl refl, dec_out cs), λ i. same c 46 e i ∷ digits_out cs i))
    go false e = ([], ((inr (refl, refl), no_digits), refl))

none_some : {A : Type 0} (x : A) → ◌≡◌ {A = Option A} None (Some x) → ⊥
none_some x e = cc

take_all : (xs : List ℕ) → take (length xs) xs ≡ xs
take_all [] = refl
take_all (x ∷ xs) = ap (λ (l : List ℕ). x ∷ l) (take_all xs)

some_out : (s u : Bool) (xs ds : List ℕ) → some_digits (s, xs) ≡ Some (u, ds) → (s ≡ u) × (xs ≡ ds) × (xs ≢ []) × AllDec xs
some_out s u [] ds e = absurd (none_some _ e)
some_out s u (x ∷ xs) ds e = go (prefix_len is_dec (x ∷ xs) == length (x ∷ xs)) refl e
  where
    full : x ∷ xs ≢ []
    full h = cc

    go : (t : Bool) → (prefix_len is_dec (x ∷ xs) == length (x ∷ xs)) ≡ t → cond {A = Option (Bool × List ℕ)} t (Some (s, x ∷ xs)) None ≡ Some (u, ds) → (s ≡ u) × (x ∷ xs ≡ ds) × (x ∷ xs ≢ []) × AllDec (x ∷ xs)
    go false p h = absurd (none_some _ h)
    go true p h =
        let n = same (prefix_len is_dec (x ∷ xs)) (length (x ∷ xs)) p in
        let k : take (prefix_len is_dec (x ∷ xs)) (x ∷ xs) ≡ x ∷ xs = ap (λ (m : ℕ). take m (x ∷ xs)) n ∙ take_all (x ∷ xs) in
        let j : ◌≡◌ {A = Bool × List ℕ} (s, x ∷ xs) (u, ds) = cc in
        (ap (λ (q : Bool × List ℕ). q.0) j, ap (λ (q : Bool × List ℕ). q.1) j, full, subst AllDec k (dec-prefix (x ∷ xs)))

mark_out : (c : ℕ) → ((c == 101) || (c == 69)) ≡ true → (c ≡ 101) ⊎ (c ≡ 69)
mark_out c e = go (c == 101) (c == 69) refl refl e
  where
    go : (t u : Bool) → (c == 101) ≡ t → (c == 69) ≡ u → (t || u) ≡ true → (c ≡ 101) ⊎ (c ≡ 69)
    go true u p q h = inl (same c 101 p)
    go false true p q h = inr (same c 69 q)
    go false false p q h = cc

exponent_out : (bs : List ℕ) (u : Bool) (ds : List ℕ) → exponent_in bs ≡ Some (u, ds) → IsExponent u ds bs
unfolding exponent_in
exponent_out [] u ds e =
    let k : ◌≡◌ {A = Bool × List ℕ} (u, ds) (false, []) = cc in
    inl (ap (λ (q : Bool × List ℕ). q.0) k, ap (λ (q : Bool × List ℕ). q.1) k, refl)
exponent_out (c ∷ cs) u ds e = go ((c == 101) || (c == 69)) refl e
  where
    go : (t : Bool) → ((c == 101) || (c == 69)) ≡ t → cond t (some_digits (past_sign cs)) None ≡ Some (u, ds) → IsExponent u ds (c ∷ cs)
    go false p h = absurd (none_some _ h)
    go true p h =
        let s = sign_out cs in
        let k = some_out (past_sign cs).0 u (past_sign cs).1 ds h in
        inr (record {
          mark = c;
          sign = s.0;
          is_mark = mark_out c p;
          is_sign = subst (λ (b : Bool). IsSign b s.0) k.0 s.1.0;
          digits = subst AllDec k.1 k.3;
          some = λ z. k.2 (k.1 ∙ z);
          bytes = ap (λ (l : List ℕ). c ∷ l) (s.1.1 ∙ ap (λ (l : List ℕ). s.0 ++ l) k.1);
        })

-- the parts as they are found one after another
module _ (bs : List ℕ) (s : Bool) (sign t1 b t2 f p t3 : List ℕ) (hs : IsSign s sign) (e1 : bs ≡ sign ++ t1) (e2 : t1 ≡ b ++ t2) (hb : AllDec b) (hp : IsPoint f p) (hf : AllDec f) (e3 : t2 ≡ p ++ t3) where
  abbrev made : Bool × List ℕ → Spelling
  made e = record { negative = s; before = b; after = f; below = e.0; exponent = e.1 }

  apart : (n : ℕ) → (n == 0) ≡ false → n ≢ 0
  apart n h = grind (arith, nat_tests)

  written_by : (x : Spelling) (t : Bool) → (length b + length f == 0) ≡ t → (o : Option (Bool × List ℕ)) → exponent_in t3 ≡ o → cond t None (option_map made o) ≡ Some x → IsWritten x bs
  written_by x true q o r h = absurd (none_some _ h)
  written_by x false q None r h = absurd (none_some _ h)
  written_by x false q (Some (u, ds)) r h =
      let k : made (u, ds) ≡ x = cc in
      subst (λ (z : Spelling). IsWritten z bs) k (record {
        sign = sign;
        point = p;
        tail = t3;
        is_sign = hs;
        before = hb;
        after = hf;
        some = apart (length b + length f) q;
        is_point = hp;
        is_exponent = exponent_out t3 u ds r;
        bytes = e1 ∙ ap (λ (l : List ℕ). sign ++ l) (e2 ∙ ap (λ (l : List ℕ). b ++ l) e3);
      })

pub written_from : (bs : List ℕ) (x : Spelling) → spelling_of bs ≡ Some x → IsWritten x bs
unfolding spelling_of
written_from bs x e =
    let a = sign_out bs in
    let t1 = (past_sign bs).1 in
    let t2 = (past_digits t1).1 in
    let p = point_out t2 in
    written_by bs (past_sign bs).0 a.0 t1 (past_digits t1).0 t2 (past_point t2).0 p.0 (past_point t2).1 a.1.0 a.1.1 (digits_out t1) (dec_out t1) p.1.0.0 p.1.0.1 p.1.1 x
    (length (past_digits t1).0 + length (past_point t2).0 == 0) refl (exponent_in (past_point t2).1) refl e

-- ---- from what is written
abbrev NoSign : List ℕ → Type 0
NoSign bs = (c : ℕ) (cs : List ℕ) → bs ≡ c ∷ cs → (c ≢ 45) × (c ≢ 43)

abbrev NoDigit : List ℕ → Type 0
NoDigit bs = (c : ℕ) (cs : List ℕ) → bs ≡ c ∷ cs → is_dec c ≡ false

abbrev NoPoint : List ℕ → Type 0
NoPoint bs = (c : ℕ) (cs : List ℕ) → bs ≡ c ∷ cs → c ≢ 46

sign_bare : (rest : List ℕ) → NoSign rest → past_sign rest ≡ (false, rest)
sign_bare [] h = sign-none [] refl
sign_bare (c ∷ cs) h = sign-other (c ∷ cs) c cs refl (h c cs refl).0 (h c cs refl).1

sign_in : (n : Bool) (s rest : List ℕ) → IsSign n s → NoSign rest → past_sign (s ++ rest) ≡ (n, rest)
sign_in false s rest (inl e) h = ap (λ (l : List ℕ). past_sign (l ++ rest)) e ∙ sign_bare rest h
sign_in false s rest (inr e) h = ap (λ (l : List ℕ). past_sign (l ++ rest)) e ∙ sign-plus (43 ∷ rest) 43 rest refl (omega arith) refl
sign_in true s rest e h = ap (λ (l : List ℕ). past_sign (l ++ rest)) e ∙ sign-minus (45 ∷ rest) 45 rest refl refl

prefix_all : (ds rest : List ℕ) → AllDec ds → NoDigit rest → prefix_len is_dec (ds ++ rest) ≡ length ds
prefix_all [] [] h k = refl
prefix_all [] (c ∷ cs) h k = let e = k c cs refl in rw e refl
prefix_all (d ∷ ds) rest h k =
    let e : is_dec d ≡ true = h 0 (omega arith) in
    let r = prefix_all ds rest (λ i l. h (suc i) (omega arith)) k in
    let n : 1 + prefix_len is_dec (ds ++ rest) ≡ suc (length ds) = omega arith in
    rw e n

digits_in : (ds rest : List ℕ) → AllDec ds → NoDigit rest → past_digits (ds ++ rest) ≡ (ds, rest)
unfolding past_digits
digits_in ds rest h k =
    ap (λ (n : ℕ). (take n (ds ++ rest), drop n (ds ++ rest))) (prefix_all ds rest h k)
    ∙ (λ i. (take-append_seam ds rest i, drop-append_seam ds rest i))

point_bare : (rest : List ℕ) → NoPoint rest → past_point rest ≡ ([], rest)
point_bare [] h = point-none [] refl
point_bare (c ∷ cs) h = point-not (c ∷ cs) c cs refl (h c cs refl)

point_in : (ds p rest : List ℕ) → IsPoint ds p → AllDec ds → NoDigit rest → NoPoint rest → past_point (p ++ rest) ≡ (ds, rest)
point_in ds p rest (inl e) h k n = ap (λ (l : List ℕ). past_point (l ++ rest)) e ∙ point-is (46 ∷ (ds ++ rest)) 46 (ds ++ rest) refl refl ∙ digits_in ds rest h k
point_in ds p rest (inr e) h k n = ap (λ (l : List ℕ). past_point (l ++ rest)) e.1 ∙ point_bare rest n ∙ (λ i. (sym e.0 i, rest))

head_same : (a b : ℕ) (xs ys : List ℕ) → a ∷ xs ≡ b ∷ ys → a ≡ b
head_same a b xs ys e = cc

nil_some : (x : ℕ) (xs : List ℕ) → ◌≡◌ {A = List ℕ} [] (x ∷ xs) → ⊥
nil_some x xs e = cc

digit_sign : (c : ℕ) → is_dec c ≡ true → (c ≢ 45) × (c ≢ 43)
digit_sign c h = (λ e. apart_minus (ap is_dec (sym e) ∙ h), λ e. apart_plus (ap is_dec (sym e) ∙ h))
  where
    apart_minus : is_dec 45 ≡ true → ⊥
    apart_minus z = cc

    apart_plus : is_dec 43 ≡ true → ⊥
    apart_plus z = cc

marked : (m : ℕ) → (m ≡ 101) ⊎ (m ≡ 69) → (((m == 101) || (m == 69)) ≡ true) × ((is_dec m ≡ false) × (m ≢ 46))
marked m (inl e) = (ap (λ (n : ℕ). (n == 101) || (n == 69)) e, (ap is_dec e, omega arith))
marked m (inr e) = (ap (λ (n : ℕ). (n == 101) || (n == 69)) e, (ap is_dec e, omega arith))

digits_sign : (ds rest : List ℕ) → ds ≢ [] → AllDec ds → NoSign (ds ++ rest)
digits_sign [] rest n h c cs e = absurd (n refl)
digits_sign (d ∷ ds) rest n h c cs e = digit_sign c (subst (λ (z : ℕ). is_dec z ≡ true) (head_same d c _ cs e) (h 0 (omega arith)))

dec_sign : (ds : List ℕ) → ds ≢ [] → AllDec ds → NoSign ds
dec_sign [] n h c cs e = absurd (n refl)
dec_sign (d ∷ ds) n h c cs e = digit_sign c (subst (λ (z : ℕ). is_dec z ≡ true) (head_same d c _ cs e) (h 0 (omega arith)))

dec_len : (ds : List ℕ) → AllDec ds → prefix_len is_dec ds ≡ length ds
dec_len [] h = refl
dec_len (d ∷ ds) h =
    let e : is_dec d ≡ true = h 0 (omega arith) in
    let r = dec_len ds (λ i l. h (suc i) (omega arith)) in
    let n : 1 + prefix_len is_dec ds ≡ suc (length ds) = omega arith in
    rw e n

some_len : (ds : List ℕ) → ds ≢ [] → length ds ≢ 0
some_len [] n e = n refl
some_len (d ∷ ds) n e = absurd (omega arith)

tail_digit : (u : Bool) (ds t : List ℕ) → IsExponent u ds t → NoDigit t
tail_digit u ds t (inl z) c cs e = absurd (nil_some c cs (sym z.2 ∙ e))
tail_digit u ds t (inr m) c cs e = subst (λ (n : ℕ). is_dec n ≡ false) (head_same m.mark c _ cs (sym m.bytes ∙ e)) (marked m.mark m.is_mark).1.0

tail_point : (u : Bool) (ds t : List ℕ) → IsExponent u ds t → NoPoint t
tail_point u ds t (inl z) c cs e = absurd (nil_some c cs (sym z.2 ∙ e))
tail_point u ds t (inr m) c cs e = subst (λ (n : ℕ). n ≢ 46) (head_same m.mark c _ cs (sym m.bytes ∙ e)) (marked m.mark m.is_mark).1.1

exponent_back : (u : Bool) (ds t : List ℕ) → IsExponent u ds t → exponent_in t ≡ Some (u, ds)
exponent_back u ds t (inl z) = ap exponent_in z.2 ∙ exponent-none [] refl ∙ (λ i. Some (sym z.0 i, sym z.1 i))
exponent_back u ds t (inr m) =
    let s = sign_in u m.sign ds m.is_sign (dec_sign ds m.some m.digits) in
    exponent-digits t m.mark (m.sign ++ ds) m.bytes (marked m.mark m.is_mark).0 u ds (sym (ap (λ (q : Bool × List ℕ). q.0) s)) (sym (ap (λ (q : Bool × List ℕ). q.1) s)) (some_len ds m.some) (dec_len ds m.digits)

point_digit : (f p t : List ℕ) → IsPoint f p → NoDigit t → NoDigit (p ++ t)
point_digit f p t (inl e) h c cs z = ap is_dec (sym (head_same 46 c _ cs (sym (ap (λ (l : List ℕ). l ++ t) e) ∙ z)))
point_digit f p t (inr e) h c cs z = h c cs (sym (ap (λ (l : List ℕ). l ++ t) e.1) ∙ z)

start_sign : (b f p t : List ℕ) → AllDec b → length b + length f ≢ 0 → IsPoint f p → NoSign (b ++ (p ++ t))
start_sign [] f p t h n (inl e) c cs z =
    let k : 46 ≡ c = head_same 46 c _ cs (sym (ap (λ (l : List ℕ). l ++ t) e) ∙ z) in
    (omega arith, omega arith)
start_sign [] f p t h n (inr e) c cs z = let k : length f ≡ 0 = ap (length {A = ℕ}) e.0 in absurd (n (omega arith))
start_sign (d ∷ b) f p t h n e c cs z = digits_sign (d ∷ b) (p ++ t) (λ (w : d ∷ b ≡ []). nil_some d b (sym w)) h c cs z

pub written_into : (bs : List ℕ) (x : Spelling) → IsWritten x bs → spelling_of bs ≡ Some x
written_into bs x w =
    let t2 = w.point ++ w.tail in
    let t1 = x.before ++ t2 in
    let td = tail_digit x.below x.exponent w.tail w.is_exponent in
    let tp = tail_point x.below x.exponent w.tail w.is_exponent in
    let s = ap past_sign w.bytes ∙ sign_in x.negative w.sign t1 w.is_sign (start_sign x.before x.after w.point w.tail w.before w.some w.is_point) in
    let d = digits_in x.before t2 w.before (point_digit x.after w.point w.tail w.is_point td) in
    let p = point_in x.after w.point w.tail w.is_point w.after td tp in
    spelled-some bs x.negative t1 x.before t2 x.after w.tail
    (sym (ap (λ (q : Bool × List ℕ). q.0) s)) (sym (ap (λ (q : Bool × List ℕ). q.1) s))
    (sym (ap (λ (q : List ℕ × List ℕ). q.0) d)) (sym (ap (λ (q : List ℕ × List ℕ). q.1) d))
    (sym (ap (λ (q : List ℕ × List ℕ). q.0) p)) (sym (ap (λ (q : List ℕ × List ℕ). q.1) p))
    x.below x.exponent w.some (exponent_back x.below x.exponent w.tail w.is_exponent)
