-- A text up to the end of its first line.
use Rattle.std.proofs.Common.{◌≡◌, ℕ, zero, suc, ◌+◌, ◌-◌, ◌≤◌, not, Bool, true, false, cond, List, [], ◌∷◌, take, drop, refl, sym, ap, ◌∙◌, arith}
use Rattle.std.proofs.Math.Numerals.{one-add}
use Rattle.std.specs.List.{prefix_len, position_or_len, before_first, after_first}
use Rattle.std.proofs.lemmas.Bool.{true≢false}
use Rattle.std.proofs.lemmas.Bool.Decides.{nat_tests}
use Rattle.std.proofs.lemmas.List.{drop-take, drop-drop}
use Rattle.lane_scan.specs.Bytes.{is_end, is_nonblank}

-- ---- how many pass from the front on
pub prefix-drop : (p : ℕ → Bool) (n : ℕ) (xs : List ℕ) → n ≤ prefix_len p xs → prefix_len p (drop n xs) ≡ prefix_len p xs - n
prefix-drop p zero xs h = omega arith
prefix-drop p (suc n) [] h = absurd (omega arith)
prefix-drop p (suc n) (x ∷ xs) h = by (p x) (λ l. prefix-drop p n xs l) h
  where
    by : (b : Bool) → (n ≤ prefix_len p xs → prefix_len p (drop n xs) ≡ prefix_len p xs - n) → suc n ≤ cond b (1 + prefix_len p xs) 0 → prefix_len p (drop n xs) ≡ cond b (1 + prefix_len p xs) 0 - suc n
    by true r h = (let e = r (omega arith) in omega arith)
    by false r h = absurd (omega arith)

-- what passes p passes q
pub prefix-le : (p q : ℕ → Bool) → ((c : ℕ) → p c ≡ true → q c ≡ true) → (xs : List ℕ) → prefix_len p xs ≤ prefix_len q xs
prefix-le p q f [] = omega arith
prefix-le p q f (x ∷ xs) = by (p x) (q x) (f x) (prefix-le p q f xs)
  where
    by : (a b : Bool) → (a ≡ true → b ≡ true) → prefix_len p xs ≤ prefix_len q xs → cond a (1 + prefix_len p xs) 0 ≤ cond b (1 + prefix_len q xs) 0
    by true true f r = omega arith
    by true false f r = absurd (true≢false (sym (f refl)))
    by false true f r = omega arith
    by false false f r = omega arith

-- a parts pass, and then b more
pub prefix-add : (q : ℕ → Bool) (xs : List ℕ) (a b : ℕ) → a ≤ prefix_len q xs → b ≤ prefix_len q (drop a xs) → a + b ≤ prefix_len q xs
prefix-add q xs a b h l = let e = prefix-drop q a xs h in omega arith

-- ---- up to the end
pub cut-cons_yes : (c : ℕ) (cs : List ℕ) → is_end c ≡ true → before_first is_end (c ∷ cs) ≡ []
cut-cons_yes c cs e = ap (λ (b : Bool). take (cond (not b) (1 + position_or_len is_end cs) 0) (c ∷ cs)) e

pub cut-cons_no : (c : ℕ) (cs : List ℕ) → is_end c ≡ false → before_first is_end (c ∷ cs) ≡ c ∷ before_first is_end cs
cut-cons_no c cs e = ap (λ (b : Bool). take (cond (not b) (1 + position_or_len is_end cs) 0) (c ∷ cs)) e ∙ rw one-add refl

-- a test that no end passes sees no difference
pub cut-prefix : (p : ℕ → Bool) → ((c : ℕ) → is_end c ≡ true → p c ≡ false) → (xs : List ℕ) → prefix_len p (before_first is_end xs) ≡ prefix_len p xs
cut-prefix p f [] = refl
cut-prefix p f (x ∷ xs) = by (is_end x) refl (cut-prefix p f xs)
  where
    by : (b : Bool) → is_end x ≡ b → prefix_len p (before_first is_end xs) ≡ prefix_len p xs → prefix_len p (before_first is_end (x ∷ xs)) ≡ prefix_len p (x ∷ xs)
    by true e r = ap (prefix_len p) (cut-cons_yes x xs e) ∙ sym (ap (λ (b : Bool). cond b (1 + prefix_len p xs) 0) (f x e))
    by false e r = ap (prefix_len p) (cut-cons_no x xs e) ∙ ap (λ (n : ℕ). cond (p x) (1 + n) 0) r

-- the rest of the first line, from a place in it on
pub cut-drop : (n : ℕ) (xs : List ℕ) → n ≤ position_or_len is_end xs → before_first is_end (drop n xs) ≡ drop n (before_first is_end xs)
cut-drop n xs h =
    let k : ℕ = position_or_len is_end xs in
    let e : position_or_len is_end (drop n xs) ≡ k - n = prefix-drop (λ x. not (is_end x)) n xs h in
    let m : k ≡ n + (k - n) = omega arith in
    ap (λ (i : ℕ). take i (drop n xs)) e ∙ sym (ap (λ (i : ℕ). drop n (take i xs)) m ∙ drop-take n (k - n) xs)

-- and what stands after the line
pub rest-drop : (n : ℕ) (xs : List ℕ) → n ≤ position_or_len is_end xs → after_first is_end (drop n xs) ≡ after_first is_end xs
rest-drop n xs h =
    let k : ℕ = position_or_len is_end xs in
    let e : position_or_len is_end (drop n xs) ≡ k - n = prefix-drop (λ x. not (is_end x)) n xs h in
    drop-drop (position_or_len is_end (drop n xs) + 1) n xs ∙ ap (λ (i : ℕ). drop i xs) (omega arith)

-- blanks are no ends
pub blanks-within : (xs : List ℕ) → position_or_len is_nonblank xs ≤ position_or_len is_end xs
blanks-within xs = prefix-le (λ x. not (is_nonblank x)) (λ x. not (is_end x)) (λ c h. no_end c h) xs
  where
    no_end : (c : ℕ) → not (is_nonblank c) ≡ true → not (is_end c) ≡ true
    no_end c h = grind (arith, nat_tests)
