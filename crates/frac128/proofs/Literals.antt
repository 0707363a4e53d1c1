-- What a literal's digits and its power of ten say.
use Rattle.std.proofs.Common.{◌≡◌, ◌≢◌, ℕ, suc, ◌+◌, ◌-◌, ◌*◌, ◌^◌, ◌≤◌, ◌==◌, Bool, true, false, cond, List, [], ◌∷◌, ◌++◌, length, ℤ, pos, negsuc, ◌*ℤ◌, ◌≤ℤ◌, refl, ap, arith}
use Rattle.std.specs.Bool.{Decides}
use Rattle.std.proofs.lemmas.Bool.Decides.{nat_tests}
use Rattle.std.proofs.lemmas.Int.{ints}
use Rattle.std.proofs.lemmas.Nat.{pow-add}
use Rattle.std.proofs.Math.Nat.{pow-suc}
use Rattle.rational.specs.Rational.{whole, ◌≤ℚ◌}
use Rattle.rational.proofs.Order.{frac-le}
use Rattle.frac128.specs.Literal.{number_after, kept_before, kept, is_huge, scaled}
use Rattle.frac128.proofs.Placed.{leb-yes, leb-le, ten-pos}

-- the zeros at the end of what stands after the digits of n
pub kept-value : (n : ℕ) (ds : List ℕ) → number_after n ds ≡ number_after n (kept ds) * 10 ^ (length ds - length (kept ds))
unfolding kept number_after
kept-value n [] = omega arith
kept-value n (c ∷ cs) = go (kept cs) (kept-value (n * 10 + (c - 48)) cs)
  where
    zeros : (t : Bool) → (c == 48) ≡ t → number_after (n * 10 + (c - 48)) cs ≡ (n * 10 + (c - 48)) * 10 ^ (length cs - 0) → number_after (n * 10 + (c - 48)) cs ≡ number_after n (cond t [] (c ∷ [])) * 10 ^ (suc (length cs) - length (cond t [] (c ∷ [])))
    zeros true p e =
        let z : c ≡ 48 = grind (arith, nat_tests) in
        let x : length cs - 0 ≡ length cs = omega arith in
        let y : suc (length cs) - 0 ≡ suc (length cs) = omega arith in
        let w : n * 10 + (c - 48) ≡ n * 10 = omega arith in
        let f = rw x at e in
        let g = ap (λ (k : ℕ). k * 10 ^ length cs) w in
        let h = ap (λ (k : ℕ). n * k) (pow-suc 10 (length cs)) in
        rw y (omega arith)
    zeros false p e =
        let x : suc (length cs) - 1 ≡ length cs - 0 = omega arith in
        rw x e

    go : (k : List ℕ) → number_after (n * 10 + (c - 48)) cs ≡ number_after (n * 10 + (c - 48)) k * 10 ^ (length cs - length k) → number_after (n * 10 + (c - 48)) cs ≡ number_after n (kept_before c k) * 10 ^ (suc (length cs) - length (kept_before c k))
    go [] e = zeros (c == 48) refl e
    go (d ∷ ds) e =
        let x : suc (length cs) - suc (suc (length ds)) ≡ length cs - suc (length ds) = omega arith in
        rw x e

nil_some : (x : ℕ) (xs : List ℕ) → ◌≡◌ {A = List ℕ} [] (x ∷ xs) → ⊥
nil_some x xs e = cc

-- the last digit that is kept is not 0
one_last : (c : ℕ) (t : Bool) → (c == 48) ≡ t → (front : List ℕ) → cond t [] (c ∷ []) ≢ front ++ (48 ∷ [])
one_last c true p [] e = nil_some _ _ e
one_last c true p (x ∷ front) e = nil_some _ _ e
one_last c false p [] e = let s : c ≡ 48 = cc in grind (arith, nat_tests)
one_last c false p (x ∷ []) e = cc
one_last c false p (x ∷ y ∷ front) e = cc

pub kept-last : (ds front : List ℕ) → kept ds ≢ front ++ (48 ∷ [])
unfolding kept
kept-last [] [] e = nil_some _ _ e
kept-last [] (x ∷ front) e = nil_some _ _ e
kept-last (c ∷ cs) front e = go (kept cs) (kept-last cs) front e
  where
    go : (k : List ℕ) → ((front : List ℕ) → k ≢ front ++ (48 ∷ [])) → (front : List ℕ) → kept_before c k ≢ front ++ (48 ∷ [])
    go [] h front e = one_last c (c == 48) refl front e
    go (d ∷ ds) h [] e = cc
    go (d ∷ ds) h (x ∷ front) e = h front (cc)

-- ---- at least 10^20
into_order : (a b d : ℕ) → a * b ≤ d → (pos a *ℤ pos b) ≤ℤ (pos d *ℤ pos 1)
into_order a b d h = omega (arith, ints)

from_order : (a b d : ℕ) → (pos a *ℤ pos b) ≤ℤ (pos d *ℤ pos 1) → a * b ≤ d
from_order a b d h = omega (arith, ints)

pub huge-Decides : (d : ℕ) (q : ℤ) → Decides (is_huge d q) (whole (pos (10 ^ 20)) ≤ℚ scaled false d q)
unfolding is_huge scaled
huge-Decides d (pos k) =
    let both = frac-le (pos (10 ^ 20)) (pos (d * 10 ^ k)) 1 1 (omega arith) (omega arith) in (
      λ e. both.1 (let h : 10 ^ 20 ≤ d * 10 ^ k = leb-le (10 ^ 20) (d * 10 ^ k) e in into_order (10 ^ 20) 1 (d * 10 ^ k) (omega arith)),
      λ h. leb-yes (10 ^ 20) (d * 10 ^ k) (let l = from_order (10 ^ 20) 1 (d * 10 ^ k) (both.0 h) in omega arith),
    )
huge-Decides d (negsuc k) =
    let both = frac-le (pos (10 ^ 20)) (pos d) 1 (10 ^ suc k) (omega arith) (ten-pos (suc k)) in
    let p = pow-add 10 20 (suc k) in (
      λ e. both.1 (let h = leb-le (10 ^ (20 + suc k)) d e in into_order (10 ^ 20) (10 ^ suc k) d (omega arith)),
      λ h. leb-yes (10 ^ (20 + suc k)) d (let l = from_order (10 ^ 20) (10 ^ suc k) d (both.0 h) in omega arith),
    )
