-- The first of the numbers from 0 on that passes a test.
use Rattle.std.proofs.Common.{◌≡◌, ◌+◌, ◌<◌, ℕ, zero, suc, sym, ◌∙◌, ap, subst, Bool, true, cond, [], ◌∷◌, find, Option, Some, None, arith, inl, inr}
use Rattle.std.specs.Prelude.{◌⊎◌, false}
use Rattle.std.specs.Option.{option_or}
use Rattle.std.proofs.lemmas.Bool.{cases_lt}
use Rattle.std.proofs.lemmas.List.Folds.{find-append}
use Rattle.rational.specs.Rational.{ℚ, lt_q}
use Rattle.certs.specs.Ended.{numbers_from}
use Rattle.certs.specs.Plain.{are_crossed}

last_or_before : (v n : ℕ) → v < suc n → (v < n) ⊎ (v ≡ n)
last_or_before v n l = elim (cases_lt v n) [ inl m ↦ inl m | inr m ↦ inr (omega arith) ]

-- one number more
pub find_more : (p : ℕ → Bool) (n : ℕ) → find p (numbers_from 0 (n + 1)) ≡ option_or (find p (numbers_from 0 n)) (cond (p n) (Some n) None)
find_more p n =
    ap (λ k. find p (numbers_from 0 k)) (let e : n + 1 ≡ suc n = omega arith in e)
    ∙ find-append p (numbers_from 0 n) ((0 + n) ∷ [])
    ∙ ap (λ k. option_or (find p (numbers_from 0 n)) (cond (p k) (Some k) None)) (let e : 0 + n ≡ n = omega arith in e)

-- none is found, and the next one does not pass
pub none_more : (p : ℕ → Bool) (n : ℕ) → find p (numbers_from 0 n) ≡ None → p n ≡ false → find p (numbers_from 0 (n + 1)) ≡ None
none_more p n none e = find_more p n ∙ ap (λ o. option_or o (cond (p n) (Some n) None)) none ∙ ap (λ b. cond b (Some n) None) e

-- and it passes
next_found : (p : ℕ → Bool) (v n : ℕ) → (v < n → find p (numbers_from 0 n) ≡ Some v) → find p (numbers_from 0 v) ≡ None → p v ≡ true → (v < n) ⊎ (v ≡ n)
    → option_or (find p (numbers_from 0 n)) (cond (p n) (Some n) None) ≡ Some v
next_found p v n before none e (inl m) = ap (λ o. option_or o (cond (p n) (Some n) None)) (before m)
next_found p v n before none e (inr s) =
    subst (λ k. option_or (find p (numbers_from 0 k)) (cond (p k) (Some k) None) ≡ Some v) s (ap (λ o. option_or o (cond (p v) (Some v) None)) none ∙ ap (λ b. cond b (Some v) None) e)

pub first_found : (p : ℕ → Bool) (v n : ℕ) → v < n → find p (numbers_from 0 v) ≡ None → p v ≡ true → find p (numbers_from 0 n) ≡ Some v
first_found p v zero l none e = absurd (omega arith)
first_found p v (suc n) l none e =
    ap (λ k. find p (numbers_from 0 k)) (let s : suc n ≡ n + 1 = omega arith in s)
    ∙ find_more p n
    ∙ next_found p v n (λ m. first_found p v n m none e) none e (last_or_before v n l)

-- two numbers that are there
pub both_there : (lower upper : Option ℚ) (l u : ℚ) → lower ≡ Some l → upper ≡ Some u → lt_q u l ≡ are_crossed lower upper
both_there lower upper l u e f = sym (ap (λ o. are_crossed o upper) e ∙ ap (λ o. are_crossed (Some l) o) f)
