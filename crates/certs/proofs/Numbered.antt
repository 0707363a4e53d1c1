-- Lists over the numbers from 0 on, as loops make them.
use Rattle.std.proofs.Common.{◌≡◌, ℕ, suc, ◌+◌, Bool, true, false, cond, [], ◌∷◌, ◌++◌, map, ◌∙◌, ap, arith}
use Rattle.std.specs.List.{filter}
use Rattle.std.proofs.lemmas.List.{map-append, append-nil}
use Rattle.std.proofs.lemmas.List.Elements.{filter-append}
use Rattle.certs.specs.Ended.{numbers_from}

-- one number more
pub numbers_more : (n : ℕ) → numbers_from 0 (n + 1) ≡ numbers_from 0 n ++ n ∷ []
numbers_more n = ap (numbers_from 0) (let e : n + 1 ≡ suc n = omega arith in e) ∙ ap (λ k. numbers_from 0 n ++ k ∷ []) (let e : 0 + n ≡ n = omega arith in e)

-- and what is made of them
pub mapped_more : {X : Type 0} (f : ℕ → X) (n : ℕ) → map f (numbers_from 0 (n + 1)) ≡ map f (numbers_from 0 n) ++ f n ∷ []
mapped_more f n = ap (map f) (numbers_more n) ∙ map-append f (numbers_from 0 n) (n ∷ [])

-- those that pass a test
pub filtered_more : (p : ℕ → Bool) (n : ℕ) → filter p (numbers_from 0 (n + 1)) ≡ filter p (numbers_from 0 n) ++ cond (p n) (n ∷ []) []
filtered_more p n = ap (filter p) (numbers_more n) ∙ filter-append p (numbers_from 0 n) (n ∷ [])

-- one that passes, and one that does not
pub filtered_yes : (p : ℕ → Bool) (n : ℕ) → p n ≡ true → filter p (numbers_from 0 (n + 1)) ≡ filter p (numbers_from 0 n) ++ n ∷ []
filtered_yes p n e = filtered_more p n ∙ ap (λ b. filter p (numbers_from 0 n) ++ cond b (n ∷ []) []) e

-- the second
pub filtered_no : (p : ℕ → Bool) (n : ℕ) → p n ≡ false → filter p (numbers_from 0 (n + 1)) ≡ filter p (numbers_from 0 n)
filtered_no p n e = filtered_more p n ∙ (ap (λ b. filter p (numbers_from 0 n) ++ cond b (n ∷ []) []) e ∙ append-nil (filter p (numbers_from 0 n)))
