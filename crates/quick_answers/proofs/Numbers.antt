-- Tests of the numbers from 0 on.
use Rattle.std.proofs.Common.{◌≡◌, ℕ, ◌+◌, ◌<◌, sym, ◌∙◌, ap, subst, Bool, true, false, ◌||◌, [], ◌∷◌, length, get_or, arith}
use Rattle.std.specs.List.{list_any}
use Rattle.std.proofs.lemmas.List.Folds.{list_any-append, list_any_at}
use Rattle.std.proofs.Math.Bool.{or-false}
use Rattle.certs.specs.Ended.{numbers_from}
use Rattle.certs.proofs.Numbered.{numbers_more}
use Rattle.certs.proofs.Translated.{length_numbers, number_at}

-- one number more
any_more : (p : ℕ → Bool) (n : ℕ) → list_any p (numbers_from 0 (n + 1)) ≡ (list_any p (numbers_from 0 n) || p n)
any_more p n = ap (list_any p) (numbers_more n) ∙ list_any-append p (numbers_from 0 n) (n ∷ []) ∙ ap (λ b. list_any p (numbers_from 0 n) || b) (or-false (p n))

-- none passes, and the next one does not
pub none_more : (p : ℕ → Bool) (n : ℕ) → list_any p (numbers_from 0 n) ≡ false → p n ≡ false → list_any p (numbers_from 0 (n + 1)) ≡ false
none_more p n h e = any_more p n ∙ ap (λ b. b || p n) h ∙ e

-- one passes
pub some_passes : (p : ℕ → Bool) (i n : ℕ) → i < n → p i ≡ true → list_any p (numbers_from 0 n) ≡ true
some_passes p i n l e =
    let within : i < length (numbers_from 0 n) = subst (λ k. i < k) (sym (length_numbers 0 n)) l in
    let at : get_or (numbers_from 0 n) i 0 ≡ i = number_at 0 n i 0 l ∙ (let z : 0 + i ≡ i = omega arith in z) in
    list_any_at p (numbers_from 0 n) i 0 within (ap p at ∙ e)
