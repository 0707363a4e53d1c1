-- What a test that is told by a fact is.
use Rattle.std.proofs.Common.{◌≡◌, ℕ, Bool, true, false, List, refl, sym, true≢false}
use Rattle.std.specs.Prelude.{IsTrue, ◌↔◌}
use Rattle.std.specs.Str.{bytes_eq}
use Rattle.std.proofs.lemmas.Slice.Eq.{bytes_eq-Decides}

-- a test that is true exactly where two texts are the same is their comparison
pub test_is : (r : Bool) (xs ys : List ℕ) → (IsTrue r ↔ (xs ≡ ys)) → r ≡ bytes_eq xs ys
test_is r xs ys told = by r (bytes_eq xs ys) told (bytes_eq-Decides xs ys).0 (bytes_eq-Decides xs ys).1
  where
    by : (r b : Bool) → (IsTrue r ↔ (xs ≡ ys)) → (b ≡ true → xs ≡ ys) → (xs ≡ ys → b ≡ true) → r ≡ b
    by true true told f g = refl
    by true false told f g = absurd (true≢false (sym (g (told.0 refl))))
    by false true told f g = absurd (true≢false (sym (told.1 (f refl))))
    by false false told f g = refl
