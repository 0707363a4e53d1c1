-- Parts of a list between two places, and the first place of a kind.
use Rattle.std.proofs.Common.{◌≡◌, ℕ, suc, ◌+◌, ◌-◌, ◌<◌, ◌≤◌, ltb, Bool, true, false, not, ◌||◌, cond, List, [], ◌∷◌, length, get_or, take, drop, refl, sym, ap, ◌∙◌, arith}
use Rattle.std.specs.List.{slice_range, position_or_len, list_any}
use Rattle.std.proofs.lemmas.Bool.{lt-ltb}
use Rattle.std.proofs.lemmas.Bool.Decides.{nat_tests}
use Rattle.std.proofs.lemmas.List.{get_or-take, get_or-drop, take-take, drop-take, drop-drop}

-- a part cut at m, where from ≤ m ≤ to
module _ (xs : List ℕ) (from m to : ℕ) (low : from ≤ m) (high : m ≤ to) where
  pub range-front : slice_range xs from m ≡ take (m - from) (slice_range xs from to)
  range-front = sym (take-take (m - from) (to - from) (drop from xs) (omega arith))

  pub range-rest : slice_range xs m to ≡ drop (m - from) (slice_range xs from to)
  range-rest =
      let a : to - from ≡ (m - from) + (to - m) = omega arith in
      let b : from + (m - from) ≡ m = omega arith in
      sym (
      ap (λ (k : ℕ). drop (m - from) (take k (drop from xs))) a
      ∙ drop-take (m - from) (to - m) (drop from xs)
      ∙ ap (take (to - m)) (drop-drop (m - from) from xs ∙ ap (λ (k : ℕ). drop k xs) b))

-- some element passes exactly where the first that passes is within the list
pub list_any-position : (p : ℕ → Bool) (xs : List ℕ) → list_any p xs ≡ ltb (position_or_len p xs) (length xs)
list_any-position p [] = refl
list_any-position p (x ∷ xs) = by (p x) (list_any-position p xs)
  where
    by : (b : Bool) → list_any p xs ≡ ltb (position_or_len p xs) (length xs) → (b || list_any p xs) ≡ ltb (cond (not b) (1 + position_or_len p xs) 0) (suc (length xs))
    by true h = sym (lt-ltb 0 (suc (length xs)) (omega arith))
    by false h = h ∙ grind (arith, nat_tests)

-- what stands first in a part
pub get_or-range : (xs : List ℕ) (from to : ℕ) → from < to → get_or (slice_range xs from to) 0 0 ≡ get_or xs from 0
get_or-range xs from to h = get_or-take (to - from) (drop from xs) 0 0 (omega arith) ∙ get_or-drop from xs 0 0 ∙ ap (λ (k : ℕ). get_or xs k 0) (omega arith)
