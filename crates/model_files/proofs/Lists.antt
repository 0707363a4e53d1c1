-- Parts of programs by lists.
use Rattle.std.proofs.Common.{◌≡◌, ◌<◌, ◌+◌, ℕ, suc, Bool, true, false, true≢false, List, [], ◌∷◌, length, refl, sym, ap, ◌∙◌, arith}
use Rattle.std.specs.Prelude.{cond, map, All}
use Rattle.std.proofs.lemmas.List.Elements.{All-cons, All-nil}
use Rattle.rational.specs.Rational.{ℚ, zero_ℚ, eq_ℚ}
use Rattle.rational.proofs.Compare.{eq-Decides}
use Rattle.rational.specs.Linear.{Term}
use Rattle.model_files.proofs.Formed.{Ascends, from-lower}

-- names of things that are made of others
pub map-same : {X Y : Type 0} (name : Y → List ℕ) (f : X → Y) (xs : List X) → map name (map f xs) ≡ map (λ x. name (f x)) xs
map-same name f [] = refl
map-same name f (x ∷ xs) = ap (λ ys. name (f x) ∷ ys) (map-same name f xs)

-- what holds of everything that is made
pub all-made : {X Y : Type 0} (P : Y → Type 0) (f : X → Y) → ((x : X) → P (f x)) → (xs : List X) → All P (map f xs)
all-made P f h [] = All-nil P
all-made P f h (x ∷ xs) = All-cons P (f x) (map f xs) (h x) (all-made P f h xs)

-- a term before others
pub ascends-with : (v : ℚ) (n j : ℕ) (ts : List Term) → j < n → Ascends n (j + 1) ts → Ascends n j (cond (eq_ℚ v zero_ℚ) ts (record { column = j; factor = v } ∷ ts))
ascends-with v n j ts l a = by (eq_ℚ v zero_ℚ) refl
  where
    by : (b : Bool) → eq_ℚ v zero_ℚ ≡ b → Ascends n j (cond b ts (record { column = j; factor = v } ∷ ts))
    by true e = from-lower n j (j + 1) ts (omega arith) a
    by false e = (omega arith, (l, ((λ z. true≢false (sym ((eq-Decides v zero_ℚ).1 z) ∙ e)), a)))

-- as many are made
pub length-made : {X Y : Type 0} (f : X → Y) (xs : List X) → length (map f xs) ≡ length xs
length-made f [] = refl
length-made f (x ∷ xs) = ap suc (length-made f xs)
