-- Lists and what is shown of them.
use Rattle.std.proofs.Common.{◌≡◌, ℕ, zero, suc, ◌<◌, ◌≤◌, List, [], ◌∷◌, ◌++◌, length, map, take, refl, sym, ap, ◌∙◌, arith, append-nil}
use Rattle.std.proofs.lemmas.List.{take_all, length_push}

pub map_push : {X Y : Type 0} (f : X → Y) (xs : List X) (x : X) → map f (xs ++ x ∷ []) ≡ map f xs ++ f x ∷ []
map_push f [] x = refl
map_push f (y ∷ xs) x = ap (λ ys. f y ∷ ys) (map_push f xs x)

-- ---- the first n
-- of lists of which the first n of the one are put before the other
pub take_more : {X : Type 0} (n : ℕ) (xs ys : List X) → take n (take n xs ++ ys) ≡ take n (xs ++ ys)
take_more zero xs ys = refl
take_more (suc n) [] ys = refl
take_more (suc n) (x ∷ xs) ys = ap (λ zs. x ∷ zs) (take_more n xs ys)

pub take_few : {X : Type 0} (n : ℕ) (xs : List X) → length (take n xs) ≤ n
take_few zero xs = omega arith
take_few (suc n) [] = omega arith
take_few (suc n) (x ∷ xs) = let h = take_few n xs in omega arith

-- one more is put last where there is room
pub take_room : {X : Type 0} (n : ℕ) (xs : List X) (x : X) → length xs < n → xs ++ x ∷ [] ≡ take n (xs ++ x ∷ [])
take_room n xs x h = let l = length_push xs x in sym (take_all n (xs ++ x ∷ []) (omega arith))

pub take_full : {X : Type 0} (n : ℕ) (xs : List X) (x : X) → n ≤ length xs → length xs ≤ n → xs ≡ take n (xs ++ x ∷ [])
take_full zero [] x g h = refl
take_full zero (y ∷ xs) x g h = absurd (omega arith)
take_full (suc n) [] x g h = absurd (omega arith)
take_full (suc n) (y ∷ xs) x g h = ap (λ zs. y ∷ zs) (take_full n xs x (omega arith) (omega arith))

pub take_same : {X : Type 0} (n : ℕ) (xs : List X) → length xs ≤ n → xs ≡ take n (xs ++ [])
take_same n xs h = sym (take_all n xs h) ∙ ap (take n) (sym (append-nil xs))
