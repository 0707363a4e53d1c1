-- Lists that are joined or filtered: what holds of their elements and pairs, and how long they are.
use Rattle.std.proofs.Common.{◌≡◌, ◌+◌, ◌*◌, ◌<◌, ◌≤◌, refl, ◌∙◌, ap, ℕ, suc, Bool, true, false, cond, List, [], ◌∷◌, ◌++◌, map, length, length-append, get_or, filter, arith}
use Rattle.std.specs.Prelude.{All, AllPairs, flat_map}
use Rattle.std.proofs.lemmas.List.{map-append}
use Rattle.std.proofs.lemmas.List.Elements.{All-append, All-head, All-nil, All-tail, All-weaker}
use Rattle.std.proofs.lemmas.List.Kept.{AllPairs-cons}
use Rattle.lp_model.proofs.Sets.{pairs_head, pairs_tail}

pub All-flat_map : {X Y : Type 0} (P : Y → Type 0) (f : X → List Y) (xs : List X) → All (λ x. All P (f x)) xs → All P (flat_map f xs)
All-flat_map P f [] h = All-nil P
All-flat_map P f (x ∷ xs) h = All-append P (f x) (flat_map f xs) (All-head (λ x. All P (f x)) x xs h) (All-flat_map P f xs (All-tail (λ x. All P (f x)) x xs h))

pub map-flat_map : {X Y Z : Type 0} (g : Y → Z) (f : X → List Y) (xs : List X) → map g (flat_map f xs) ≡ flat_map (λ x. map g (f x)) xs
map-flat_map g f [] = refl
map-flat_map g f (x ∷ xs) = map-append g (f x) (flat_map f xs) ∙ ap (λ z. map g (f x) ++ z) (map-flat_map g f xs)

pub flat_map-same : {X Y : Type 0} (f g : X → List Y) → ((x : X) → f x ≡ g x) → (xs : List X) → flat_map f xs ≡ flat_map g xs
flat_map-same f g h [] = refl
flat_map-same f g h (x ∷ xs) = ap (λ z. z ++ flat_map f xs) (h x) ∙ ap (λ z. g x ++ z) (flat_map-same f g h xs)

-- ---- lengths
pub kept_few : {X : Type 0} (p : X → Bool) (xs : List X) → length (filter p xs) ≤ length xs
kept_few p [] = omega arith
kept_few p (x ∷ xs) = by (kept_few p xs) (p x)
  where
    by : length (filter p xs) ≤ length xs → (b : Bool) → length (cond b (x ∷ filter p xs) (filter p xs)) ≤ length (x ∷ xs)
    by h true = omega (arith, h)
    by h false = omega (arith, h)

pub joined_few : {X Y : Type 0} (f : X → List Y) (k : ℕ) → ((x : X) → length (f x) ≤ k) → (xs : List X) → length (flat_map f xs) ≤ length xs * k
joined_few f k h [] = omega arith
joined_few f k h (x ∷ xs) = let l = length-append (f x) (flat_map f xs) in let a = h x in let b = joined_few f k h xs in omega (arith, l, a, b)

-- numbers that ascend from a on, below n
pub ascending_few : {X : Type 0} (f : X → ℕ) (a n : ℕ) (xs : List X) → a ≤ n → All (λ x. (a ≤ f x) × (f x < n)) xs → AllPairs (λ x y. f x < f y) xs → a + length xs ≤ n
ascending_few f a n [] l h p = omega arith
ascending_few f a n (x ∷ xs) l h p =
    let here = All-head (λ x. (a ≤ f x) × (f x < n)) x xs h in
    let rest = All-tail (λ x. (a ≤ f x) × (f x < n)) x xs h in
    let after = pairs_head (λ x y. f x < f y) x xs p in
    let low = here.0 in
    let high = here.1 in
    let more = ascending_few f (suc (f x)) n xs (omega (arith, high)) (λ k d m. ((let g = after k d m in omega (arith, g)), (rest k d m).1)) (pairs_tail (λ x y. f x < f y) x xs p) in
    omega (arith, low, more)

-- ---- pairs
module _ {X : Type 0} (R : X → X → Type 0) where
  pub no_pairs : AllPairs R []
  no_pairs i j d lt l = absurd (omega arith)

  pub one_pair : (x : X) → AllPairs R (x ∷ [])
  one_pair x = AllPairs-cons R x [] (All-nil (R x)) no_pairs

  -- each of the first list with each of the second
  pub pairs_append : (xs ys : List X) → AllPairs R xs → AllPairs R ys → All (λ x. All (R x) ys) xs → AllPairs R (xs ++ ys)
  pairs_append [] ys h k across = k
  pairs_append (x ∷ xs) ys h k across =
      AllPairs-cons R x (xs ++ ys)
      (All-append (R x) xs ys (pairs_head R x xs h) (All-head (λ y. All (R y) ys) x xs across))
      (pairs_append xs ys (pairs_tail R x xs h) k (All-tail (λ y. All (R y) ys) x xs across))

-- each of two lists by what holds of each
pub across : {X : Type 0} (R : X → X → Type 0) (P Q : X → Type 0) → ((x y : X) → P x → Q y → R x y) → (xs ys : List X) → All P xs → All Q ys → All (λ x. All (R x) ys) xs
across R P Q f xs ys p q = All-weaker P (λ x. All (R x) ys) (λ x h. All-weaker Q (R x) (λ y k. f x y h k) ys q) xs p

-- ---- elements of two lists
pub at_back : {X : Type 0} (xs ys : List X) (i : ℕ) (d : X) → get_or (xs ++ ys) (length xs + i) d ≡ get_or ys i d
at_back [] ys i d = ap (λ k. get_or ys k d) (let e : 0 + i ≡ i = omega arith in e)
at_back (x ∷ xs) ys i d = ap (λ k. get_or (x ∷ (xs ++ ys)) k d) (let e : suc (length xs) + i ≡ suc (length xs + i) = omega arith in e) ∙ at_back xs ys i d
