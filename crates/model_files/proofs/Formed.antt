-- When rows and columns are well formed.
use Rattle.std.proofs.Common.{◌≡◌, ◌≢◌, ◌<◌, ◌≤◌, ◌+◌, ℕ, Bool, true, false, List, [], ◌∷◌, ◌++◌, refl, sym, ◌∙◌, arith, true≢false}
use Rattle.std.specs.Prelude.{⊤, ◌||◌, cond, map, filter, All, AllPairs}
use Rattle.std.specs.List.{list_any}
use Rattle.std.specs.Str.{bytes_eq}
use Rattle.std.proofs.lemmas.List.Elements.{All-cons, All-nil, All-weaker}
use Rattle.std.proofs.lemmas.List.Kept.{AllPairs-cons}
use Rattle.std.proofs.lemmas.Slice.Eq.{bytes_eq-Decides}
use Rattle.rational.specs.Rational.{zero_ℚ}
use Rattle.rational.specs.Linear.{Term}
use Rattle.lp_model.specs.Program.{IsForm}

-- ---- names
-- no name stands twice
abbrev pub Apart : List (List ℕ) → Type 0
Apart [] = ⊤
Apart (x ∷ xs) = (list_any (bytes_eq x) xs ≡ false) × Apart xs

pub or-false : (a b : Bool) → a ≡ false → b ≡ false → (a || b) ≡ false
or-false true b e f = e
or-false false b e f = f

left-false : (a b : Bool) → (a || b) ≡ false → a ≡ false
left-false true b e = e
left-false false b e = refl

right-false : (a b : Bool) → (a || b) ≡ false → b ≡ false
right-false true b e = absurd (true≢false e)
right-false false b e = e

differ : (x y : List ℕ) → bytes_eq x y ≡ false → x ≢ y
differ x y e same = true≢false (sym ((bytes_eq-Decides x y).1 same) ∙ e)

flipped : (x y : List ℕ) → bytes_eq x y ≡ false → bytes_eq y x ≡ false
flipped x y e = by (bytes_eq y x) refl
  where
    by : (b : Bool) → bytes_eq y x ≡ b → bytes_eq y x ≡ false
    by true h = absurd (differ x y e (sym ((bytes_eq-Decides y x).0 h)))
    by false h = h

none-flipped : (y : List ℕ) (x : List ℕ) (xs : List (List ℕ)) → list_any (bytes_eq x) xs ≡ false → bytes_eq y x ≡ false → list_any (bytes_eq x) (xs ++ y ∷ []) ≡ false
none-flipped y x [] e f = or-false (bytes_eq x y) false (flipped y x f) refl
none-flipped y x (z ∷ xs) e f = or-false (bytes_eq x z) (list_any (bytes_eq x) (xs ++ y ∷ [])) (left-false (bytes_eq x z) (list_any (bytes_eq x) xs) e) (none-flipped y x xs (right-false (bytes_eq x z) (list_any (bytes_eq x) xs) e) f)

-- one name more that is new
pub apart-more : (xs : List (List ℕ)) (y : List ℕ) → Apart xs → list_any (bytes_eq y) xs ≡ false → Apart (xs ++ y ∷ [])
apart-more [] y a e = (refl, tt)
apart-more (x ∷ xs) y a e = (none-flipped y x xs a.0 (left-false (bytes_eq y x) (list_any (bytes_eq y) xs) e), apart-more xs y a.1 (right-false (bytes_eq y x) (list_any (bytes_eq y) xs) e))

module _ {X : Type 0} (name : X → List ℕ) where
  none-where : (b : Bool) (x : List ℕ) (y : X) (ys : List X) → bytes_eq x (name y) ≡ false → list_any (bytes_eq x) (map name ys) ≡ false → list_any (bytes_eq x) (map name (cond b (y ∷ ys) ys)) ≡ false
  none-where true x y ys e f = or-false (bytes_eq x (name y)) (list_any (bytes_eq x) (map name ys)) e f
  none-where false x y ys e f = f

  filter-none : (p : X → Bool) (x : List ℕ) (xs : List X) → list_any (bytes_eq x) (map name xs) ≡ false → list_any (bytes_eq x) (map name (filter p xs)) ≡ false
  filter-none p x [] e = refl
  filter-none p x (y ∷ xs) e =
      none-where (p y) x y (filter p xs) (left-false (bytes_eq x (name y)) (list_any (bytes_eq x) (map name xs)) e) (filter-none p x xs (right-false (bytes_eq x (name y)) (list_any (bytes_eq x) (map name xs)) e))

  apart-where : (b : Bool) (x : X) (ys : List X) → list_any (bytes_eq (name x)) (map name ys) ≡ false → Apart (map name ys) → Apart (map name (cond b (x ∷ ys) ys))
  apart-where true x ys e a = (e, a)
  apart-where false x ys e a = a

  -- some of the things
  pub apart-filter : (p : X → Bool) (xs : List X) → Apart (map name xs) → Apart (map name (filter p xs))
  apart-filter p [] a = tt
  apart-filter p (x ∷ xs) a = apart-where (p x) x (filter p xs) (filter-none p (name x) xs a.0) (apart-filter p xs a.1)

  all-differ : (x : X) (xs : List X) → list_any (bytes_eq (name x)) (map name xs) ≡ false → All (λ y. name x ≢ name y) xs
  all-differ x [] e = All-nil (λ y. name x ≢ name y)
  all-differ x (y ∷ xs) e = All-cons (λ z. name x ≢ name z) y xs (differ (name x) (name y) (left-false (bytes_eq (name x) (name y)) (list_any (bytes_eq (name x)) (map name xs)) e)) (all-differ x xs (right-false (bytes_eq (name x) (name y)) (list_any (bytes_eq (name x)) (map name xs)) e))

  -- no two of the things have one name
  pub pairs-apart : (xs : List X) → Apart (map name xs) → AllPairs (λ x y. name x ≢ name y) xs
  pairs-apart [] a = λ i j d less h. absurd (omega (arith, less, h))
  pairs-apart (x ∷ xs) a = AllPairs-cons (λ y z. name y ≢ name z) x xs (all-differ x xs a.0) (pairs-apart xs a.1)

-- ---- forms
-- terms from column j on and below n, none with factor 0
abbrev pub Ascends : ℕ → ℕ → List Term → Type 0
Ascends n j [] = ⊤
Ascends n j (t ∷ ts) = (j ≤ t.column) × ((t.column < n) × ((t.factor ≢ zero_ℚ) × Ascends n (t.column + 1) ts))

pub from-lower : (n i j : ℕ) (ts : List Term) → i ≤ j → Ascends n j ts → Ascends n i ts
from-lower n i j [] l a = tt
from-lower n i j (t ∷ ts) l a = (let h = a.0 in omega (arith, l, h), a.1)

all-from : (n j : ℕ) (ts : List Term) → Ascends n j ts → All (λ t. j ≤ t.column) ts
all-from n j [] a = All-nil (λ t. j ≤ t.column)
all-from n j (t ∷ ts) a = All-cons (λ s. j ≤ s.column) t ts a.0 (All-weaker (λ (s : Term). t.column + 1 ≤ s.column) (λ (s : Term). j ≤ s.column) (λ s l. let h = a.0 in omega (arith, l, h)) ts (all-from n (t.column + 1) ts a.1.1.1))

-- they are a form
pub ascends-form : (n j : ℕ) (ts : List Term) → Ascends n j ts → IsForm n ts
ascends-form n j [] a = record { ascending = λ i k d less h. absurd (omega (arith, less, h)); known = All-nil (λ t. t.column < n); nonzero = All-nil (λ t. t.factor ≢ zero_ℚ) }
ascends-form n j (t ∷ ts) a =
    let rest = ascends-form n (t.column + 1) ts a.1.1.1 in
    record {
      ascending = AllPairs-cons (λ (r s : Term). r.column < s.column) t ts (All-weaker (λ (s : Term). t.column + 1 ≤ s.column) (λ (s : Term). t.column < s.column) (λ s l. omega (arith, l)) ts (all-from n (t.column + 1) ts a.1.1.1)) rest.ascending;
      known = All-cons (λ s. s.column < n) t ts a.1.0 rest.known;
      nonzero = All-cons (λ s. s.factor ≢ zero_ℚ) t ts a.1.1.0 rest.nonzero;
    }
