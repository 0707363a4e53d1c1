-- Loops over lists: the first wide operation of what is left, and elements that are changed one after another.
use Rattle.std.proofs.Common.{◌≡◌, ◌+◌, ◌<◌, ◌≤◌, refl, sym, ◌∙◌, ap, subst, ℕ, zero, suc, List, [], ◌∷◌, ◌++◌, length, get_or, set, take, drop, map, Some, None, Option, arith}
use Rattle.std.specs.Prelude.{All, flat_map, slice_index}
use Rattle.std.proofs.lemmas.List.Elements.{All-push}
use Rattle.std.proofs.lemmas.List.{at_drop_more, at_drop_all, drop_all, drop_more, take_more_set, drop-set-lt, map-append, map_more}
use Rattle.frac128.specs.declared.Wide.{Wide as Operation}
use Rattle.frac128.specs.Calculation.{Calculation, first_wide}
use Rattle.frac128.proofs.Calculations.{first_wide-nil, first_wide-past, first_wide-before}
use Rattle.rational.specs.Rational.{ℚ, ◌+ℚ◌, ◌*ℚ◌}
use Rattle.rational.specs.Linear.{Term, factor_of}
use Rattle.frac128.specs.declared.Op.TheVariants.{Plus, Minus, Times}
use Rattle.certs.specs.Turns.{counted, sum_operations}
use Rattle.dictionary.specs.Rows.{reductions}
use Rattle.dictionary.proofs.Lists.{Rises, greater}
use Rattle.dictionary.proofs.Merges.{reductions-behind}

-- a function of what is left, at an element that was read
pub at_item : {X Y : Type 0} (F : List X → Y) (xs : List X) (i : ℕ) (x : X) → i < length xs → x ≡ get_or xs i x → F (drop i xs) ≡ F (x ∷ drop (i + 1) xs)
at_item F xs i x l is = at_drop_more F xs i x l ∙ ap (λ e. F (e ∷ drop (i + 1) xs)) (sym is)

-- ---- operations of each element
module _ {X Y : Type 0} (m : ℕ) (view : X → Y) (F : Y → Calculation) where
  -- of those from a place on
  abbrev pub first_from : ℕ → List X → Option Operation
  first_from i xs = first_wide m (flat_map F (map view (drop i xs)))

  module _ (xs : List X) (i : ℕ) (d : X) (l : i < length xs) where
    spread : first_from i xs ≡ first_wide m (F (view (get_or xs i d)) ++ flat_map F (map view (drop (i + 1) xs)))
    spread = at_drop_more (λ zs. first_wide m (flat_map F (map view zs))) xs i d l

    pub first-wide : (w : Operation) → first_wide m (F (view (get_or xs i d))) ≡ Some w → first_from i xs ≡ Some w
    first-wide w e = spread ∙ first_wide-before m (F (view (get_or xs i d))) _ w e

    pub first-next : first_wide m (F (view (get_or xs i d))) ≡ None → first_from i xs ≡ first_from (i + 1) xs
    first-next e = spread ∙ first_wide-past m (F (view (get_or xs i d))) _ e

  pub first-end : (xs : List X) (i : ℕ) → length xs ≤ i → first_from i xs ≡ None
  first-end xs i l = at_drop_all (λ zs. first_wide m (flat_map F (map view zs))) xs i l ∙ first_wide-nil m

-- ---- elements changed in place
module _ {X : Type 0} (old now : List X) (i : ℕ) (back : drop i now ≡ drop i old) (d : X) (l : i < length old) (k : i < length now) where
  headed : get_or now i d ∷ drop (i + 1) now ≡ get_or old i d ∷ drop (i + 1) old
  headed = sym (drop_more now i d k) ∙ back ∙ drop_more old i d l

  pub left_item : get_or now i d ≡ get_or old i d
  left_item = let e = headed in cc

  pub left_rest : drop (i + 1) now ≡ drop (i + 1) old
  left_rest = let e = headed in cc

module _ {X Y : Type 0} (view : X → Y) (D : Y → Y) (old now : List X) (i : ℕ) (front : map view (take i now) ≡ map D (map view (take i old))) (back : drop i now ≡ drop i old) where
  module _ (d : X) (l : i < length old) (k : i < length now) where
    pub same_here : get_or now i d ≡ get_or old i d
    same_here = left_item old now i back d l k

    pub changed-back : (y : X) → drop (i + 1) (set now i y) ≡ drop (i + 1) old
    changed-back y = drop-set-lt (i + 1) now i y (omega arith) ∙ left_rest old now i back d l k

    pub changed-front : (y : X) → view y ≡ D (view (get_or now i d)) → map view (take (i + 1) (set now i y)) ≡ map D (map view (take (i + 1) old))
    changed-front y e =
        ap (map view) (take_more_set now i y k)
        ∙ map-append view (take i now) (y ∷ [])
        ∙ ap (λ z. z ++ view y ∷ []) front
        ∙ ap (λ z. map D (map view (take i old)) ++ z ∷ []) (e ∙ ap (λ z. D (view z)) same_here)
        ∙ sym (map-append D (map view (take i old)) (view (get_or old i d) ∷ []))
        ∙ ap (map D) (sym (map_more view old i d l))

-- an element put where one with the same image stood
pub map_same : {X Y : Type 0} (f : X → Y) (xs : List X) (k : ℕ) (y d : X) → f y ≡ f (get_or xs k d) → map f (set xs k y) ≡ map f xs
map_same f [] k y d e = refl
map_same f (x ∷ xs) zero y d e = ap (λ z. z ∷ map f xs) e
map_same f (x ∷ xs) (suc k) y d e = ap (λ zs. f x ∷ zs) (map_same f xs k y d e)

-- what holds of each element passed holds of one more
pub passed-more : {X : Type 0} (P : X → Type 0) (xs : List X) (i : ℕ) (y : X) → i < length xs → All P (take i xs) → P y → All P (take (i + 1) (set xs i y))
passed-more P xs i y l h p = subst (All P) (sym (take_more_set xs i y l)) (All-push P (take i xs) y h p)

-- ---- a row that is reduced
module _ (m : ℕ) (a : ℚ) (rest : List Term) (q : Term) (qs : List Term) where
  abbrev A : Calculation
  A = counted Times a q.factor

  abbrev B : Calculation
  B = counted Minus (factor_of rest q.column) (a *ℚ q.factor)

  pub reduce-times_wide : (w : Operation) → first_wide m A ≡ Some w → first_wide m (reductions a rest (q ∷ qs)) ≡ Some w
  reduce-times_wide w e = first_wide-before m (A ++ B) (reductions a rest qs) w (first_wide-before m A B w e)

  pub reduce-minus_wide : first_wide m A ≡ None → (w : Operation) → first_wide m B ≡ Some w → first_wide m (reductions a rest (q ∷ qs)) ≡ Some w
  reduce-minus_wide e w d = first_wide-before m (A ++ B) (reductions a rest qs) w (first_wide-past m A B e ∙ d)

  pub reduce-next : first_wide m A ≡ None → first_wide m B ≡ None → Rises (suc q.column) qs → first_wide m (reductions a rest (q ∷ qs)) ≡ first_wide m (reductions a (greater q.column rest) qs)
  reduce-next e d h = first_wide-past m (A ++ B) (reductions a rest qs) (first_wide-past m A B e ∙ d) ∙ ap (first_wide m) (sym (reductions-behind a q.column (suc q.column) rest qs (omega arith) h))

-- ---- sums of products
module _ (m : ℕ) (f p : ℕ → ℚ) (s : ℚ) where
  module _ (list : List ℕ) (i : ℕ) (h : i < length list) where
    abbrev k : ℕ
    k = slice_index list i

    spread_sum : first_wide m (sum_operations f p s (drop i list)) ≡ first_wide m (counted Times (f k) (p k) ++ (counted Plus s (f k *ℚ p k) ++ sum_operations f p (s +ℚ f k *ℚ p k) (drop (i + 1) list)))
    spread_sum = at_drop_more (λ l. first_wide m (sum_operations f p s l)) list i 0 h

    pub sum-product_wide : (w : Operation) → first_wide m (counted Times (f k) (p k)) ≡ Some w → first_wide m (sum_operations f p s (drop i list)) ≡ Some w
    sum-product_wide w e = spread_sum ∙ first_wide-before m (counted Times (f k) (p k)) _ w e

    pub sum-wide : first_wide m (counted Times (f k) (p k)) ≡ None → (w : Operation) → first_wide m (counted Plus s (f k *ℚ p k)) ≡ Some w → first_wide m (sum_operations f p s (drop i list)) ≡ Some w
    sum-wide e w d = spread_sum ∙ first_wide-past m (counted Times (f k) (p k)) _ e ∙ first_wide-before m (counted Plus s (f k *ℚ p k)) _ w d

    pub sum-next : first_wide m (counted Times (f k) (p k)) ≡ None → first_wide m (counted Plus s (f k *ℚ p k)) ≡ None → (s' : ℚ) → s' ≡ s +ℚ f k *ℚ p k → first_wide m (sum_operations f p s (drop i list)) ≡ first_wide m (sum_operations f p s' (drop (i + 1) list))
    sum-next e d s' q =
        spread_sum ∙ first_wide-past m (counted Times (f k) (p k)) _ e ∙ first_wide-past m (counted Plus s (f k *ℚ p k)) _ d
        ∙ ap (λ z. first_wide m (sum_operations f p z (drop (i + 1) list))) (sym q)

  pub sum-end : (list : List ℕ) (i : ℕ) → length list ≤ i → first_wide m (sum_operations f p s (drop i list)) ≡ None
  sum-end list i h = ap (λ l. first_wide m (sum_operations f p s l)) (drop_all i list h) ∙ first_wide-nil m
