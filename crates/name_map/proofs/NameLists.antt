-- Lists of names that differ: where a name stands, and what one more name gives.
use Rattle.std.proofs.Common.{◌≡◌, ◌≢◌, zero, suc, eq-eqb, ℕ, ◌+◌, ◌<◌, ◌≤◌, Bool, true, false, cond, ltb, eqb, not, ◌||◌, List, [], ◌∷◌, ◌++◌, Option, Some, None, MatchOption, is_some, length, map, get_or, refl, sym, ap, ◌∙◌, subst, arith, position, true≢false}
use Rattle.std.specs.List.{position_or_len, prefix_len, list_any, All, AllByRecursion, IsDistinct}
use Rattle.std.proofs.lemmas.List.Sums.{fails_before_first, passes_at_first}
use Rattle.std.proofs.lemmas.List.Folds.{list_any_none, list_any-from_Any, list_any_at}
use Rattle.std.proofs.lemmas.List.Elements.{All-head, All-tail, Contains-get_or}
use Rattle.std.proofs.lemmas.Map.Keys.{apart_from_distinct}
use Rattle.std.proofs.lemmas.Bool.{ltb-true, ltb-false}
use Rattle.std.proofs.lemmas.Bool.Decides.{nat_tests}
use Rattle.std.specs.Str.{bytes_eq}
use Rattle.std.proofs.lemmas.Slice.Eq.{bytes_eq-Decides}
use Rattle.indexmap.specs.IndexMap.{insert_entry, set_value_at}
use Rattle.name_map.specs.Names.{StandsAt, name_at}

pub length_map : {X Y : Type 0} (f : X → Y) (xs : List X) → length (map f xs) ≡ length xs
length_map f [] = refl
length_map f (x ∷ xs) = ap suc (length_map f xs)

pub map_push : {X Y : Type 0} (f : X → Y) (xs : List X) (x : X) → map f (xs ++ x ∷ []) ≡ map f xs ++ f x ∷ []
map_push f [] x = refl
map_push f (y ∷ xs) x = ap (λ l. f y ∷ l) (map_push f xs x)

-- two functions that agree wherever P holds
pub map_agree : {X Y : Type 0} (f g : X → Y) (P : X → Type 0) → ((x : X) → P x → f x ≡ g x) → (xs : List X) → All P xs → map f xs ≡ map g xs
map_agree f g P same [] h = refl
map_agree f g P same (x ∷ xs) h =
    ap (λ y. y ∷ map f xs) (same x (All-head P x xs h)) ∙ ap (λ l. g x ∷ l) (map_agree f g P same xs (All-tail P x xs h))

pub any_map : {X Y : Type 0} (p : Y → Bool) (f : X → Y) (xs : List X) → list_any p (map f xs) ≡ list_any (λ x. p (f x)) xs
any_map p f [] = refl
any_map p f (x ∷ xs) = ap (λ b. p (f x) || b) (any_map p f xs)

pub any_agree : {X : Type 0} (p q : X → Bool) (P : X → Type 0) → ((x : X) → P x → p x ≡ q x) → (xs : List X) → All P xs → list_any p xs ≡ list_any q xs
any_agree p q P same [] h = refl
any_agree p q P same (x ∷ xs) h =
    ap (λ b. b || list_any p xs) (same x (All-head P x xs h)) ∙ ap (λ b. q x || b) (any_agree p q P same xs (All-tail P x xs h))

prefix_map : {X Y : Type 0} (p : Y → Bool) (f : X → Y) (xs : List X) → prefix_len p (map f xs) ≡ prefix_len (λ x. p (f x)) xs
prefix_map p f [] = refl
prefix_map p f (x ∷ xs) = ap (λ n. cond (p (f x)) (1 + n) 0) (prefix_map p f xs)

pub position_map : {X Y : Type 0} (p : Y → Bool) (f : X → Y) (xs : List X) → position p (map f xs) ≡ position (λ x. p (f x)) xs
position_map p f xs =
    ap (λ n. cond (ltb n (length (map f xs))) (Some n) None) (prefix_map (λ y. not (p y)) f xs)
    ∙ ap (λ n. cond (ltb (position_or_len (λ x. p (f x)) xs) n) (Some (position_or_len (λ x. p (f x)) xs)) None) (length_map f xs)

-- keys that differ, seen another way
module _ {E K N : Type 0} (key : E → K) (show : E → N) where
  all_moves : (P : K → Type 0) (Q : N → Type 0) → ((e : E) → P (key e) → Q (show e)) → (es : List E) → AllByRecursion P (map key es) → AllByRecursion Q (map show es)
  all_moves P Q moves [] h = tt
  all_moves P Q moves (e ∷ es) h = (moves e h.0, all_moves P Q moves es h.1)

  pub distinct_moves : (eqK : K → K → Bool) (eqN : N → N → Bool) → ((a b : E) → eqK (key a) (key b) ≡ eqN (show a) (show b)) → (es : List E) → IsDistinct eqK (map key es) → IsDistinct eqN (map show es)
  unfolding IsDistinct
  distinct_moves eqK eqN same [] h = tt
  distinct_moves eqK eqN same (e ∷ es) h =
      (all_moves (λ k. eqK (key e) k ≡ false) (λ n. eqN (show e) n ≡ false) (λ b q. sym (same e b) ∙ q) es h.0, distinct_moves eqK eqN same es h.1)

-- a new key goes last
pub insert_new : {K V : Type 0} (eq : K → K → Bool) (es : List (K × V)) (k : K) (v : V) → list_any (λ e. eq k e.0) es ≡ false → insert_entry eq es k v ≡ es ++ (k, v) ∷ []
insert_new eq [] k v h = refl
insert_new eq (e ∷ es) k v h = by (eq k e.0) refl (λ h. insert_new eq es k v h)
  where
    by : (b : Bool) → eq k e.0 ≡ b → (list_any (λ e. eq k e.0) es ≡ false → insert_entry eq es k v ≡ es ++ (k, v) ∷ []) → insert_entry eq (e ∷ es) k v ≡ e ∷ (es ++ (k, v) ∷ [])
    by true q rest = absurd (true≢false (ap (λ b. b || list_any (λ d. eq k d.0) es) (sym q) ∙ h))
    by false q rest =
        ap (λ b. cond b ((e.0, v) ∷ es) (e ∷ insert_entry eq es k v)) q
        ∙ ap (λ l. e ∷ l) (rest (sym (ap (λ b. b || list_any (λ d. eq k d.0) es) q) ∙ h))

unlike : (i k : ℕ) → i ≢ k → eqb i k ≡ false
unlike i k h = grind (arith, nat_tests)

-- the place of a name among names that differ
module _ (name : List ℕ) (names : List (List ℕ)) (apart : IsDistinct bytes_eq names) (i : ℕ) (first : i ≡ position_or_len (bytes_eq name) names) (within : i < length names) where
  found : bytes_eq name (get_or names i []) ≡ true
  found = subst (λ (n : ℕ). bytes_eq name (get_or names n []) ≡ true) (sym first) (passes_at_first (bytes_eq name) names [] (subst (λ (n : ℕ). n < length names) first within))

  is_name : name ≡ get_or names i []
  is_name = (bytes_eq-Decides name (get_or names i [])).0 found

  alone : (k : ℕ) → k < length names → bytes_eq name (name_at names k) ≡ eqb i k
  alone k h = by (ltb k i) (ltb i k) refl refl
    where
      by : (less more : Bool) → ltb k i ≡ less → ltb i k ≡ more → bytes_eq name (name_at names k) ≡ eqb i k
      by true more p q =
          let lt : k < i = ltb-true k i p in
          fails_before_first (bytes_eq name) names k [] (subst (λ (n : ℕ). k < n) first lt) ∙ sym (unlike i k (omega arith))
      by false true p q =
          let lt : i < k = ltb-true i k q in
          ap (λ n. bytes_eq n (name_at names k)) is_name ∙ apart_from_distinct bytes_eq names i k [] apart lt h ∙ sym (unlike i k (omega arith))
      by false false p q =
          let le : i ≤ k = ltb-false k i p in
          let ge : k ≤ i = ltb-false i k q in
          let e : i ≡ k = omega arith in
          subst (λ (n : ℕ). bytes_eq name (name_at names n) ≡ eqb i n) e (found ∙ sym (eq-eqb i i refl))

  pub stands : StandsAt names name i
  stands =
      let c = Contains-get_or names i [] within in
      record {
        within = within;
        named = sym is_name;
        alone = alone;
        among = list_any-from_Any (bytes_eq name) names (c.0, get_or names i [], c.1, c.2, found);
      }

pub place_is : (name : List ℕ) (names : List (List ℕ)) → IsDistinct bytes_eq names → MatchOption (position (bytes_eq name) names) (list_any (bytes_eq name) names ≡ false) (StandsAt names name)
place_is name names apart = by (ltb (position_or_len (bytes_eq name) names) (length names)) refl
  where
    Places : Option ℕ → Type 0
    Places r = MatchOption r (list_any (bytes_eq name) names ≡ false) (StandsAt names name)

    by : (b : Bool) → ltb (position_or_len (bytes_eq name) names) (length names) ≡ b → Places (cond b (Some (position_or_len (bytes_eq name) names)) None)
    by true e = stands name names apart _ refl (ltb-true _ _ e)
    by false e = let h : length names ≤ position_or_len (bytes_eq name) names = ltb-false _ _ e in list_any_none (bytes_eq name) names (λ k d lt. fails_before_first (bytes_eq name) names k d (omega arith))

-- the same, of the entries of a map by names
pub place_among : {K V : Type 0} (items : K → List ℕ) (es : List (K × V)) (name : List ℕ) → IsDistinct (λ a b. bytes_eq (items a) (items b)) (map (λ e. e.0) es) → MatchOption (position (λ k. bytes_eq name (items k)) (map (λ e. e.0) es)) (list_any (bytes_eq name) (map (λ e. items e.0) es) ≡ false) (StandsAt (map (λ e. items e.0) es) name)
place_among {K} {V} items es name apart =
    let show : K × V → List ℕ = λ e. items e.0 in
    let same = position_map (bytes_eq name) show es ∙ sym (position_map (λ k. bytes_eq name (items k)) (λ (e : K × V). e.0) es) in
    subst (λ r. MatchOption r (list_any (bytes_eq name) (map show es) ≡ false) (StandsAt (map show es) name)) same
    (place_is name (map show es) (distinct_moves (λ e. e.0) show (λ a b. bytes_eq (items a) (items b)) bytes_eq (λ a b. refl) es apart))

-- what a function of the entries gives after a new name
pub added : {K V W : Type 0} (items : K → List ℕ) (f : K × V → W) (es : List (K × V)) (k : K) (v : V) → list_any (bytes_eq (items k)) (map (λ e. items e.0) es) ≡ false → map f (insert_entry (λ a b. bytes_eq (items a) (items b)) es k v) ≡ map f es ++ f (k, v) ∷ []
added {K} {V} items f es k v h =
    ap (map f) (insert_new (λ a b. bytes_eq (items a) (items b)) es k v (sym (any_map (bytes_eq (items k)) (λ (e : K × V). items e.0) es) ∙ h)) ∙ map_push f es (k, v)

-- the names and the values of entries that are shown by name
pub names_shown : {K V : Type 0} (items : K → List ℕ) (es : List (K × V)) → map (λ (e : List ℕ × V). e.0) (map (λ e. (items e.0, e.1)) es) ≡ map (λ e. items e.0) es
names_shown items [] = refl
names_shown items (e ∷ es) = ap (λ l. items e.0 ∷ l) (names_shown items es)

pub values_shown : {K V : Type 0} (items : K → List ℕ) (es : List (K × V)) → map (λ (e : List ℕ × V). e.1) (map (λ e. (items e.0, e.1)) es) ≡ map (λ e. e.1) es
values_shown items [] = refl
values_shown items (e ∷ es) = ap (λ l. e.1 ∷ l) (values_shown items es)

-- a position is found exactly where a test of any element passes
pub position_any : (name : List ℕ) (names : List (List ℕ)) → is_some (position (bytes_eq name) names) ≡ list_any (bytes_eq name) names
position_any name names = by (ltb (position_or_len (bytes_eq name) names) (length names)) refl
  where
    by : (b : Bool) → ltb (position_or_len (bytes_eq name) names) (length names) ≡ b → is_some (cond b (Some (position_or_len (bytes_eq name) names)) None) ≡ list_any (bytes_eq name) names
    by true e =
        let h : position_or_len (bytes_eq name) names < length names = ltb-true _ _ e in
        sym (list_any_at (bytes_eq name) names (position_or_len (bytes_eq name) names) [] h (passes_at_first (bytes_eq name) names [] h))
    by false e =
        let h : length names ≤ position_or_len (bytes_eq name) names = ltb-false _ _ e in
        sym (list_any_none (bytes_eq name) names (λ k d lt. fails_before_first (bytes_eq name) names k d (omega arith)))

-- another value at an index shows as one
pub value_shown : {K V : Type 0} (f : K → List ℕ) (es : List (K × V)) (i : ℕ) (v : V) → map (λ (e : K × V). (f e.0, e.1)) (set_value_at es i v) ≡ set_value_at (map (λ (e : K × V). (f e.0, e.1)) es) i v
value_shown f [] i v = refl
value_shown f (e ∷ es) zero v = refl
value_shown f (e ∷ es) (suc i) v = ap (λ rest. (f e.0, e.1) ∷ rest) (value_shown f es i v)
