-- Where a name stands among names that differ, and what was found.
use Rattle.std.proofs.Common.{◌≡◌, ◌≢◌, refl, sym, ap, subst, ◌∙◌, ℕ, zero, suc, ◌<◌, ◌≤◌, Bool, true, false, true≢false, cond, ltb, List, [], ◌∷◌, length, get_or, Option, Some, None, arith, position, ◌⊎◌, inl, inr}
use Rattle.std.specs.Prelude.{map, find, option_map, AllPairs}
use Rattle.std.specs.List.{position_or_len}
use Rattle.std.specs.Str.{bytes_eq}
use Rattle.std.proofs.lemmas.Bool.{ltb-true, ltb-false}
use Rattle.std.proofs.lemmas.Option.{same_Some}
use Rattle.std.proofs.lemmas.List.{get_or-map, length-map}
use Rattle.std.proofs.lemmas.List.Sums.{fails_before_first, passes_at_first}
use Rattle.std.proofs.lemmas.Slice.Eq.{bytes_eq-Decides}
use Rattle.phrase_reader.specs.Words.{Finds}

-- what a condition told
pub told_if : {X : Type 0} (t : Bool) (o : Option X) (x : X) → cond t o None ≡ Some x → (t ≡ true) × (o ≡ Some x)
told_if true o x e = (refl, e)
told_if false o x e = absurd (let s : None ≡ Some x = e in cc)

pub told : {X Y : Type 0} (f : X → Y) (o : Option X) (y : Y) → option_map f o ≡ Some y → (x : X) × ((o ≡ Some x) × (f x ≡ y))
told f None y e = absurd (let s : None ≡ Some y = e in cc)
told f (Some x) y e = (x, (refl, (let s : Some (f x) ≡ Some y = e in cc)))

-- what finds the elements of an option gives it
pub found_is : {X : Type 0} (Is : X → Type 0) (r s : Option X) → Finds Is r → ((x : X) → s ≡ Some x → Is x) → ((x : X) → Is x → s ≡ Some x) → r ≡ s
found_is Is None None h said own = refl
found_is Is None (Some y) h said own = h.all y (said y refl)
found_is Is (Some x) s h said own = sym (own x h.found)

-- a test of a word, and what is said where it holds
pub split_if : {X : Type 0} (P : Type 0) (word text : List ℕ) (then other : Option X) (x : X) → cond (bytes_eq word text) then other ≡ Some x → (word ≡ text → then ≡ Some x → P) → (other ≡ Some x → P) → P
split_if P word text then other x e held failed = by (bytes_eq word text) refl e
  where
    by : (b : Bool) → bytes_eq word text ≡ b → cond b then other ≡ Some x → P
    by true t g = held ((bytes_eq-Decides word text).0 t) g
    by false f g = failed g

-- what is found passes
pub found_passes : {K : Type 0} (test : K → Bool) (ks : List K) (k : K) → find test ks ≡ Some k → test k ≡ true
found_passes {K = K} test [] k e = absurd (let s : None ≡ Some k = e in cc)
found_passes {K = K} test (l ∷ ks) k e = by (test l) refl (found_passes test ks k) e
  where
    by : (b : Bool) → test l ≡ b → (find test ks ≡ Some k → test k ≡ true) → cond b (Some l) (find test ks) ≡ Some k → test k ≡ true
    by true t rest f = subst (λ (m : K). test m ≡ true) (same_Some l k f) t
    by false t rest f = rest f

-- and is one of those that there are
abbrev Each : {K : Type 0} → (K → Type 0) → List K → Type 0
Each P [] = Unit {0}
Each P (k ∷ ks) = P k × Each P ks

pub found_of : {K : Type 0} (P : K → Type 0) (test : K → Bool) (ks : List K) (k : K) → Each P ks → find test ks ≡ Some k → P k
found_of {K = K} P test [] k each e = absurd (let s : None ≡ Some k = e in cc)
found_of {K = K} P test (l ∷ ks) k each e = by (test l) (found_of P test ks k each.1) e
  where
    by : (b : Bool) → (find test ks ≡ Some k → P k) → cond b (Some l) (find test ks) ≡ Some k → P k
    by true rest f = subst P (same_Some l k f) each.0
    by false rest f = rest f

-- what is found by its text is spelled so
pub found_spelled : {K : Type 0} (text : K → List ℕ) (ks : List K) (word : List ℕ) (k : K) → find (λ l. bytes_eq word (text l)) ks ≡ Some k → word ≡ text k
found_spelled text ks word k e = (bytes_eq-Decides word (text k)).0 (found_passes (λ l. bytes_eq word (text l)) ks k e)

module _ {X : Type 0} (called : X → List ℕ) (items : List X) (past : X) where
  names : List (List ℕ)
  names = map called items

  first : List ℕ → ℕ
  first name = position_or_len (bytes_eq name) names

  -- what stands at the first place has the name
  at_first : (name : List ℕ) → first name < length names → (first name < length items) × (name ≡ called (get_or items (first name) past))
  unfolding names first
  at_first name l =
      let long : length (map called items) ≡ length items = length-map items called in
      let within : first name < length items = omega arith in
      (within, (bytes_eq-Decides name (get_or (map called items) (first name) [])).0 (passes_at_first (bytes_eq name) (map called items) [] l) ∙ get_or-map called items (first name) past [] within)

  pub place_told : (name : List ℕ) (i : ℕ) → position (bytes_eq name) (map called items) ≡ Some i → (i < length items) × (name ≡ called (get_or items i past))
  unfolding names first
  place_told name i e = by (ltb (first name) (length names)) refl e
    where
      by : (b : Bool) → ltb (first name) (length names) ≡ b → cond b (Some (first name)) None ≡ Some i → (i < length items) × (name ≡ called (get_or items i past))
      by true h k = subst (λ (n : ℕ). (n < length items) × (name ≡ called (get_or items n past))) (same_Some (first name) i k) (at_first name (ltb-true (first name) (length names) h))
      by false h k = absurd (let s : None ≡ Some i = k in cc)

  -- names that differ stand at one place
  pub one_place : AllPairs (λ x y. called x ≢ called y) items → (i j : ℕ) → i < length items → j < length items → called (get_or items i past) ≡ called (get_or items j past) → i ≡ j
  one_place apart i j l k e = elim (cases i j) [
    | inl h ↦ absurd (apart i j past h k e)
    | inr h ↦ elim h [
      | inl g ↦ absurd (apart j i past g l (sym e))
      | inr g ↦ g
    ]
  ]
    where
      cases : (i j : ℕ) → (i < j) ⊎ ((j < i) ⊎ (i ≡ j))
      cases zero zero = inr (inr refl)
      cases zero (suc j) = inl (omega arith)
      cases (suc i) zero = inr (inl (omega arith))
      cases (suc i) (suc j) = elim (cases i j) [
        | inl h ↦ inl (omega arith)
        | inr h ↦ elim h [ inl g ↦ inr (inl (omega arith)) | inr g ↦ inr (inr (ap suc g)) ]
      ]

  pub place_is : AllPairs (λ x y. called x ≢ called y) items → (name : List ℕ) (i : ℕ) → i < length items → name ≡ called (get_or items i past) → position (bytes_eq name) (map called items) ≡ Some i
  unfolding names first
  place_is apart name i l e = by (ltb (first name) (length names)) refl
    where
      long : length (map called items) ≡ length items
      long = length-map items called

      by : (b : Bool) → ltb (first name) (length names) ≡ b → cond b (Some (first name)) None ≡ Some i
      by true h =
          let t = at_first name (ltb-true (first name) (length names) h) in
          ap Some (one_place apart (first name) i t.0 l (sym t.1 ∙ e))
      by false h =
          let p : length names ≤ first name = ltb-false (first name) (length names) h in
          let q = long in
          let fails : bytes_eq name (get_or (map called items) i []) ≡ false = fails_before_first (bytes_eq name) (map called items) i [] (omega arith) in
          let same : bytes_eq name (get_or (map called items) i []) ≡ true = (bytes_eq-Decides name (get_or (map called items) i [])).1 (e ∙ sym (get_or-map called items i past [] l)) in
          absurd (true≢false (sym same ∙ fails))
