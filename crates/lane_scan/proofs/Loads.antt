-- From the mask of one load to the first byte of a kind.
use Rattle.std.proofs.Common.{◌≡◌, ℕ, ◌+◌, ◌-◌, ◌%◌, ◌^◌, ◌<◌, ◌≤◌, Bool, true, false, not, cond, eqb, List, [], ◌∷◌, map, length, get_or, replicate, drop, Fits, w8, refl, sym, ap, ap₂, ◌∙◌, arith, inl, inr, get_or-drop, get_or-take}
use Rattle.std.proofs.lemmas.Bool.{agree_below, agree_below_at, cases_eq, eq-eqb, ne_eqb, cond-true, cond-false}
use Rattle.std.proofs.lemmas.Simd.{map-map, mask_l-mod, length-chunk, chunk-fits, leading_from_mask_l, trailing_mask_l}
use Rattle.std.proofs.lemmas.List.{length-map}
use Rattle.std.proofs.lemmas.List.Sums.{position_or_len_is, prefix_len-le-length, fails_before_first, passes_at_first}
use Rattle.std.specs.List.{slice_range, position_or_len}
use lib.Lanes.{Each1, chunk, zip2, mask_l, top}
use Rattle.lane_scan.specs.Lanes.{IsFirst, lowest_or}
use Rattle.lane_scan.proofs.Firsts.{length-range}

zip2-map : (h : ℕ → ℕ → ℕ) (f g : ℕ → ℕ) (xs : List ℕ) → zip2 h (map f xs) (map g xs) ≡ map (λ x. h (f x) (g x)) xs
zip2-map h f g [] = refl
zip2-map h f g (x ∷ xs) = ap (λ r. h (f x) (g x) ∷ r) (zip2-map h f g xs)

-- an operation on two vectors that were computed lane by lane from v
pub joined : (h : ℕ → ℕ → ℕ) (f g : ℕ → ℕ) (v : List ℕ) {a b : List ℕ} → a ≡ map f v → b ≡ map g v → zip2 h a b ≡ map (λ x. h (f x) (g x)) v
joined h f g v p q = ap₂ (zip2 h) p q ∙ zip2-map h f g v

pub splat_is : (v : List ℕ) (n y : ℕ) → length v ≡ n → replicate n y ≡ map (λ _. y) v
splat_is [] n y e = ap (λ k. replicate k y) (sym e)
splat_is (x ∷ xs) n y e = ap (λ k. replicate k y) (sym e) ∙ ap (λ r. y ∷ r) (splat_is xs (length xs) y refl)

pub itself : (v : List ℕ) → v ≡ map (λ x. x) v
itself [] = refl
itself (x ∷ xs) = ap (λ r. x ∷ r) (itself xs)

-- the lowest bit of the mask of a test is the first that passes it
lowest_is : (p : ℕ → Bool) (v : List ℕ) (n : ℕ) → length v ≡ n → n ≤ 64 → lowest_or n (mask_l (map p v)) ≡ position_or_len p v
lowest_is p v n long few =
    elim (cases_eq (mask_l (map p v)) 0) [
      | inl none ↦ cond-true _ _ _ (eq-eqb _ _ none) ∙ sym (leading_from_mask_l p v none ∙ long)
      | inr some ↦ cond-false _ _ _ (ne_eqb _ _ some) ∙ trailing_mask_l p 64 v (omega arith) (omega arith)
    ]

-- two tests that agree on bytes have the same first place among bytes
position-same : (p q : ℕ → Bool) → ((x : ℕ) → x < 256 → p x ≡ q x) → (v : List ℕ) → Each1 (Fits w8) v → position_or_len p v ≡ position_or_len q v
position-same p q h [] f = refl
position-same p q h (x ∷ xs) f =
    ap₂ (λ (b : Bool) (n : ℕ). cond (not b) (1 + n) 0) (h x f.0.fits) (position-same p q h xs f.1)

-- a load has no more lanes than a mask has bits
pub few_lanes : 16 ≤ 64
few_lanes = omega arith

module _ (kind : ℕ → Bool) (bytes : List ℕ) (at n r : ℕ) (z : List ℕ) (room : at + n ≤ length bytes) (few : n ≤ 64)
    (fits : (k : ℕ) → Fits w8 (get_or bytes k 0)) (found : r ≡ lowest_or n (mask_l (map (top 7) z) % 2 ^ 64))
    (f : ℕ → ℕ) (lanes : z ≡ map f (chunk at n bytes)) where
  abbrev tops : ℕ → Bool
  tops x = top 7 (f x)

  -- a lane's top bit is set just where its byte is of the kind
  pub first_in_load : ((x : ℕ) → x < 256 → tops x ≡ kind x) → r ≡ position_or_len kind (chunk at n bytes)
  first_in_load same =
      let v = chunk at n bytes in
      let long : length v ≡ n = length-chunk at n bytes room in
      let mask = ap (λ l. mask_l l % 2 ^ 64) (ap (map (top 7)) lanes ∙ map-map (top 7) f v) ∙ mask_l-mod (map tops v) 64 (omega (arith, length-map v tops, long)) in
      found ∙ ap (lowest_or n) mask ∙ lowest_is tops v n long few ∙ position-same tops kind same v (chunk-fits w8 at n bytes fits)

  -- the same, where computing tells it of each byte
  pub first_by_table : agree_below tops kind 256 ≡ true → r ≡ position_or_len kind (chunk at n bytes)
  first_by_table all = first_in_load (λ x l. agree_below_at tops kind 256 x all l)

-- the lanes that are equal to a byte
pub equal_is : (byte x : ℕ) → top 7 (cond (eqb x byte) 255 0) ≡ eqb x byte
equal_is byte x = by (eqb x byte)
  where
    by : (b : Bool) → top 7 (cond b 255 0) ≡ b
    by true = refl
    by false = refl

-- the first place, as a place in a part
pub first-place : {kind : ℕ → Bool} {bytes : List ℕ} {from to place : ℕ} → from ≤ to → to ≤ length bytes → IsFirst kind bytes from to place
    → place ≡ from + position_or_len kind (slice_range bytes from to)
first-place {kind} {bytes} {from} {to} {place} low high h =
    let part : List ℕ = slice_range bytes from to in
    let long = length-range bytes from to low high in
    let read : (k : ℕ) → k < to - from → get_or part k 0 ≡ get_or bytes (from + k) 0 =
    λ k l. get_or-take (to - from) (drop from bytes) k 0 l ∙ get_or-drop from bytes k 0 in
    let a = h.low in
    let b = h.high in
    let e : from + (place - from) ≡ place = omega arith in
    let found : position_or_len kind part ≡ place - from =
    position_or_len_is kind part (place - from) 0 (omega arith)
    (λ k l. ap kind (read k (omega arith)) ∙ h.none (from + k) (omega arith) (omega arith))
    (λ l. ap kind (read (place - from) (omega arith) ∙ ap (λ (k : ℕ). get_or bytes k 0) e) ∙ h.here (omega arith)) in
    omega arith

pub place-first : (kind : ℕ → Bool) (bytes : List ℕ) (from to : ℕ) → from ≤ to → to ≤ length bytes → IsFirst kind bytes from to (from + position_or_len kind (slice_range bytes from to))
place-first kind bytes from to low high =
    let part : List ℕ = slice_range bytes from to in
    let n : ℕ = position_or_len kind part in
    let long = length-range bytes from to low high in
    let few : n ≤ length part = prefix_len-le-length (λ x. not (kind x)) part in
    let read : (k : ℕ) → k < to - from → get_or part k 0 ≡ get_or bytes (from + k) 0 =
    λ k l. get_or-take (to - from) (drop from bytes) k 0 l ∙ get_or-drop from bytes k 0 in
    record {
      low = omega arith;
      high = omega arith;
      none = λ k l h.
          let e : from + (k - from) ≡ k = omega arith in
          ap kind (sym (read (k - from) (omega arith) ∙ ap (λ (i : ℕ). get_or bytes i 0) e)) ∙ fails_before_first kind part (k - from) 0 (omega arith);
      here = λ h. ap kind (sym (read n (omega arith))) ∙ passes_at_first kind part 0 (omega arith);
    }
