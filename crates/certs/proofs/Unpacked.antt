-- Values kept by those that are not 0: zeros and a value more, and where they stand.
use Rattle.std.proofs.Common.{◌≡◌, ◌+◌, ◌-◌, ◌<◌, ◌≤◌, refl, sym, ◌∙◌, ap, ℕ, List, [], ◌∷◌, ◌++◌, length, get_or, drop, replicate, append_assoc, arith, inl, inr}
use Rattle.std.proofs.lemmas.Bool.{cases_lt}
use Rattle.std.proofs.lemmas.List.{replicate-append-replicate, at_drop_more, drop-drop, drop_at, get_or_at, get_or-drop, get_or_append_left, get_or-replicate, get_or_past, length-append, length-drop, length-replicate}
use Rattle.rational.specs.Rational.{ℚ, zero_ℚ}
use Rattle.certs.specs.declared.packed.Entry.{Entry}
use Rattle.certs.specs.Packed.{unpacked}

-- so many zeros more
pub more_zeros : (entries : List Entry) (k n : ℕ) → unpacked entries (k + n) ≡ unpacked entries k ++ replicate n zero_ℚ
more_zeros [] k n = sym (replicate-append-replicate k n zero_ℚ)
more_zeros (e ∷ entries) k n =
    ap (λ l. replicate e.zeros zero_ℚ ++ e.value ∷ l) (more_zeros entries k n)
    ∙ sym (append_assoc (replicate e.zeros zero_ℚ) (e.value ∷ unpacked entries k) (replicate n zero_ℚ))

-- the next value is 0
pub zero_more : (entries : List Entry) (k : ℕ) (values : List ℚ) (v : ℚ) → unpacked entries k ≡ values → v ≡ zero_ℚ → unpacked entries (k + 1) ≡ values ++ v ∷ []
zero_more entries k values v is none = more_zeros entries k 1 ∙ (λ j. is j ++ sym none j ∷ [])

-- the next value is kept
entry_more : (entries : List Entry) (k : ℕ) (v : ℚ) → unpacked (entries ++ record { zeros = k; value = v } ∷ []) 0 ≡ unpacked entries k ++ v ∷ []
entry_more [] k v = refl
entry_more (e ∷ entries) k v =
    ap (λ l. replicate e.zeros zero_ℚ ++ e.value ∷ l) (entry_more entries k v)
    ∙ sym (append_assoc (replicate e.zeros zero_ℚ) (e.value ∷ unpacked entries k) (v ∷ []))

pub value_more : (entries : List Entry) (k : ℕ) (values : List ℚ) (v : ℚ) → unpacked entries k ≡ values → unpacked (entries ++ record { zeros = k; value = v } ∷ []) 0 ≡ values ++ v ∷ []
value_more entries k values v is = entry_more entries k v ∙ ap (λ xs. xs ++ v ∷ []) is

-- 0, 0, v, 0
pub by_hand : (v : ℚ) → unpacked (record { zeros = 2; value = v } ∷ []) 1 ≡ zero_ℚ ∷ zero_ℚ ∷ v ∷ zero_ℚ ∷ []
by_hand v = refl

-- the next entry stands behind its zeros
pub stands : (values : List ℚ) (at rest : ℕ) (entries : List Entry) (i : ℕ) (e : Entry) → drop at values ≡ unpacked (drop i entries) rest → i < length entries → e ≡ get_or entries i e → drop at values ≡ replicate e.zeros zero_ℚ ++ e.value ∷ unpacked (drop (i + 1) entries) rest
stands values at rest entries i e left l is =
    left
    ∙ at_drop_more (λ es. unpacked es rest) entries i e l
    ∙ ap (λ (x : Entry). replicate x.zeros zero_ℚ ++ x.value ∷ unpacked (drop (i + 1) entries) rest) (sym is)

-- ---- a value that stands in a list behind zeros, from a place on
module _ (values : List ℚ) (at z : ℕ) (v : ℚ) (rest : List ℚ) (stands : drop at values ≡ replicate z zero_ℚ ++ v ∷ rest) (l : at ≤ length values) where
  pub counted : length values ≡ at + z + 1 + length rest
  counted =
      let dropped = length-drop at values in
      let parts = ap length stands ∙ length-append (replicate z zero_ℚ) (v ∷ rest) in
      let zeros = length-replicate z zero_ℚ in
      omega arith

  pub skipped : (j : ℕ) → at ≤ j → j < at + z → get_or values j zero_ℚ ≡ zero_ℚ
  skipped j low high =
      let place : at + (j - at) ≡ j = omega arith in
      let zeros = length-replicate z zero_ℚ in
      sym (ap (λ k. get_or values k zero_ℚ) place)
      ∙ sym (get_or-drop at values (j - at) zero_ℚ)
      ∙ ap (λ xs. get_or xs (j - at) zero_ℚ) stands
      ∙ get_or_append_left (replicate z zero_ℚ) (v ∷ rest) zero_ℚ (j - at) (omega arith)
      ∙ get_or-replicate z (j - at) zero_ℚ zero_ℚ (omega arith)

  pub here : get_or values (at + z) zero_ℚ ≡ v
  here =
      sym (get_or-drop at values z zero_ℚ)
      ∙ ap (λ xs. get_or xs z zero_ℚ) stands
      ∙ get_or_at (replicate z zero_ℚ) v rest zero_ℚ z (length-replicate z zero_ℚ)

  pub left : drop (at + z + 1) values ≡ rest
  left =
      let place : at + z + 1 ≡ at + (z + 1) = omega arith in
      let zeros = length-replicate z zero_ℚ in
      let front = length-append (replicate z zero_ℚ) (v ∷ []) in
      ap (λ k. drop k values) place
      ∙ sym (drop-drop (z + 1) at values)
      ∙ ap (drop (z + 1)) (stands ∙ sym (append_assoc (replicate z zero_ℚ) (v ∷ []) rest))
      ∙ drop_at (replicate z zero_ℚ ++ v ∷ []) rest (z + 1) (omega arith)

-- each of some zeros, and what is past them
get_or-zeros : (n j : ℕ) → get_or (replicate n zero_ℚ) j zero_ℚ ≡ zero_ℚ
get_or-zeros n j =
    let zeros = length-replicate n zero_ℚ in
    elim (cases_lt j n) [
      | inl l ↦ get_or-replicate n j zero_ℚ zero_ℚ l
      | inr l ↦ get_or_past (replicate n zero_ℚ) j zero_ℚ (omega arith)
    ]

-- where only zeros are left, each value from there on is 0
pub only_zeros : (values : List ℚ) (at rest : ℕ) → drop at values ≡ replicate rest zero_ℚ → (j : ℕ) → at ≤ j → get_or values j zero_ℚ ≡ zero_ℚ
only_zeros values at rest zeros j low =
    let place : at + (j - at) ≡ j = omega arith in
    sym (ap (λ k. get_or values k zero_ℚ) place)
    ∙ sym (get_or-drop at values (j - at) zero_ℚ)
    ∙ ap (λ xs. get_or xs (j - at) zero_ℚ) zeros
    ∙ get_or-zeros rest (j - at)
