-- The entries of a map by names, one after another.
use Rattle.std.proofs.Common.{◌≡◌, refl, sym, ◌∙◌, ap, subst, ℕ, zero, suc, ◌+◌, Bool, true, false, ◌||◌, List, [], ◌∷◌, ◌++◌, take, Some, arith}
use Rattle.std.specs.List.{slice_get, list_any, AllByRecursion, IsDistinct}
use Rattle.std.specs.Str.{bytes_eq}
use Rattle.std.proofs.lemmas.Slice.Eq.{bytes_eq-Decides}
use Rattle.name_map.specs.Names.{names_of, values_of}

next_suc : {V : Type 0} (es : List (List ℕ × V)) (i : ℕ) (name : List ℕ) (value : V) → slice_get (names_of es) i ≡ Some name → slice_get (values_of es) i ≡ Some value → take (suc i) es ≡ take i es ++ (name, value) ∷ []
next_suc [] i name value n v = absurd (cc)
next_suc {V} (e ∷ es) zero name value n v = ap (λ (x : List ℕ × V). x ∷ []) (let one : e.0 ≡ name = cc in let two : e.1 ≡ value = cc in λ i. (one i, two i))
next_suc (e ∷ es) (suc i) name value n v = ap (λ l. e ∷ l) (next_suc es i name value n v)

-- the entry at an index comes next, with a copy of its value
pub next_entry : {V : Type 0} (es copied more : List (List ℕ × V)) (i : ℕ) (name : List ℕ) (value copy : V) → slice_get (names_of es) i ≡ Some name → slice_get (values_of es) i ≡ Some value
    → copy ≡ value → copied ≡ take i es → more ≡ copied ++ (name, copy) ∷ [] → more ≡ take (i + 1) es
next_entry es copied more i name value copy n v same is e =
    let on : suc i ≡ i + 1 = omega arith in
    e ∙ ap (λ l. l ++ (name, copy) ∷ []) is ∙ sym (next_suc es i name copy n (v ∙ ap Some (sym same))) ∙ ap (λ k. take k es) on

unlike : (a b : List ℕ) → bytes_eq a b ≡ false → bytes_eq b a ≡ false
unlike a b h = by (bytes_eq b a) refl
  where
    by : (test : Bool) → bytes_eq b a ≡ test → test ≡ false
    by true e = sym ((bytes_eq-Decides a b).1 (sym ((bytes_eq-Decides b a).0 e))) ∙ h
    by false e = refl

among : (P : List ℕ → Type 0) (names : List (List ℕ)) (i : ℕ) (name : List ℕ) → AllByRecursion P names → slice_get names i ≡ Some name → P name
among P [] i name all n = absurd (cc)
among P (x ∷ names) zero name all n = subst P (let one : x ≡ name = cc in one) all.0
among P (x ∷ names) (suc i) name all n = among P names i name all.1 n

-- its name is not among those before it, where no two are the same
pub fresh_name : {V : Type 0} (es : List (List ℕ × V)) (i : ℕ) (name : List ℕ) → IsDistinct bytes_eq (names_of es) → slice_get (names_of es) i ≡ Some name → list_any (bytes_eq name) (names_of (take i es)) ≡ false
unfolding IsDistinct
fresh_name [] i name apart n = absurd (cc)
fresh_name (e ∷ es) zero name apart n = refl
fresh_name (e ∷ es) (suc i) name apart n =
    ap (λ b. b || list_any (bytes_eq name) (names_of (take i es))) (unlike e.0 name (among (λ x. bytes_eq e.0 x ≡ false) (names_of es) i name apart.0 n)) ∙ fresh_name es i name apart.1 n
