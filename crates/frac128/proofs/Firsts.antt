-- What the first wide operation of a calculation is: nothing before it is wide.
use Rattle.std.proofs.Common.{◌≡◌, refl, sym, ap, ◌∙◌, ℕ, Bool, true, false, [], ◌∷◌, ◌++◌, Option, None, Some, cond}
use Rattle.std.specs.Prelude.{All}
use Rattle.std.proofs.lemmas.List.Elements.{All-nil, All-cons, All-head, All-tail}
use Rattle.frac128.specs.Width.{Operation, is_wide}
use Rattle.frac128.specs.Calculation.{Calculation, first_wide}

module _ (m : ℕ) where
  abbrev pub IsNarrow : Operation → Type 0
  IsNarrow p = is_wide m p ≡ false

  none_some : (o : Operation) → ◌≡◌ {A = Option Operation} None (Some o) → ⊥
  none_some o h = cc

  pub none_for : (xs : Calculation) → All IsNarrow xs → first_wide m xs ≡ None
  unfolding first_wide
  none_for [] h = refl
  none_for (x ∷ xs) h = ap (λ t. cond t (Some x) (first_wide m xs)) (All-head IsNarrow x xs h) ∙ none_for xs (All-tail IsNarrow x xs h)

  -- one operation more in front
  pub narrow_for : (xs : Calculation) → first_wide m xs ≡ None → All IsNarrow xs
  unfolding first_wide
  narrow_for [] e = All-nil IsNarrow
  narrow_for (x ∷ xs) e = go (narrow_for xs) (is_wide m x) refl e
    where
      go : (first_wide m xs ≡ None → All IsNarrow xs) → (t : Bool) → is_wide m x ≡ t → cond t (Some x) (first_wide m xs) ≡ None → All IsNarrow (x ∷ xs)
      go f true p h = absurd (none_some x (sym h))
      go f false p h = All-cons IsNarrow x xs p (f h)

  pub first_for : (xs : Calculation) (o : Operation) → first_wide m xs ≡ Some o → (done : Calculation) × ((rest : Calculation) × ((xs ≡ done ++ (o ∷ rest)) × All IsNarrow done))
  unfolding first_wide
  first_for [] o e = absurd (none_some o e)
  first_for (x ∷ xs) o e = go (first_for xs o) (is_wide m x) refl e
    where
      go : (first_wide m xs ≡ Some o → (done : Calculation) × ((rest : Calculation) × ((xs ≡ done ++ (o ∷ rest)) × All IsNarrow done)))
          → (t : Bool) → is_wide m x ≡ t → cond t (Some x) (first_wide m xs) ≡ Some o
          → (done : Calculation) × ((rest : Calculation) × ((x ∷ xs ≡ done ++ (o ∷ rest)) × All IsNarrow done))
      go f true p h = (let same : x ≡ o = cc in ([], (xs, (ap (λ z. z ∷ xs) same, All-nil IsNarrow))))
      go f false p h = let r = f h in (x ∷ r.0, (r.1.0, (ap (λ l. x ∷ l) r.1.1.0, All-cons IsNarrow x r.0 p r.1.1.1)))
