-- A loop over a list that stops at the first operation that is too wide: what is made of the list, item by item, and the operations.
use Rattle.std.proofs.Common.{◌≡◌, ◌+◌, ◌<◌, ◌≤◌, refl, sym, ◌∙◌, ap, ℕ, List, [], ◌∷◌, ◌++◌, length, drop, get_or, None, Some}
use Rattle.std.proofs.lemmas.List.{at_drop_more, drop_all}
use Rattle.frac128.specs.declared.Wide.{Wide as Operation}
use Rattle.frac128.specs.Limit.{limit}
use Rattle.frac128.specs.Calculation.{Calculation, first_wide}
use Rattle.frac128.proofs.Calculations.{first_wide-before, first_wide-past, first_wide-nil}

module _ {S A : Type 0} (one : S → A → Calculation) (next : S → A → S) where
  -- what is made after all items
  abbrev pub made_after : S → List A → S
  made_after s [] = s
  made_after s (x ∷ xs) = made_after (next s x) xs

  -- the operations
  abbrev pub work_after : S → List A → Calculation
  work_after s [] = []
  work_after s (x ∷ xs) = one s x ++ work_after (next s x) xs

  -- the first i of the items have made s, and no operation was too wide
  pub record HasMade (start : S) (xs : List A) (i : ℕ) (s : S) : Type 0 where
    pub made : made_after s (drop i xs) ≡ made_after start xs
    pub work : first_wide limit (work_after s (drop i xs)) ≡ first_wide limit (work_after start xs)

  pub made-none : (start : S) (xs : List A) → HasMade start xs 0 start
  made-none start xs = record { made = refl; work = refl }

  module _ (start : S) (xs : List A) (i : ℕ) (s : S) (so : HasMade start xs i s) where
    pub made-all : length xs ≤ i → (s ≡ made_after start xs) × (first_wide limit (work_after start xs) ≡ None)
    made-all h = (
      sym (ap (λ (l : List A). made_after s l) (drop_all i xs h)) ∙ so.made,
      sym so.work ∙ ap (λ (l : List A). first_wide limit (work_after s l)) (drop_all i xs h) ∙ first_wide-nil limit,
    )

    -- x is the item at place i
    module _ (x : A) (h : i < length xs) (is : x ≡ get_or xs i x) where
      at_place : {B : Type 0} (F : List A → B) → F (drop i xs) ≡ F (x ∷ drop (i + 1) xs)
      at_place F = at_drop_more F xs i x h ∙ ap (λ (z : A). F (z ∷ drop (i + 1) xs)) (sym is)

      pub made-wide : (o : Operation) → first_wide limit (one s x) ≡ Some o → first_wide limit (work_after start xs) ≡ Some o
      made-wide o e =
          sym so.work
          ∙ at_place (λ (l : List A). first_wide limit (work_after s l))
          ∙ first_wide-before limit (one s x) (work_after (next s x) (drop (i + 1) xs)) o e

      pub made-more : (t : S) → t ≡ next s x → first_wide limit (one s x) ≡ None → HasMade start xs (i + 1) t
      made-more t same e = record {
        made = ap (λ (z : S). made_after z (drop (i + 1) xs)) same ∙ sym (at_place (λ (l : List A). made_after s l)) ∙ so.made;
        work =
            ap (λ (z : S). first_wide limit (work_after z (drop (i + 1) xs))) same
            ∙ sym (first_wide-past limit (one s x) (work_after (next s x) (drop (i + 1) xs)) e)
            ∙ sym (at_place (λ (l : List A). first_wide limit (work_after s l)))
            ∙ so.work;
      }
