-- Where all values together have no wide operation, neither has one alone.
use Rattle.std.proofs.Common.{◌≡◌, ◌<◌, refl, sym, ◌∙◌, ap, subst, ℕ, Bool, true, false, cond, List, [], ◌∷◌, ◌++◌, Option, Some, None}
use Rattle.std.specs.Prelude.{All, find}
use Rattle.std.proofs.lemmas.List.Elements.{All-head, All-tail}
use Rattle.frac128.specs.declared.Wide.{Wide as Operation}
use Rattle.frac128.specs.Calculation.{first_wide, or_else}
use Rattle.frac128.proofs.Calculations.{first_wide-append}
use Rattle.certs.specs.System.{is_basic}
use Rattle.certs.specs.Tableau.{Tableau, below}
use Rattle.certs.specs.Turns.{is_outside, limited, limited_basics, operations_to_outside, settle_values, value_operations}
use Rattle.simplex.proofs.Firsts.{Split, split_at}

module _ (m : ℕ) (t : Tableau) where
  first_none : (a b : Option Operation) → or_else a b ≡ None → a ≡ None
  first_none None b e = refl
  first_none (Some o) b e = e

  last_none : (a b : Option Operation) → or_else a b ≡ None → b ≡ None
  last_none None b e = e
  last_none (Some o) b e = absurd (some o e)
    where
      some : (o : Operation) → ◌≡◌ {A = Option Operation} (Some o) None → ⊥
      some o q = cc

  at_split : (xs : List ℕ) (v : ℕ) (rest : List ℕ) → All (λ k. is_outside t k ≡ false) (xs ++ v ∷ rest) → first_wide m (operations_to_outside t (xs ++ v ∷ rest)) ≡ None → first_wide m (value_operations t v) ≡ None
  at_split [] v rest h e = first_none (first_wide m (value_operations t v)) _ (sym (first_wide-append m (value_operations t v) (cond (is_outside t v) [] (operations_to_outside t rest))) ∙ e)
  at_split (x ∷ xs) v rest h e =
      let f : is_outside t x ≡ false = All-head (λ k. is_outside t k ≡ false) x (xs ++ v ∷ rest) h in
      let q : first_wide m (cond (is_outside t x) [] (operations_to_outside t (xs ++ v ∷ rest))) ≡ None = last_none (first_wide m (value_operations t x)) _ (sym (first_wide-append m (value_operations t x) (cond (is_outside t x) [] (operations_to_outside t (xs ++ v ∷ rest)))) ∙ e) in
      at_split xs v rest (All-tail (λ k. is_outside t k ≡ false) x (xs ++ v ∷ rest) h) (ap (λ b. first_wide m (cond b [] (operations_to_outside t (xs ++ v ∷ rest)))) (sym f) ∙ q)

  -- the first that is outside has been looked at
  pub narrow_found : (xs : List ℕ) (v : ℕ) → find (is_outside t) xs ≡ Some v → first_wide m (operations_to_outside t xs) ≡ None → first_wide m (value_operations t v) ≡ None
  narrow_found [] v f e = absurd (cc f)
  narrow_found (x ∷ xs) v f e = by (narrow_found xs v) (is_outside t x) f (sym (first_wide-append m (value_operations t x) (cond (is_outside t x) [] (operations_to_outside t xs))) ∙ e)
    where
      by : (find (is_outside t) xs ≡ Some v → first_wide m (operations_to_outside t xs) ≡ None → first_wide m (value_operations t v) ≡ None) → (b : Bool) → cond b (Some x) (find (is_outside t) xs) ≡ Some v → or_else (first_wide m (value_operations t x)) (first_wide m (cond b [] (operations_to_outside t xs))) ≡ None → first_wide m (value_operations t v) ≡ None
      by rest true f e = (let d : x ≡ v = cc f in subst (λ k. first_wide m (value_operations t k) ≡ None) d (first_none (first_wide m (value_operations t x)) _ e))
      by rest false f e = rest f (last_none (first_wide m (value_operations t x)) _ e)

  pub narrow_of : (v : ℕ) → v < limited t → is_basic t.basis v ≡ true → All (λ k. is_outside t k ≡ false) (limited_basics t) → first_wide m (settle_values t) ≡ None → first_wide m (value_operations t v) ≡ None
  narrow_of v l b h e =
      let s : Split (is_basic t.basis) (limited t) v = split_at (is_basic t.basis) (limited t) v l b in
      at_split (below v (is_basic t.basis)) v s.rest (subst (All (λ k. is_outside t k ≡ false)) s.is h) (ap (λ z. first_wide m (operations_to_outside t z)) (sym s.is) ∙ e)
