-- The first number below a bound that passes two tests, found one after another.
use Rattle.std.proofs.Common.{◌≡◌, ◌+◌, ◌<◌, refl, sym, ◌∙◌, ap, subst, ℕ, zero, suc, Bool, true, false, cond, List, [], ◌∷◌, ◌++◌, append_assoc, Option, Some, None, arith, inl, inr, add-one}
use Rattle.std.specs.Prelude.{All, find}
use Rattle.std.proofs.lemmas.Bool.{cases_eq, cond-true, cond-false}
use Rattle.std.proofs.lemmas.List.{append-nil}
use Rattle.std.proofs.lemmas.List.Elements.{All-head, All-tail, All-nil, All-cons, All-append}
use Rattle.frac128.specs.declared.Wide.{Wide as Operation}
use Rattle.frac128.specs.Calculation.{first_wide, or_else}
use Rattle.frac128.proofs.Calculations.{first_wide-append, first_wide-past, first_wide-before, first_wide-nil}
use Rattle.certs.specs.Tableau.{Tableau, below}
use Rattle.certs.specs.Turns.{is_outside, limited, value_operations, operations_to_outside}
use Rattle.dictionary.specs.Value.{DictionaryValue, tableau_of}

-- how many variables there are but the objective, where a dictionary stays
pub limited_same : {d e : DictionaryValue} (n : ℕ) → e ≡ d → n ≡ limited (tableau_of d) → n ≡ limited (tableau_of e)
limited_same n same is = is ∙ ap (λ d. limited (tableau_of d)) (sym same)

-- one number more
pub below-yes : (test : ℕ → Bool) (n : ℕ) → test n ≡ true → below (n + 1) test ≡ below n test ++ n ∷ []
below-yes test n e = ap (λ m. below m test) (add-one n) ∙ ap (λ b. below n test ++ cond b (n ∷ []) []) e

pub below-no : (test : ℕ → Bool) (n : ℕ) → test n ≡ false → below (n + 1) test ≡ below n test
below-no test n e = ap (λ m. below m test) (add-one n) ∙ ap (λ b. below n test ++ cond b (n ∷ []) []) e ∙ append-nil (below n test)

-- what stands after a number that passes
pub record Split (test : ℕ → Bool) (n v : ℕ) : Type 0 where
  pub rest : List ℕ
  pub is : below n test ≡ below v test ++ v ∷ rest

pub split_at : (test : ℕ → Bool) (n v : ℕ) → v < n → test v ≡ true → Split test n v
split_at test zero v l e = absurd (omega arith)
split_at test (suc n) v l e =
    elim (cases_eq v n) [
      | inl d ↦ record { rest = []; is = ap (λ b. below n test ++ cond b (n ∷ []) []) (ap test (sym d) ∙ e) ∙ ap (λ z. below z test ++ z ∷ []) (sym d) }
      | inr d ↦
          (let s : Split test n v = split_at test n v (omega arith) e in
          record { rest = s.rest ++ cond (test n) (n ∷ []) []; is = ap (λ l. l ++ cond (test n) (n ∷ []) []) s.is ∙ append_assoc (below v test) (v ∷ s.rest) (cond (test n) (n ∷ []) []) })
    ]

-- ---- the first that passes
pub find-past : (p : ℕ → Bool) (xs ys : List ℕ) → All (λ k. p k ≡ false) xs → find p (xs ++ ys) ≡ find p ys
find-past p [] ys h = refl
find-past p (x ∷ xs) ys h = cond-false (p x) (Some x) (find p (xs ++ ys)) (All-head (λ k. p k ≡ false) x xs h) ∙ find-past p xs ys (All-tail (λ k. p k ≡ false) x xs h)

pub find-none : (p : ℕ → Bool) (xs : List ℕ) → All (λ k. p k ≡ false) xs → find p xs ≡ None
find-none p [] h = refl
find-none p (x ∷ xs) h = cond-false (p x) (Some x) (find p xs) (All-head (λ k. p k ≡ false) x xs h) ∙ find-none p xs (All-tail (λ k. p k ≡ false) x xs h)

pub find-at : (test p : ℕ → Bool) (n v : ℕ) → v < n → test v ≡ true → All (λ k. p k ≡ false) (below v test) → p v ≡ true → find p (below n test) ≡ Some v
find-at test p n v l e h k =
    let s : Split test n v = split_at test n v l e in
    ap (find p) s.is ∙ find-past p (below v test) (v ∷ s.rest) h ∙ cond-true (p v) (Some v) (find p s.rest) k

pub none-more : (test p : ℕ → Bool) (v : ℕ) → test v ≡ true → p v ≡ false → All (λ k. p k ≡ false) (below v test) → All (λ k. p k ≡ false) (below (v + 1) test)
none-more test p v e f h = subst (All (λ k. p k ≡ false)) (sym (below-yes test v e)) (All-append (λ k. p k ≡ false) (below v test) (v ∷ []) h (All-cons (λ k. p k ≡ false) v [] f (All-nil (λ k. p k ≡ false))))

pub none-same : (test p : ℕ → Bool) (v : ℕ) → test v ≡ false → All (λ k. p k ≡ false) (below v test) → All (λ k. p k ≡ false) (below (v + 1) test)
none-same test p v e h = subst (All (λ k. p k ≡ false)) (sym (below-no test v e)) h

-- ---- the operations of the values up to the first that is outside
module _ (m : ℕ) (t : Tableau) where
  pub values-past : (xs ys : List ℕ) → All (λ k. is_outside t k ≡ false) xs → first_wide m (operations_to_outside t xs) ≡ None → first_wide m (operations_to_outside t (xs ++ ys)) ≡ first_wide m (operations_to_outside t ys)
  values-past [] ys h e = refl
  values-past (x ∷ xs) ys h e =
      let f : is_outside t x ≡ false = All-head (λ k. is_outside t k ≡ false) x xs h in
      let step : (l : List ℕ) → first_wide m (operations_to_outside t (x ∷ l)) ≡ first_wide m (value_operations t x ++ operations_to_outside t l) = λ l. ap (λ b. first_wide m (value_operations t x ++ cond b [] (operations_to_outside t l))) f in
      let both : (first_wide m (value_operations t x) ≡ None) × (first_wide m (operations_to_outside t xs) ≡ None) = parts (first_wide m (value_operations t x)) (first_wide m (operations_to_outside t xs)) refl refl (sym (first_wide-append m (value_operations t x) (operations_to_outside t xs)) ∙ sym (step xs) ∙ e) in
      step (xs ++ ys) ∙ first_wide-past m (value_operations t x) (operations_to_outside t (xs ++ ys)) both.0 ∙ values-past xs ys (All-tail (λ k. is_outside t k ≡ false) x xs h) both.1
    where
      parts : (a b : Option Operation) → first_wide m (value_operations t x) ≡ a → first_wide m (operations_to_outside t xs) ≡ b → or_else a b ≡ None → (first_wide m (value_operations t x) ≡ None) × (first_wide m (operations_to_outside t xs) ≡ None)
      parts None b e f h = (e, f ∙ h)
      parts (Some w) b e f h = absurd (no w h)
        where
          no : (w : Operation) → ◌≡◌ {A = Option Operation} (Some w) None → ⊥
          no w q = cc

  pub values-more : (test : ℕ → Bool) (v : ℕ) → test v ≡ true → is_outside t v ≡ false → first_wide m (value_operations t v) ≡ None → All (λ k. is_outside t k ≡ false) (below v test) → first_wide m (operations_to_outside t (below v test)) ≡ None
      → first_wide m (operations_to_outside t (below (v + 1) test)) ≡ None
  values-more test v e f w h k =
      ap (λ l. first_wide m (operations_to_outside t l)) (below-yes test v e)
      ∙ values-past (below v test) (v ∷ []) h k
      ∙ ap (λ b. first_wide m (value_operations t v ++ cond b [] [])) f
      ∙ first_wide-past m (value_operations t v) [] w ∙ first_wide-nil m

  pub values-found : (test : ℕ → Bool) (n v : ℕ) → v < n → test v ≡ true → is_outside t v ≡ true → first_wide m (value_operations t v) ≡ None → All (λ k. is_outside t k ≡ false) (below v test) → first_wide m (operations_to_outside t (below v test)) ≡ None
      → first_wide m (operations_to_outside t (below n test)) ≡ None
  values-found test n v l e f w h k =
      let s : Split test n v = split_at test n v l e in
      ap (λ l. first_wide m (operations_to_outside t l)) s.is
      ∙ values-past (below v test) (v ∷ s.rest) h k
      ∙ ap (λ b. first_wide m (value_operations t v ++ cond b [] (operations_to_outside t s.rest))) f
      ∙ first_wide-past m (value_operations t v) [] w ∙ first_wide-nil m

  pub values-wide : (test : ℕ → Bool) (n v : ℕ) → v < n → test v ≡ true → (o : Operation) → first_wide m (value_operations t v) ≡ Some o → All (λ k. is_outside t k ≡ false) (below v test) → first_wide m (operations_to_outside t (below v test)) ≡ None
      → first_wide m (operations_to_outside t (below n test)) ≡ Some o
  values-wide test n v l e o w h k =
      let s : Split test n v = split_at test n v l e in
      ap (λ l. first_wide m (operations_to_outside t l)) s.is
      ∙ values-past (below v test) (v ∷ s.rest) h k
      ∙ first_wide-before m (value_operations t v) (cond (is_outside t v) [] (operations_to_outside t s.rest)) o w
