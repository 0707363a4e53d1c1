-- The additive method comes to what an early filter leaves.
use Rattle.std.proofs.Common.{◌≡◌, refl, sym, ◌∙◌, ap, subst, List, [], ◌∷◌, ◌++◌, append_assoc, append-nil, inl, inr}
use Rattle.std.specs.Prelude.{◌⊎◌}
use Rattle.lp_model.specs.Satisfaction.{IsSatisfiable}
use Rattle.certs.specs.Filter.{EarlyReaches}
use Rattle.certs.proofs.Filters.{satisfiable_weaker}
use Rattle.additive_filter.specs.Adding.{Adds, none, last, AddingLaw}

module _ {X : Type 0} (Can : List X → Type 0) (set : List X) (weaker : (a b c : List X) → Can (a ++ (b ++ c)) → Can (a ++ c)) where
  -- where a front with those that stay cannot be together, all behind it go
  all_go : (front back : List X) {kept : List X} → ¬ (Can (front ++ kept)) → EarlyReaches Can set (front ++ back) kept → EarlyReaches Can set front kept
  all_go front [] {kept} denied d = subst (λ l. EarlyReaches Can set l kept) (append-nil front) d
  all_go front (x ∷ back) {kept} denied d =
      let longer : EarlyReaches Can set (front ++ x ∷ []) kept =
      all_go (front ++ x ∷ []) back (λ h. denied (weaker front (x ∷ []) kept (subst Can (append_assoc front (x ∷ []) kept) h))) (subst (λ l. EarlyReaches Can set l kept) (sym (append_assoc front (x ∷ []) back)) d) in
      EarlyReaches.goes x longer denied

  -- of two fronts of a list one is a front of the other
  shorter : (f : List X) (b : List X) (g : List X) (c : List X) → f ++ b ≡ g ++ c → ((more : List X) × (g ≡ f ++ more)) ⊎ ((more : List X) × (f ≡ g ++ more))
  shorter [] b g c e = inl (g, refl)
  shorter (x ∷ f) b [] c e = inr (x ∷ f, refl)
  shorter (x ∷ f) b (y ∷ g) c e =
      let head : x ≡ y = cc in
      let tail : f ++ b ≡ g ++ c = cc in
      elim (shorter f b g c tail) [
        | inl h ↦ inl (h.0, (let p : g ≡ f ++ h.0 = h.1 in cc))
        | inr h ↦ inr (h.0, (let p : f ≡ g ++ h.0 = h.1 in cc))
      ]

  -- the elements at one place are one
  at_one_place : (f : List X) (x y : X) (a b : List X) → f ++ x ∷ a ≡ f ++ y ∷ b → x ≡ y
  at_one_place [] x y a b e = cc
  at_one_place (z ∷ f) x y a b e = at_one_place f x y a b (let p : f ++ x ∷ a ≡ f ++ y ∷ b = cc in p)

  -- Where what stays cannot be with a front, the fronts with which it can are shorter.
  before : (front : List X) (x : X) (back kept : List X) → set ≡ front ++ x ∷ back → ¬ (Can (front ++ kept)) → (f : List X) (y : X) (g : List X) → set ≡ f ++ y ∷ g → Can (f ++ kept) → (more : List X) × (front ≡ f ++ y ∷ more)
  before front x back kept e denied f y g k can =
      elim (shorter f (y ∷ g) front (x ∷ back) (sym k ∙ e)) [
        | inl h ↦ by h.0 h.1
        | inr h ↦ absurd (denied (weaker front h.0 kept (subst Can (append_assoc front h.0 kept) (subst (λ l. Can (l ++ kept)) h.1 can))))
      ]
    where
      by : (more : List X) → front ≡ f ++ more → (rest : List X) × (front ≡ f ++ y ∷ rest)
      by [] p = absurd (denied (subst (λ l. Can (l ++ kept)) (sym (p ∙ append-nil f)) can))
      by (z ∷ more) p =
          let same : z ≡ y = at_one_place f z y (more ++ x ∷ back) g (sym (append_assoc f (z ∷ more) (x ∷ back)) ∙ (ap (λ l. l ++ x ∷ back) (sym p) ∙ (sym e ∙ k))) in
          (more, p ∙ ap (λ c. f ++ c ∷ more) same)

  -- how far the method has come
  record Reached (kept : List X) : Type 0 where
    front : List X
    reached : EarlyReaches Can set front kept
    shorter_fronts : (f : List X) (y : X) (g : List X) → set ≡ f ++ y ∷ g → Can (f ++ kept) → (more : List X) × (front ≡ f ++ y ∷ more)

  reaches : {kept : List X} → Adds Can set kept → Reached kept
  reaches none = record { front = set; reached = EarlyReaches.start; shorter_fronts = λ f y g e can. (g, e) }
  reaches (last {kept = kept} front x back d e can denied) =
      let h : Reached kept = reaches d in
      let m : (more : List X) × (h.front ≡ front ++ x ∷ more) = h.shorter_fronts front x back e can in
      let whole : h.front ≡ (front ++ x ∷ []) ++ m.0 = m.1 ∙ sym (append_assoc front (x ∷ []) m.0) in
      let here : EarlyReaches Can set (front ++ x ∷ []) kept =
      all_go (front ++ x ∷ []) m.0 (λ c. denied (subst Can (append_assoc front (x ∷ []) kept) c)) (subst (λ l. EarlyReaches Can set l kept) whole h.reached) in
      record { front = front; reached = EarlyReaches.stays here can; shorter_fronts = before front x back (x ∷ kept) e denied }

  comes_to_early : {kept : List X} → Adds Can set kept → ¬ (Can kept) → EarlyReaches Can set [] kept
  comes_to_early {kept} d denied = let h : Reached kept = reaches d in all_go [] h.front denied h.reached

pub adding_law : AddingLaw
adding_law model set kept d denied = comes_to_early (IsSatisfiable model) set (satisfiable_weaker model) d denied
