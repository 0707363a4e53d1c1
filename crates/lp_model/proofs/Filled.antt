-- The set of the active members, filled member by member.
use Rattle.std.proofs.Common.{◌≡◌, ℕ, Bool, true, false, ◌&&◌, ◌||◌, eqb, List, [], ◌∷◌, ◌++◌, length, filter, inl, inr, refl, sym, ◌∙◌, ap, ap₂, subst, append_assoc, append-nil}
use Rattle.std.specs.Prelude.{Contains}
use Rattle.std.proofs.lemmas.Bool.{cases_eq, eq-eqb, ne_eqb, cond-false, and_from, and_left, and_right, or_right}
use Rattle.lp_model.specs.Program.{Program}
use Rattle.lp_model.specs.Evaluation.{IsInRange}
use Rattle.lp_model.specs.Members.{Member, kind, place, is_same, has, is_active, possible_members}
use Rattle.lp_model.specs.MemberSets.{SetValue, set_with, empty_set, active_set}
use Rattle.lp_model.proofs.Sets.{same_members, has_of_contains}
use Rattle.lp_model.proofs.Marked.{set_of, has_filter, filter_agree_on, possible_is}
use Rattle.lp_model.proofs.Walk.{in_middle}

-- the active ones of the members that were gone through
abbrev pub filled_set : Program → List Member → SetValue
filled_set model done = set_of (length model.rows) (length model.columns) (filter (λ n. is_active model n && has done n) (possible_members model))

turned : (a b : ℕ) → eqb a b ≡ eqb b a
turned a b = elim (cases_eq a b) [
  | inl e ↦ eq-eqb a b e ∙ sym (eq-eqb b a (sym e))
  | inr ne ↦ ne_eqb a b ne ∙ sym (ne_eqb b a (λ e. ne (sym e)))
]

or_false : (s : Bool) → (s || false) ≡ s
or_false true = refl
or_false false = refl

-- one more
has_more : (done : List Member) (m n : Member) → has (done ++ m ∷ []) n ≡ (has done n || is_same n m)
has_more [] m n = or_false (is_same m n) ∙ ap₂ (λ (s t : Bool). s && t) (turned (kind m) (kind n)) (turned (place m) (place n))
has_more (d ∷ done) m n = ap (λ s. is_same d n || s) (has_more done m n) ∙ grouped (is_same d n) (has done n) (is_same n m)
  where
    grouped : (r s t : Bool) → (r || (s || t)) ≡ ((r || s) || t)
    grouped true s t = refl
    grouped false s t = refl

module _ (model : Program) where
  change : (p q : Member → Bool) → ((n : Member) → Contains (possible_members model) n → p n ≡ q n) → set_of (length model.rows) (length model.columns) (filter p (possible_members model)) ≡ set_of (length model.rows) (length model.columns) (filter q (possible_members model))
  change p q h = ap (set_of (length model.rows) (length model.columns)) (filter_agree_on p q (possible_members model) h)

  pub filled_none : empty_set model ≡ filled_set model []
  filled_none = ap (set_of (length model.rows) (length model.columns)) (sym (none (possible_members model)))
    where
      none : (xs : List Member) → filter (λ n. is_active model n && false) xs ≡ []
      none [] = refl
      none (x ∷ xs) = cond-false (is_active model x && false) _ _ (and_right (is_active model x) false refl) ∙ none xs

  pub filled_with : (done : List Member) (m : Member) → is_active model m ≡ true → set_with (filled_set model done) m ≡ filled_set model (done ++ m ∷ [])
  filled_with done m e = change _ _ (λ n c.
      ap (λ s. is_same n m || s) (has_filter (λ k. is_active model k && has done k) (possible_members model) n c)
      ∙ (go n (is_same n m) refl ∙ ap (λ s. is_active model n && s) (sym (has_more done m n))))
    where
      go : (n : Member) (s : Bool) → is_same n m ≡ s → (s || (is_active model n && has done n)) ≡ (is_active model n && (has done n || s))
      go n true h = sym (and_from (is_active model n) (has done n || true) (ap (is_active model) (same_members n m h) ∙ e) (or_right (has done n) true refl))
      go n false h = ap (λ s. is_active model n && s) (sym (or_false (has done n)))

  pub filled_without : (done : List Member) (m : Member) → is_active model m ≡ false → filled_set model done ≡ filled_set model (done ++ m ∷ [])
  filled_without done m e = change _ _ (λ n c. go n (is_same n m) refl ∙ ap (λ s. is_active model n && s) (sym (has_more done m n)))
    where
      go : (n : Member) (s : Bool) → is_same n m ≡ s → (is_active model n && has done n) ≡ (is_active model n && (has done n || s))
      go n true h =
          let off : is_active model n ≡ false = ap (is_active model) (same_members n m h) ∙ e in
          and_left (is_active model n) (has done n) off ∙ sym (and_left (is_active model n) (has done n || true) off)
      go n false h = ap (λ s. is_active model n && s) (sym (or_false (has done n)))

  pub filled_all : (done : List Member) → possible_members model ≡ done ++ [] → filled_set model done ≡ active_set model
  filled_all done e = change _ _ (λ n c.
      ap (λ s. is_active model n && s) (has_of_contains done n (subst (λ l. Contains l n) (e ∙ append-nil done) c)) ∙ all (is_active model n))
    where
      all : (b : Bool) → (b && true) ≡ b
      all true = refl
      all false = refl

  -- the next of those that are still to come may be in the set
  pub next_possible : (done : List Member) (m : Member) (rest items : List Member) → possible_members model ≡ done ++ items → items ≡ m ∷ rest → IsInRange model m
  next_possible done m rest items e f =
      possible_is (length model.rows) (length model.columns) m (subst (λ l. Contains l m) (sym (e ∙ ap (λ l. done ++ l) f)) (in_middle done m rest))

  -- those gone through are one more
  pub passed_on : (done : List Member) (m : Member) (rest items : List Member) → possible_members model ≡ done ++ items → items ≡ m ∷ rest → possible_members model ≡ (done ++ m ∷ []) ++ rest
  passed_on done m rest items e f = e ∙ (ap (λ l. done ++ l) f ∙ sym (append_assoc done (m ∷ []) rest))
