-- At the end of an improve run of a system that was settled no variable is outside its limits.
use Rattle.std.proofs.Common.{◌≡◌, ◌<◌, refl, sym, ◌∙◌, ap, subst, ℕ, Bool, true, false, cond, ◌||◌, List, [], ◌∷◌, ◌++◌, flat_map, Option, None, Some}
use Rattle.std.specs.Prelude.{All, IfSome}
use Rattle.std.proofs.lemmas.Bool.{cond-true}
use Rattle.std.proofs.lemmas.List.Elements.{All-head, All-tail, All-weaker}
use Rattle.rational.specs.Rational.{ℚ, ◌≤ℚ◌, lt_q}
use Rattle.rational.proofs.Order.{lt_q-true, lt-le_clash_ℚ}
use Rattle.frac128.specs.declared.Wide.{Wide as Operation}
use Rattle.frac128.specs.Calculation.{first_wide, or_else}
use Rattle.frac128.proofs.Calculations.{first_wide-append}
use Rattle.certs.specs.System.{LinearSystem, is_basic}
use Rattle.certs.specs.Tableau.{Tableau, IsTableauOf, basic_value, limits_at, place_value, value_of}
use Rattle.certs.specs.Turns.{choice_at, is_outside, is_over, is_under, limited, limited_basics, operations_to_outside, settle_choice, settle_values, value_operations}
use Rattle.certs.specs.Turns.Choice.{Settled}
use Rattle.certs.specs.Improves.{improve_values, improving, reach_operations}
use Rattle.certs.specs.Ended.{IsWithin}
use Rattle.certs.proofs.Choices.{below_all}
use Rattle.certs.proofs.Feasible.{limited_is}
use Rattle.simplex.proofs.Firsts.{find-none}
use Rattle.simplex.specs.ImproveEnds.{KeepsLimits}

-- ---- within limits
above : (o : Option ℚ) (v : ℚ) → IfSome o (λ l. l ≤ℚ v) → is_under o v ≡ false
above None v h = refl
above (Some b) v h = by (lt_q v b) refl
  where
    by : (t : Bool) → lt_q v b ≡ t → t ≡ false
    by true e = lt-le_clash_ℚ (lt_q-true v b e) h
    by false e = refl

under : (o : Option ℚ) (v : ℚ) → IfSome o (λ u. v ≤ℚ u) → is_over o v ≡ false
under None v h = refl
under (Some b) v h = by (lt_q b v) refl
  where
    by : (t : Bool) → lt_q b v ≡ t → t ≡ false
    by true e = lt-le_clash_ℚ (lt_q-true b v e) h
    by false e = refl

neither : (a b : Bool) → a ≡ false → b ≡ false → (a || b) ≡ false
neither true b e f = e
neither false b e f = f

-- ---- operations
first_none : (a b : Option Operation) → or_else a b ≡ None → a ≡ None
first_none None b e = refl
first_none (Some o) b e = e

module _ (m : ℕ) (t : Tableau) where
  all_made : (xs : List ℕ) → All (λ k. is_outside t k ≡ false) xs → first_wide m (flat_map (value_operations t) xs) ≡ first_wide m (operations_to_outside t xs)
  all_made [] h = refl
  all_made (k ∷ xs) h =
      first_wide-append m (value_operations t k) (flat_map (value_operations t) xs)
      ∙ ap (λ z. or_else (first_wide m (value_operations t k)) z) (all_made xs (All-tail (λ k. is_outside t k ≡ false) k xs h))
      ∙ sym (first_wide-append m (value_operations t k) (operations_to_outside t xs))
      ∙ ap (λ b. first_wide m (value_operations t k ++ cond b [] (operations_to_outside t xs))) (sym (All-head (λ k. is_outside t k ≡ false) k xs h))

module _ (system : LinearSystem) (t : Tableau) (of : IsTableauOf system t) (within : KeepsLimits system t) where
  inside : (k : ℕ) → (k < limited t) × (is_basic t.basis k ≡ true) → is_outside t k ≡ false
  inside k h =
      let at : value_of t k ≡ basic_value t k = cond-true (is_basic t.basis k) (basic_value t k) (place_value t k) h.1 in
      let w : IsWithin (limits_at t k) (basic_value t k) = subst (λ z. IsWithin (limits_at t k) z) at (within k (subst (λ n. k < n) (limited_is system t of) h.0)) in
      neither (is_under (limits_at t k).lower (basic_value t k)) (is_over (limits_at t k).upper (basic_value t k)) (above (limits_at t k).lower (basic_value t k) w.lower) (under (limits_at t k).upper (basic_value t k) w.upper)

  all_inside : All (λ k. is_outside t k ≡ false) (limited_basics t)
  all_inside = All-weaker (λ k. (k < limited t) × (is_basic t.basis k ≡ true)) (λ k. is_outside t k ≡ false) inside (limited_basics t) (below_all (is_basic t.basis) (limited t))

  pub settled : settle_choice t ≡ Settled
  settled = ap (choice_at t) (find-none (is_outside t) (limited_basics t) all_inside)

  -- what the turn has made is all that a settle turn makes
  pub narrow_values : (m : ℕ) → first_wide m (improve_values t) ≡ None → first_wide m (settle_values t) ≡ None
  narrow_values m e =
      let front = flat_map (value_operations t) (limited_basics t) in
      sym (all_made m t (limited_basics t) all_inside)
      ∙ first_none (first_wide m front) (first_wide m (reach_operations t (improving t))) (sym (first_wide-append m front (reach_operations t (improving t))) ∙ e)
