-- Where a variable raises the objective without end, the variables change along a ray.
use Rattle.std.proofs.Common.{◌≡◌, ◌≢◌, ◌+◌, ◌<◌, ◌==◌, refl, sym, ◌∙◌, ap, subst, ℕ, Bool, true, false, true≢false, cond, not, ◌&&◌, [], ◌∷◌, length, Option, Some, None, IsSome, inl, inr, eq-eqb, ne_eqb}
use Rattle.std.specs.Prelude.{All}
use Rattle.std.proofs.lemmas.Bool.{and_parts, cases_Bool, cases_eq, cond-true, cond-false, or_cases}
use Rattle.std.proofs.lemmas.List.Elements.{All-nil}
use Rattle.algebra.proofs.Ring.{x0, ◌:+◌, ◌:-◌, ◌:*◌, minus, zero_of, unit_of}
use Rattle.rational.specs.Rational.{ℚ, ◌+ℚ◌, ◌*ℚ◌, neg_ℚ, zero_ℚ, one_ℚ, lt_q, ◌≤ℚ◌, ◌<ℚ◌}
use Rattle.rational.proofs.Compare.{eq-Decides, lt_q-Decides}
use Rattle.rational.proofs.Field.{ring_ℚ}
use Rattle.rational.proofs.Order.{lt_q-true, le_refl_ℚ, le_of_lt_ℚ, le_or_lt_ℚ, lt-le_clash_ℚ, le_by, lt_by, nonneg_of_le, positive_of_lt, positive_is, positive-one}
use Rattle.rational.proofs.Sums.{sum_over-zero, times_nothing}
use Rattle.lp_model.specs.declared.members.Side.{Side}
use Rattle.lp_model.specs.declared.members.Side.TheVariants.{Lo, Up}
use Rattle.certs.specs.Combination.{number_or_zero}
use Rattle.certs.specs.System.{LinearSystem, Place, is_basic, limit_on}
use Rattle.certs.specs.System.Place.{Basic, AtLower, AtUpper, AtZero}
use Rattle.certs.specs.Tableau.{Tableau, IsPlaced, IsTableauOf, Solves, limits_at, nonbasics, place_of, value_at_place}
use Rattle.certs.specs.Turns.{can_fall, can_rise, meets, others}
use Rattle.certs.specs.Improves.{Block, blocks, does_rise, improve_choice, objective_variable, rate, towards}
use Rattle.certs.specs.Improves.Improvement.{Free}
use Rattle.certs.proofs.Feasible.{limits_are, limited_is}
use Rattle.certs.proofs.Tableaus.{sum_before, sum_other}
use Rattle.bland_law.proofs.Nearest.{at_met, at_own}
use Rattle.simplex.specs.Rays.{change_along, IsVariableRay, FreeRayLaw}
use Rattle.simplex.proofs.Ends.{IsFree, Raises, free_parts, free_raises, last_is, objective_basic}

-- ---- where a change goes
goes_up : (q : ℚ) → zero_ℚ <ℚ q → towards q ≡ Some Up
goes_up q h = ap (λ b. cond b (Some Up) (cond (lt_q q zero_ℚ) (Some Lo) None)) ((lt_q-Decides zero_ℚ q).1 h)

goes_down : (q : ℚ) → q <ℚ zero_ℚ → towards q ≡ Some Lo
goes_down q h =
    let e : lt_q zero_ℚ q ≡ false = elim (cases_Bool (lt_q zero_ℚ q)) [ inl e ↦ (lt-le_clash_ℚ h (le_of_lt_ℚ (lt_q-true zero_ℚ q e))) | inr e ↦ e ] in
    ap (λ b. cond b (Some Up) (cond (lt_q q zero_ℚ) (Some Lo) None)) e ∙ ap (λ b. cond b (Some Lo) None) ((lt_q-Decides q zero_ℚ).1 h)

-- ---- where a variable with one limit stands
found : (o : Option ℚ) → IsSome o → (q : ℚ) × (o ≡ Some q)
found None e = absurd (true≢false (sym e))
found (Some q) e = (q, refl)

itself_met : (o : Option ℚ) → IsSome o → meets o (number_or_zero o) ≡ true
itself_met None e = absurd (true≢false (sym e))
itself_met (Some b) e = (eq-Decides b b).1 refl

-- with a lower limit and no upper one it stands at the lower one
at_lower : (l u : Option ℚ) (p : Place) → IsPlaced (record { lower = l; upper = u }) p → elim p [ Basic ↦ true | AtLower ↦ false | AtUpper ↦ false | AtZero ↦ false ] ≡ false → IsSome l → (IsSome u → ⊥)
    → meets l (value_at_place (record { lower = l; upper = u }) p) ≡ true
at_lower l u Basic h b s n = absurd (true≢false b)
at_lower l u AtLower h b s n = itself_met l s
at_lower l u AtUpper h b s n = absurd (n h)
at_lower l u AtZero h b s n = absurd (true≢false (sym s ∙ ap (λ (o : Option ℚ). elim o [ None ↦ false | Some q ↦ true ]) h.0))

at_upper : (l u : Option ℚ) (p : Place) → IsPlaced (record { lower = l; upper = u }) p → elim p [ Basic ↦ true | AtLower ↦ false | AtUpper ↦ false | AtZero ↦ false ] ≡ false → IsSome u → (IsSome l → ⊥)
    → meets u (value_at_place (record { lower = l; upper = u }) p) ≡ true
at_upper l u Basic h b s n = absurd (true≢false b)
at_upper l u AtLower h b s n = absurd (n h)
at_upper l u AtUpper h b s n = itself_met u s
at_upper l u AtZero h b s n = absurd (true≢false (sym s ∙ ap (λ (o : Option ℚ). elim o [ None ↦ false | Some q ↦ true ]) h.1))

module _ (system : LinearSystem) (t : Tableau) (j : ℕ) (some : IsSome system.objective) (of : IsTableauOf system t) (free : improve_choice t ≡ Free j) where
  abbrev all : ℕ
  all = length system.columns + length system.rows

  abbrev z : ℕ
  z = objective_variable t

  abbrev f : ℚ
  f = t.factor z j

  parts : IsFree t j
  parts = free_parts t j free

  at_j : Raises t j
  at_j = free_raises t j free

  nonbasic : is_basic t.basis j ≡ false
  nonbasic = at_j.nonbasic

  -- ---- its way
  rises_so : does_rise t j ≡ true → can_rise t j ≡ true
  rises_so e = elim (or_cases (lt_q zero_ℚ f && can_rise t j) (lt_q f zero_ℚ && can_fall t j) at_j.helps_it) [
    | inl h ↦ (and_parts (lt_q zero_ℚ f) (can_rise t j) h).1
    | inr h ↦ lt-le_clash_ℚ (lt_q-true zero_ℚ f e) (le_of_lt_ℚ (lt_q-true f zero_ℚ (and_parts (lt_q f zero_ℚ) (can_fall t j) h).0))
  ]

  falls_so : does_rise t j ≡ false → (f <ℚ zero_ℚ) × (can_fall t j ≡ true)
  falls_so e = elim (or_cases (lt_q zero_ℚ f && can_rise t j) (lt_q f zero_ℚ && can_fall t j) at_j.helps_it) [
    | inl h ↦ absurd (true≢false (sym (and_parts (lt_q zero_ℚ f) (can_rise t j) h).0 ∙ e))
    | inr h ↦ (lt_q-true f zero_ℚ (and_parts (lt_q f zero_ℚ) (can_fall t j) h).0, (and_parts (lt_q f zero_ℚ) (can_fall t j) h).1)
  ]

  -- ---- nothing is met
  none_met : All (λ (b : Block). ⊥) (blocks t j)
  none_met = subst (All (λ (b : Block). ⊥)) (sym parts.none) (All-nil (λ (b : Block). ⊥))

  not_both : IsSome (limits_at t j).lower → IsSome (limits_at t j).upper → ⊥
  not_both l u =
      let a = found (limits_at t j).lower l in
      let b = found (limits_at t j).upper u in
      at_own t j (λ (b : Block). ⊥) none_met a.0 b.0 a.1 b.1

  no_upper : does_rise t j ≡ true → IsSome (limits_at t j).upper → ⊥
  no_upper e u =
      true≢false (sym (rises_so e) ∙ ap not (at_upper (limits_at t j).lower (limits_at t j).upper (place_of t j) (of.placed j) nonbasic u (λ l. not_both l u)))

  no_lower : does_rise t j ≡ false → IsSome (limits_at t j).lower → ⊥
  no_lower e l =
      true≢false (sym (falls_so e).1 ∙ ap not (at_lower (limits_at t j).lower (limits_at t j).upper (place_of t j) (of.placed j) nonbasic l (λ u. not_both l u)))

  unlimited : (i : ℕ) (side : Side) → i < all → is_basic t.basis i ≡ true → towards (rate t j i) ≡ Some side → IsSome (limit_on (limits_at t i) side) → ⊥
  unlimited i side l b way s =
      let q = found (limit_on (limits_at t i) side) s in
      at_met t j (λ (b : Block). ⊥) none_met i side q.0 (subst (λ n. i < n) (sym (limited_is system t of)) l) b way q.1

  -- ---- how the variables change
  own : change_along t j j ≡ cond (does_rise t j) one_ℚ (neg_ℚ one_ℚ)
  own = cond-true (j == j) _ _ (eq-eqb j j refl)

  basic : (v : ℕ) → is_basic t.basis v ≡ true → change_along t j v ≡ rate t j v
  basic v b = cond-false (v == j) _ _ (ne_eqb v j (λ e. true≢false (sym b ∙ ap (is_basic t.basis) e ∙ nonbasic))) ∙ cond-true (is_basic t.basis v) _ _ b

  other : (v : ℕ) → is_basic t.basis v ≡ false → v ≢ j → change_along t j v ≡ zero_ℚ
  other v b n = cond-false (v == j) _ _ (ne_eqb v j n) ∙ cond-false (is_basic t.basis v) _ _ b

  rate_is : (i : ℕ) → rate t j i ≡ t.factor i j *ℚ cond (does_rise t j) one_ℚ (neg_ℚ one_ℚ)
  rate_is i = by (does_rise t j)
    where
      by : (b : Bool) → cond b (t.factor i j) (neg_ℚ (t.factor i j)) ≡ t.factor i j *ℚ cond b one_ℚ (neg_ℚ one_ℚ)
      by true = ring_ℚ (t.factor i j ∷ []) x0 (x0 :* unit_of) tt
      by false = ring_ℚ (t.factor i j ∷ []) (minus x0) (x0 :* minus unit_of) tt

  solves_it : Solves t (change_along t j)
  solves_it i b =
      let g : ℕ → ℚ = λ k. t.factor i k *ℚ change_along t j k in
      basic i b ∙ rate_is i
      ∙ ap (λ q. t.factor i j *ℚ q) (sym own)
      ∙ ring_ℚ (g j ∷ []) x0 (x0 :+ zero_of) tt
      ∙ ap (λ q. g j +ℚ q) (sym (sum_over-zero (others j (nonbasics t.basis))))
      ∙ ap (λ q. g j +ℚ q) (sym (sum_other t.basis j g (λ k. zero_ℚ) (λ k l n q. ap (λ w. t.factor i k *ℚ w) (other k n q) ∙ times_nothing (t.factor i k))))
      ∙ sym (sum_before t.basis i j Lo b nonbasic at_j.known g)

  -- ---- the limits
  one_above : zero_ℚ ≤ℚ one_ℚ
  one_above = le_of_lt_ℚ (positive_is.1 positive-one)

  minus_below : neg_ℚ one_ℚ ≤ℚ zero_ℚ
  minus_below = le_by [] (minus unit_of) zero_of (unit_of :- zero_of) (nonneg_of_le one_above) tt

  own_lower : IsSome (limits_at t j).lower → (b : Bool) → does_rise t j ≡ b → zero_ℚ ≤ℚ cond b one_ℚ (neg_ℚ one_ℚ)
  own_lower l true e = one_above
  own_lower l false e = absurd (no_lower e l)

  own_upper : IsSome (limits_at t j).upper → (b : Bool) → does_rise t j ≡ b → cond b one_ℚ (neg_ℚ one_ℚ) ≤ℚ zero_ℚ
  own_upper u true e = absurd (no_upper e u)
  own_upper u false e = minus_below

  lower_at : (v : ℕ) → v < all → IsSome (limits_at t v).lower → zero_ℚ ≤ℚ change_along t j v
  lower_at v l s = elim (cases_eq v j) [
    | inl e ↦ subst (λ k. zero_ℚ ≤ℚ change_along t j k) (sym e) (subst (λ q. zero_ℚ ≤ℚ q) (sym own) (own_lower (subst (λ k. IsSome (limits_at t k).lower) e s) (does_rise t j) refl))
    | inr n ↦ elim (cases_Bool (is_basic t.basis v)) [
      | inl b ↦ subst (λ q. zero_ℚ ≤ℚ q) (sym (basic v b)) (elim (le_or_lt_ℚ zero_ℚ (rate t j v)) [ inl h ↦ h | inr h ↦ absurd (unlimited v Lo l b (goes_down (rate t j v) h) s) ])
      | inr b ↦ subst (λ q. zero_ℚ ≤ℚ q) (sym (other v b n)) (le_refl_ℚ zero_ℚ)
    ]
  ]

  upper_at : (v : ℕ) → v < all → IsSome (limits_at t v).upper → change_along t j v ≤ℚ zero_ℚ
  upper_at v l s = elim (cases_eq v j) [
    | inl e ↦ subst (λ k. change_along t j k ≤ℚ zero_ℚ) (sym e) (subst (λ q. q ≤ℚ zero_ℚ) (sym own) (own_upper (subst (λ k. IsSome (limits_at t k).upper) e s) (does_rise t j) refl))
    | inr n ↦ elim (cases_Bool (is_basic t.basis v)) [
      | inl b ↦ subst (λ q. q ≤ℚ zero_ℚ) (sym (basic v b)) (elim (le_or_lt_ℚ (rate t j v) zero_ℚ) [ inl h ↦ h | inr h ↦ absurd (unlimited v Up l b (goes_up (rate t j v) h) s) ])
      | inr b ↦ subst (λ q. q ≤ℚ zero_ℚ) (sym (other v b n)) (le_refl_ℚ zero_ℚ)
    ]
  ]

  -- ---- the objective
  rate_above : (b : Bool) → does_rise t j ≡ b → zero_ℚ <ℚ cond b f (neg_ℚ f)
  rate_above true e = lt_q-true zero_ℚ f e
  rate_above false e = lt_by (f ∷ []) zero_of (minus x0) (zero_of :- x0) (positive_of_lt (falls_so e).0) tt

  raises : zero_ℚ <ℚ change_along t j all
  raises =
      subst (λ v. zero_ℚ <ℚ change_along t j v) (last_is system t of some)
      (subst (λ q. zero_ℚ <ℚ q) (sym (basic z (objective_basic system t of some))) (rate_above (does_rise t j) refl))

  pub ray_of : IsVariableRay system (change_along t j)
  ray_of = record {
    rows = (of.table (change_along t j)).1 solves_it;
    lower = λ v l s. lower_at v l (subst (λ q. IsSome q.lower) (sym (limits_are system t of v l)) s);
    upper = λ v l s. upper_at v l (subst (λ q. IsSome q.upper) (sym (limits_are system t of v l)) s);
    raises = raises;
  }

pub free_ray_law : FreeRayLaw
free_ray_law system t j some of e = ray_of system t j some of e
