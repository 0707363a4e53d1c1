-- The way back of weights over a forcing row.
use Rattle.std.proofs.Common.{◌≡◌, ◌≢◌, ◌+◌, ◌<◌, ◌≤◌, refl, sym, ◌∙◌, ap, subst, ℕ, Bool, true, false, cond, ◌==◌, List, [], ◌∷◌, length, get_or, Option, Some, None, IsSome, is_some, arith, inl, inr, eq-eqb, ne_eqb}
use Rattle.std.specs.Prelude.{◌⊎◌, All, find}
use Rattle.std.proofs.lemmas.Bool.{cases_eq, cond-true, cond-false, and_parts, eqb-true}
use Rattle.std.proofs.lemmas.List.{get_or-set_same, get_or-set_other, length-set}
use Rattle.std.proofs.lemmas.List.Elements.{All-head, All-tail, All-nil, All-cons, All-weaker}
use Rattle.rational.specs.Rational.{ℚ, ◌+ℚ◌, ◌-ℚ◌, ◌*ℚ◌, ◌/ℚ◌, zero_ℚ, ◌≤ℚ◌}
use Rattle.rational.specs.Sum.{sum_over}
use Rattle.rational.specs.Linear.{Term, factor_of}
use Rattle.rational.proofs.Field.{x0, x1, x2, ◌:+◌, ◌:-◌, zero_of}
use Rattle.rational.proofs.Order.{le_refl_ℚ, le_by, le_of_lt_ℚ, mul-le_ℚ, nonneg_of_le, nonneg_is, nonneg-add}
use Rattle.lp_model.specs.Program.{IsForm}
use Rattle.lp_model.specs.Members.{column_form}
use Rattle.lp_model.proofs.Sets.{pairs_head, pairs_tail}
use Rattle.lp_model.specs.declared.members.Side.{Side}
use Rattle.lp_model.specs.declared.members.Side.TheVariants.{Lo, Up}
use Rattle.certs.specs.Checks.{every}
use Rattle.certs.specs.Combination.{number_or_zero}
use Rattle.certs.specs.Improves.{magnitude}
use Rattle.certs.specs.System.{Limits, LinearSystem, no_limits, empty_system_row, variable_form, variable_limits, limit_on}
use Rattle.certs.proofs.Sides.{all_both}
use Rattle.reductions.specs.declared.steps.Forcing.{Forcing as Forced}
use Rattle.reductions.specs.Limited.{opposite, is_side, turned, taken, taken_value, is_finite}
use Rattle.reductions.specs.Stage.{row_in, limits_in, without_row, with_limits}
use Rattle.reductions.specs.Reduction.{forced_limits}
use Rattle.reductions.specs.Back.{Weights, forced_side, forced_weight, forcing_times, forced_part, forced_or, forcing_before}
use Rattle.reductions.specs.Laws.{IsAsLarge, AreWeightsOf}
use Rattle.reductions.proofs.WeightSums.{IsOutside, AreApart, part_le}
use Rattle.reductions.proofs.WeightSides.{magnitude_positive, magnitude_some, over_nonnegative, quotient_times, side_same}
use Rattle.reductions.proofs.WeightForced.{column_of, outside_all, IsForcedTerm, forcing_sum}
use Rattle.reductions.proofs.WeightSystems.{form_by_columns, factor_at, limit_at, variables, column_form_at, column_limits_at, row_form_at, row_limits_at, variable_cases, nothing_there, WeightLaws, known_before, balance_from, right_from}

-- ---- terms of a form
outside_below : (v : ℕ) (terms : List Term) → All (λ t. v < t.column) terms → IsOutside column_of v terms
outside_below v [] h = tt
outside_below v (t ∷ terms) h =
    let l : v < t.column = All-head (λ t. v < t.column) t terms h in
    (λ e. absurd (omega arith), outside_below v terms (All-tail (λ t. v < t.column) t terms h))

outside_above : (n v : ℕ) (terms : List Term) → n ≤ v → All (λ t. t.column < n) terms → IsOutside column_of v terms
outside_above n v [] k h = tt
outside_above n v (t ∷ terms) k h =
    let l : t.column < n = All-head (λ t. t.column < n) t terms h in
    (λ e. absurd (omega arith), outside_above n v terms k (All-tail (λ t. t.column < n) t terms h))

-- the columns of a form are apart, below any number that they are below
form_apart : (n total : ℕ) (terms : List Term) → n ≤ total → IsForm n terms → AreApart column_of total terms
form_apart n total [] k h = tt
form_apart n total (t ∷ terms) k h =
    let l : t.column < n = All-head (λ t. t.column < n) t terms h.known in (
      omega arith,
      (
        outside_below t.column terms (pairs_head (λ s t. s.column < t.column) t terms h.ascending),
        form_apart n total terms k (record {
          ascending = pairs_tail (λ s t. s.column < t.column) t terms h.ascending;
          known = All-tail (λ t. t.column < n) t terms h.known;
          nonzero = All-tail (λ t. t.factor ≢ zero_ℚ) t terms h.nonzero;
        }),
      ),
    )

-- ---- the limits that are made
forced_rows : (system : LinearSystem) (sum : Side) (terms : List Term) → (forced_limits system sum terms).rows ≡ system.rows
forced_rows system sum [] = refl
forced_rows system sum (t ∷ terms) = forced_rows (with_limits t.column (record { lower = Some (taken_value system sum t); upper = Some (taken_value system sum t) }) system) sum terms

forced_other : (system : LinearSystem) (sum : Side) (terms : List Term) (v : ℕ) → IsOutside column_of v terms → limits_in (forced_limits system sum terms) v ≡ limits_in system v
forced_other system sum [] v o = refl
forced_other system sum (t ∷ terms) v o =
    forced_other (with_limits t.column (record { lower = Some (taken_value system sum t); upper = Some (taken_value system sum t) }) system) sum terms v o.1
    ∙ get_or-set_other system.columns t.column v _ no_limits o.0

forced_each : (system : LinearSystem) (sum : Side) (terms : List Term) → AreApart column_of (length system.columns) terms
    → All (λ t. limits_in (forced_limits system sum terms) t.column ≡ record { lower = Some (taken_value system sum t); upper = Some (taken_value system sum t) }) terms
forced_each system sum [] apart = All-nil (λ (t : Term). limits_in (forced_limits system sum []) t.column ≡ record { lower = Some (taken_value system sum t); upper = Some (taken_value system sum t) })
forced_each system sum (t ∷ terms) apart =
    let new : Limits = record { lower = Some (taken_value system sum t); upper = Some (taken_value system sum t) } in
    let next : LinearSystem = with_limits t.column new system in
    All-cons (λ k. limits_in (forced_limits system sum (t ∷ terms)) k.column ≡ record { lower = Some (taken_value system sum k); upper = Some (taken_value system sum k) }) t terms
    (forced_other next sum terms t.column apart.1.0 ∙ get_or-set_same system.columns t.column new no_limits apart.0)
    (All-weaker (λ k. (t.column ≢ k.column) × (limits_in (forced_limits next sum terms) k.column ≡ record { lower = Some (taken_value next sum k); upper = Some (taken_value next sum k) }))
    (λ k. limits_in (forced_limits next sum terms) k.column ≡ record { lower = Some (taken_value system sum k); upper = Some (taken_value system sum k) })
    (λ k h. h.1 ∙ ap (λ l. record { lower = Some (number_or_zero (limit_on l (turned k.factor sum))); upper = Some (number_or_zero (limit_on l (turned k.factor sum))) }) (get_or-set_other system.columns t.column k.column new no_limits (λ q. h.0 (sym q)))) terms
    (all_both (λ k. t.column ≢ k.column) (λ k. limits_in (forced_limits next sum terms) k.column ≡ record { lower = Some (taken_value next sum k); upper = Some (taken_value next sum k) }) terms (outside_all t.column terms apart.1.0)
    (forced_each next sum terms (subst (λ n. AreApart column_of n terms) (sym (length-set system.columns t.column new)) apart.1.1))))

-- where a sum is finite each limit that it takes is there
pub every_all : {A : Type 0} (test : A → Bool) (xs : List A) → every test xs ≡ true → All (λ a. test a ≡ true) xs
every_all test [] e = All-nil (λ a. test a ≡ true)
every_all test (a ∷ xs) e = All-cons (λ a. test a ≡ true) a xs (and_parts (test a) (every test xs) e).0 (every_all test xs (and_parts (test a) (every test xs) e).1)

-- what is found passes the test and is in the list
found_term : (terms : List Term) (P : Term → Type 0) (v : ℕ) (t : Term) → All P terms → find (λ t. t.column == v) terms ≡ Some t → P t × (t.column ≡ v)
found_term [] P v t h e = absurd (let z : ◌≡◌ {A = Option Term} None (Some t) = e in cc)
found_term (s ∷ terms) P v t h e = by (found_term terms P v t (All-tail P s terms h)) (s.column == v) refl e
  where
    by : (find (λ t. t.column == v) terms ≡ Some t → P t × (t.column ≡ v)) → (b : Bool) → (s.column == v) ≡ b → cond b (Some s) (find (λ t. t.column == v) terms) ≡ Some t → P t × (t.column ≡ v)
    by rest true q e = (let same : s ≡ t = cc in subst (λ z. P z × (z.column ≡ v)) same (All-head P s terms h, eqb-true s.column v q))
    by rest false q e = rest e

none_outside : (terms : List Term) (v : ℕ) → find (λ t. t.column == v) terms ≡ None → IsOutside column_of v terms
none_outside [] v e = tt
none_outside (s ∷ terms) v e = by (none_outside terms v) (cases_eq s.column v)
  where
    by : (find (λ t. t.column == v) terms ≡ None → IsOutside column_of v terms) → (s.column ≡ v) ⊎ (s.column ≢ v) → IsOutside column_of v (s ∷ terms)
    by rest (inl q) = absurd (let z : ◌≡◌ {A = Option Term} (Some s) None = sym (cond-true (s.column == v) (Some s) _ (eq-eqb s.column v q)) ∙ e in cc)
    by rest (inr q) = (λ k. q (sym k), rest (sym (cond-false (s.column == v) (Some s) _ (ne_eqb s.column v q)) ∙ e))

module _ (system : LinearSystem) (i : ℕ) (side : Side) (here : i < length system.rows) (form : IsForm (length system.columns) (row_in system i).terms)
    (finite : is_finite system (opposite side) (row_in system i).terms ≡ true)
    (met : limit_on (row_in system i).limits side ≡ Some (sum_over (λ t. t.factor *ℚ taken_value system (opposite side) t) (row_in system i).terms)) where
  abbrev n : ℕ
  n = length system.columns

  abbrev terms : List Term
  terms = (row_in system i).terms

  abbrev pub forced_of : Forced
  forced_of = record { row = i; side = side; terms = (row_in system i).terms }

  abbrev f : Forced
  f = forced_of

  abbrev middle : LinearSystem
  middle = forced_limits system (opposite side) terms

  abbrev other : LinearSystem
  other = without_row i middle

  abbrev value : Term → ℚ
  value = taken_value system (opposite side)

  apart : AreApart column_of (variables system) terms
  apart = form_apart n (variables system) terms (omega arith) form

  outside : IsOutside column_of (n + i) terms
  outside = outside_above n (n + i) terms (omega arith) form.known

  row_below : n + i < variables system
  row_below = let l : i < length system.rows = here in omega arith

  row_gone : row_in other i ≡ empty_system_row
  row_gone = get_or-set_same middle.rows i empty_system_row empty_system_row (subst (λ z. i < length z) (sym (forced_rows system (opposite side) terms)) here)

  row_kept : (r : ℕ) → r ≢ i → row_in other r ≡ row_in system r
  row_kept r h = get_or-set_other middle.rows i r empty_system_row empty_system_row h ∙ ap (λ z. get_or z r empty_system_row) (forced_rows system (opposite side) terms)

  -- ---- forms and limits at the variables
  form_kept : length other.columns ≡ n → (v : ℕ) → v < variables system → v ≢ n + i → variable_form system v ≡ variable_form other v
  form_kept e =
      variable_cases n (length system.rows) (λ v. v ≢ n + i → variable_form system v ≡ variable_form other v)
      (λ j l h. column_form_at system n refl j l ∙ sym (column_form_at other n e j l))
      (λ r l h. row_form_at system n refl r ∙ ap (λ z. z.terms) (sym (row_kept r (λ q. h (ap (λ z. n + z) q)))) ∙ sym (row_form_at other n e r))

  limits_kept : length other.columns ≡ n → (v : ℕ) → v < variables system → v ≢ n + i → IsOutside column_of v terms → variable_limits system v ≡ variable_limits other v
  limits_kept e =
      variable_cases n (length system.rows) (λ v. v ≢ n + i → IsOutside column_of v terms → variable_limits system v ≡ variable_limits other v)
      (λ j l h o. column_limits_at system n refl j l ∙ sym (column_limits_at other n e j l ∙ forced_other system (opposite side) terms j o))
      (λ r l h o. row_limits_at system n refl r ∙ ap (λ z. z.limits) (sym (row_kept r (λ q. h (ap (λ z. n + z) q)))) ∙ sym (row_limits_at other n e r))

  row_limit : limit_on (variable_limits system (n + i)) side ≡ Some (sum_over (λ t. t.factor *ℚ value t) terms)
  row_limit = ap (λ z. limit_on z side) (row_limits_at system n refl i) ∙ met

  row_unlimited : length other.columns ≡ n → (k : Side) → limit_on (variable_limits other (n + i)) k ≡ None
  row_unlimited e Lo = ap (λ z. z.lower) (row_limits_at other n e i) ∙ ap (λ z. z.limits.lower) row_gone
  row_unlimited e Up = ap (λ z. z.upper) (row_limits_at other n e i) ∙ ap (λ z. z.limits.upper) row_gone

  -- what is known of each term
  record IsTermOf (t : Term) : Type 0 where
    known : t.column < n
    some : t.factor ≢ zero_ℚ
    after : limits_in middle t.column ≡ record { lower = Some (value t); upper = Some (value t) }
    there : IsSome (taken system (opposite side) t)

  each : All IsTermOf terms
  each =
      All-weaker (λ t. ((t.column < n) × (t.factor ≢ zero_ℚ)) × ((limits_in middle t.column ≡ record { lower = Some (value t); upper = Some (value t) }) × (is_some (taken system (opposite side) t) ≡ true))) IsTermOf
      (λ t h. record { known = h.0.0; some = h.0.1; after = h.1.0; there = h.1.1 }) terms
      (all_both (λ t. (t.column < n) × (t.factor ≢ zero_ℚ)) (λ t. (limits_in middle t.column ≡ record { lower = Some (value t); upper = Some (value t) }) × (is_some (taken system (opposite side) t) ≡ true)) terms
      (all_both (λ t. t.column < n) (λ t. t.factor ≢ zero_ℚ) terms form.known form.nonzero)
      (all_both (λ t. limits_in middle t.column ≡ record { lower = Some (value t); upper = Some (value t) }) (λ t. is_some (taken system (opposite side) t) ≡ true) terms
      (forced_each system (opposite side) terms (form_apart n n terms (omega arith) form)) (every_all (λ t. is_some (taken system (opposite side) t)) terms finite)))

  both_values : (q : ℚ) (k : Side) → limit_on (record { lower = Some q; upper = Some q }) k ≡ Some q
  both_values q Lo = refl
  both_values q Up = refl

  after_limit : length other.columns ≡ n → (t : Term) → IsTermOf t → (k : Side) → limit_on (variable_limits other t.column) k ≡ Some (value t)
  after_limit e t h k = ap (λ z. limit_on z k) (column_limits_at other n e t.column h.known ∙ h.after) ∙ both_values (value t) k

  module _ (large : IsAsLarge system other) (w : Weights) (h : AreWeightsOf other w) where
    gone : (k : Side) → w k (n + i) ≡ zero_ℚ
    gone k = nothing_there other w h k (n + i) (row_unlimited large.columns k)

    factor_terms : (k : ℕ) → All (IsForcedTerm n (variables system) f w (factor_at system k) (factor_at other k) (λ t. factor_of (column_form t.column) k) (factor_of terms k)) terms
    factor_terms k =
        All-weaker IsTermOf (IsForcedTerm n (variables system) f w (factor_at system k) (factor_at other k) (λ t. factor_of (column_form t.column) k) (factor_of terms k))
        (λ t p. record {
          some = p.some;
          after = λ s. ap (λ z. factor_of z k) (column_form_at other n large.columns t.column p.known);
          before = ap (λ z. factor_of z k) (column_form_at system n refl t.column p.known);
        }) terms each

    limit_terms : All (IsForcedTerm n (variables system) f w (limit_at system) (limit_at other) value (sum_over (λ t. t.factor *ℚ value t) terms)) terms
    limit_terms =
        All-weaker IsTermOf (IsForcedTerm n (variables system) f w (limit_at system) (limit_at other) value (sum_over (λ t. t.factor *ℚ value t) terms))
        (λ t p. record {
          some = p.some;
          after = λ s. ap number_or_zero (after_limit large.columns t p s);
          before = ap (λ z. number_or_zero (limit_on z (forced_side f t))) (column_limits_at system n refl t.column p.known);
        }) terms each

    abbrev b : Weights
    b = forcing_before n f w

    abbrev u : ℚ
    u = forcing_times f w

    -- no quotient is above their sum
    quotients : (zero_ℚ ≤ℚ u) × All (λ t. forced_weight f w t /ℚ magnitude t.factor ≤ℚ u) terms
    quotients = part_le IsTermOf (λ t. forced_weight f w t /ℚ magnitude t.factor) (λ t p. over_nonnegative (forced_weight f w t) t.factor p.some (h.nonnegative (opposite (forced_side f t)) t.column)) terms each

    weight_le : (t : Term) → IsTermOf t → forced_weight f w t /ℚ magnitude t.factor ≤ℚ u → forced_weight f w t ≤ℚ magnitude t.factor *ℚ u
    weight_le t p l =
        subst (λ z. z ≤ℚ magnitude t.factor *ℚ u) (quotient_times (forced_weight f w t) (magnitude t.factor) (magnitude_some t.factor p.some))
        (mul-le_ℚ (le_of_lt_ℚ (magnitude_positive t.factor p.some)) l)

    -- ---- the weights, by the place of a variable
    by_found : (P : ℕ → ℚ → Type 0) (k : Side) → ((t : Term) → IsTermOf t → forced_weight f w t /ℚ magnitude t.factor ≤ℚ u → P t.column (forced_part f w k t)) → (v : ℕ) → (IsOutside column_of v terms → P v (w k v))
        → (o : Option Term) → find (λ t. t.column == v) terms ≡ o → P v (forced_or f w k v o)
    by_found P k p v q None e = q (none_outside terms v e)
    by_found P k p v q (Some t) e =
        let found : (IsTermOf t × (forced_weight f w t /ℚ magnitude t.factor ≤ℚ u)) × (t.column ≡ v) =
        found_term terms (λ t. IsTermOf t × (forced_weight f w t /ℚ magnitude t.factor ≤ℚ u)) v t (all_both IsTermOf (λ t. forced_weight f w t /ℚ magnitude t.factor ≤ℚ u) terms each quotients.1) e in
        subst (λ z. P z (forced_part f w k t)) found.1 (p t found.0.0 found.0.1)

    places : (P : ℕ → ℚ → Type 0) (k : Side) → P (n + i) (cond (is_side k side) u zero_ℚ) → ((t : Term) → IsTermOf t → forced_weight f w t /ℚ magnitude t.factor ≤ℚ u → P t.column (forced_part f w k t))
        → ((v : ℕ) → v ≢ n + i → IsOutside column_of v terms → P v (w k v)) → (v : ℕ) → P v (b k v)
    places P k p q o v =
        elim (cases_eq v (n + i)) [
          | inl e ↦ subst (λ z. P z (b k z)) (sym e) (subst (λ z. P (n + i) z) (sym (cond-true (n + i == n + i) _ _ (eq-eqb (n + i) (n + i) refl))) p)
          | inr e ↦ subst (λ z. P v z) (sym (cond-false (v == n + i) _ _ (ne_eqb v (n + i) e))) (by_found P k q v (o v e) (find (λ t. t.column == v) terms) refl)
        ]

    part_nonnegative : (k : Side) (t : Term) → IsTermOf t → forced_weight f w t /ℚ magnitude t.factor ≤ℚ u → zero_ℚ ≤ℚ forced_part f w k t
    part_nonnegative k t p l = by (is_side k (forced_side f t))
      where
        by : (a : Bool) → zero_ℚ ≤ℚ cond a (w k t.column +ℚ (magnitude t.factor *ℚ u -ℚ forced_weight f w t)) zero_ℚ
        by true =
            le_by (w k t.column ∷ (magnitude t.factor *ℚ u) ∷ forced_weight f w t ∷ []) zero_of (x0 :+ (x1 :- x2)) (x0 :+ (x1 :- x2)) (nonneg-add (nonneg_is.0 (h.nonnegative k t.column)) (nonneg_of_le (weight_le t p l))) tt
        by false = le_refl_ℚ zero_ℚ

    part_there : (k : Side) (t : Term) → IsTermOf t → forced_part f w k t ≢ zero_ℚ → IsSome (limit_on (variable_limits system t.column) k)
    part_there k t p = by (is_side k (forced_side f t)) refl
      where
        by : (a : Bool) → is_side k (forced_side f t) ≡ a → cond a (w k t.column +ℚ (magnitude t.factor *ℚ u -ℚ forced_weight f w t)) zero_ℚ ≢ zero_ℚ → IsSome (limit_on (variable_limits system t.column) k)
        by true e z = subst (λ l. IsSome (limit_on l k)) (sym (column_limits_at system n refl t.column p.known)) (subst (λ z. IsSome (limit_on (limits_in system t.column) z)) (sym (side_same k (forced_side f t) e)) p.there)
        by false e z = absurd (z refl)

    row_nonnegative : (k : Side) → zero_ℚ ≤ℚ cond (is_side k side) u zero_ℚ
    row_nonnegative k = by (is_side k side)
      where
        by : (a : Bool) → zero_ℚ ≤ℚ cond a u zero_ℚ
        by true = quotients.0
        by false = le_refl_ℚ zero_ℚ

    row_there : (k : Side) → cond (is_side k side) u zero_ℚ ≢ zero_ℚ → IsSome (limit_on (variable_limits system (n + i)) k)
    row_there k = by (is_side k side) refl
      where
        by : (a : Bool) → is_side k side ≡ a → cond a u zero_ℚ ≢ zero_ℚ → IsSome (limit_on (variable_limits system (n + i)) k)
        by true e z = subst (λ s. IsSome (limit_on (variable_limits system (n + i)) s)) (sym (side_same k side e)) (ap is_some row_limit)
        by false e z = absurd (z refl)

    forcing_weights : AreWeightsOf system b
    forcing_weights = record {
      nonnegative = λ k. places (λ v q. zero_ℚ ≤ℚ q) k (row_nonnegative k) (part_nonnegative k) (λ v e o. h.nonnegative k v);
      known = λ k. places (λ v q. q ≢ zero_ℚ → v < variables system) k (λ z. row_below) (λ t p l z. (let m : t.column < n = p.known in omega arith)) (λ v e o z. known_before system other large w h k v z);
      there = λ k. places (λ v q. q ≢ zero_ℚ → IsSome (limit_on (variable_limits system v) k)) k (row_there k) (λ t p l. part_there k t p)
          (λ v e o z. subst (λ l. IsSome (limit_on l k)) (sym (limits_kept large.columns v (known_before system other large w h k v z) e o)) (h.there k v z));
    }

  pub forcing_laws : IsAsLarge system other → WeightLaws system other (forcing_before n f)
  forcing_laws large = record {
    weights = λ w h. forcing_weights large w h;
    balance_is = λ w h k. balance_from system other large (forcing_before n f w) w k
        (forcing_sum n (variables system) f w (factor_at system k) (factor_at other k) (λ t. factor_of (column_form t.column) k) (factor_of terms k) row_below apart outside (factor_terms large w h k)
        (λ v l e o s. ap (λ z. factor_of z k) (form_kept large.columns v l e)) (ap (λ z. factor_of z k) (row_form_at system n refl i)) (gone large w h) (form_by_columns terms k));
    right_is = λ w h. right_from system other large (forcing_before n f w) w
        (forcing_sum n (variables system) f w (limit_at system) (limit_at other) value (sum_over (λ t. t.factor *ℚ value t) terms) row_below apart outside (limit_terms large w h)
        (λ v l e o s. ap (λ z. number_or_zero (limit_on z s)) (limits_kept large.columns v l e o)) (ap number_or_zero row_limit) (gone large w h) refl);
  }
