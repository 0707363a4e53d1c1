-- The way back of weights over an equation of two columns.
use Rattle.std.proofs.Common.{◌≡◌, ◌≢◌, ◌+◌, ◌<◌, refl, sym, ◌∙◌, ap, subst, ℕ, Bool, true, false, true≢false, cond, ◌==◌, ltb, List, [], ◌∷◌, length, filter, set, Option, Some, None, IsSome, is_some, arith, inl, inr, eq-eqb, ne_eqb}
use Rattle.std.specs.Prelude.{◌⊎◌}
use Rattle.std.specs.Option.{option_map}
use Rattle.std.proofs.lemmas.Bool.{cases_eq, cond-true, cond-false, ltb-true, ltb-false}
use Rattle.std.proofs.lemmas.List.{get_or-set_same, get_or-set_other, get_or-map, length-set}
use Rattle.rational.specs.Rational.{ℚ, ◌+ℚ◌, ◌-ℚ◌, ◌*ℚ◌, ◌/ℚ◌, inv_ℚ, zero_ℚ, one_ℚ, eq_ℚ, ◌≤ℚ◌}
use Rattle.rational.specs.Sum.{sum_over, sum_below}
use Rattle.rational.specs.Linear.{Term, factor_of}
use Rattle.rational.proofs.Field.{ring_ℚ, ring_by_ℚ, mul-inv_ℚ, x0, x1, x2, ◌:+◌, ◌:-◌, ◌:*◌, zero_of, unit_of}
use Rattle.rational.proofs.Sums.{sum_over-append}
use Rattle.rational.proofs.Compare.{eq-Decides}
use Rattle.lp_model.specs.declared.members.Side.{Side}
use Rattle.lp_model.specs.declared.members.Side.TheVariants.{Lo, Up}
use Rattle.certs.specs.Combination.{number_or_zero}
use Rattle.certs.specs.Improves.{magnitude}
use Rattle.certs.specs.System.{Limits, SystemRow, LinearSystem, no_limits, empty_system_row, variable_limits, limit_on}
use Rattle.reductions.specs.declared.steps.Doubleton.{Doubleton as Pair}
use Rattle.reductions.specs.Limited.{is_tighter, tightened_by, map_limits}
use Rattle.reductions.specs.Stage.{row_in, limits_in, without_row}
use Rattle.reductions.specs.Rules.{changes_from, objective_factor, pair_side, pair_limit, pair_maker}
use Rattle.reductions.specs.Reduction.{without_column, term_of, with_factor, pair_terms, pair_row, pair_system}
use Rattle.reductions.specs.Back.{Weights, part_on, by_maker, unless_made, maker, taken_of, lower_quotient, upper_quotient, equation_times, pair_before}
use Rattle.reductions.specs.Laws.{IsAsLarge, AreWeightsOf}
use Rattle.reductions.proofs.WeightSides.{by_maker_nonnegative, unless_nonnegative, magnitude_nonnegative, part_nonnegative, quotient_times}
use Rattle.reductions.proofs.WeightMoves.{taken_at, net_times}
use Rattle.reductions.proofs.WeightPairs.{IsPairMade, pair_sum}
use Rattle.reductions.proofs.WeightRows.{gone_row, other_row, made_side, unmade, tighter_there, tightened_on, mapped_there}
use Rattle.reductions.proofs.WeightChanges.{times_of, times_column, times_row, taken-sum, changed_limit, changed_there, changed_factor, without-factor}
use Rattle.reductions.proofs.WeightSystems.{factor_at, limit_at, variables, column_form_at, column_limits_at, row_form_at, row_limits_at, variable_cases, nothing_there, WeightLaws, known_before, balance_from, right_from}

-- ---- terms with another factor of a column
absent : (t : Term) (k : ℕ) → t.column ≢ k → cond (t.column == k) t.factor zero_ℚ ≡ zero_ℚ
absent t k h = cond-false (t.column == k) t.factor zero_ℚ (ne_eqb t.column k h)

-- those before the column and those after it
around-factor : (j : ℕ) (terms : List Term) (k : ℕ)
    → factor_of (filter (λ t. ltb t.column j) terms) k +ℚ factor_of (filter (λ t. ltb j t.column) terms) k ≡ cond (j == k) zero_ℚ (factor_of terms k)
around-factor j [] k = by (j == k)
  where
    by : (b : Bool) → zero_ℚ +ℚ zero_ℚ ≡ cond b zero_ℚ zero_ℚ
    by true = ring_ℚ [] (zero_of :+ zero_of) zero_of tt
    by false = ring_ℚ [] (zero_of :+ zero_of) zero_of tt
around-factor j (t ∷ terms) k = by (ltb t.column j) (ltb j t.column) refl refl (cases_eq j k) (around-factor j terms k)
  where
    by : (a b : Bool) → ltb t.column j ≡ a → ltb j t.column ≡ b → (j ≡ k) ⊎ (j ≢ k)
        → factor_of (filter (λ t. ltb t.column j) terms) k +ℚ factor_of (filter (λ t. ltb j t.column) terms) k ≡ cond (j == k) zero_ℚ (factor_of terms k)
        → factor_of (cond a (t ∷ filter (λ t. ltb t.column j) terms) (filter (λ t. ltb t.column j) terms)) k
        +ℚ factor_of (cond b (t ∷ filter (λ t. ltb j t.column) terms) (filter (λ t. ltb j t.column) terms)) k
        ≡ cond (j == k) zero_ℚ (cond (t.column == k) t.factor zero_ℚ +ℚ factor_of terms k)
    by true true p q c h = absurd (let l : t.column < j = ltb-true t.column j p in let m : j < t.column = ltb-true j t.column q in omega arith)
    by true false p q (inl e) h =
        let l : t.column < j = ltb-true t.column j p in
        ap (λ z. (z +ℚ factor_of (filter (λ t. ltb t.column j) terms) k) +ℚ factor_of (filter (λ t. ltb j t.column) terms) k) (absent t k (λ r. absurd (omega arith)))
        ∙ ring_ℚ (factor_of (filter (λ t. ltb t.column j) terms) k ∷ factor_of (filter (λ t. ltb j t.column) terms) k ∷ []) ((zero_of :+ x0) :+ x1) (x0 :+ x1) tt
        ∙ h ∙ cond-true (j == k) zero_ℚ _ (eq-eqb j k e) ∙ sym (cond-true (j == k) zero_ℚ _ (eq-eqb j k e))
    by true false p q (inr e) h =
        ring_ℚ (cond (t.column == k) t.factor zero_ℚ ∷ factor_of (filter (λ t. ltb t.column j) terms) k ∷ factor_of (filter (λ t. ltb j t.column) terms) k ∷ []) ((x0 :+ x1) :+ x2) (x0 :+ (x1 :+ x2)) tt
        ∙ ap (λ z. cond (t.column == k) t.factor zero_ℚ +ℚ z) (h ∙ cond-false (j == k) zero_ℚ _ (ne_eqb j k e)) ∙ sym (cond-false (j == k) zero_ℚ _ (ne_eqb j k e))
    by false true p q (inl e) h =
        let l : j < t.column = ltb-true j t.column q in
        ap (λ z. factor_of (filter (λ t. ltb t.column j) terms) k +ℚ (z +ℚ factor_of (filter (λ t. ltb j t.column) terms) k)) (absent t k (λ r. absurd (omega arith)))
        ∙ ring_ℚ (factor_of (filter (λ t. ltb t.column j) terms) k ∷ factor_of (filter (λ t. ltb j t.column) terms) k ∷ []) (x0 :+ (zero_of :+ x1)) (x0 :+ x1) tt
        ∙ h ∙ cond-true (j == k) zero_ℚ _ (eq-eqb j k e) ∙ sym (cond-true (j == k) zero_ℚ _ (eq-eqb j k e))
    by false true p q (inr e) h =
        ring_ℚ (cond (t.column == k) t.factor zero_ℚ ∷ factor_of (filter (λ t. ltb t.column j) terms) k ∷ factor_of (filter (λ t. ltb j t.column) terms) k ∷ []) (x1 :+ (x0 :+ x2)) (x0 :+ (x1 :+ x2)) tt
        ∙ ap (λ z. cond (t.column == k) t.factor zero_ℚ +ℚ z) (h ∙ cond-false (j == k) zero_ℚ _ (ne_eqb j k e)) ∙ sym (cond-false (j == k) zero_ℚ _ (ne_eqb j k e))
    by false false p q (inl e) h = h ∙ cond-true (j == k) zero_ℚ _ (eq-eqb j k e) ∙ sym (cond-true (j == k) zero_ℚ _ (eq-eqb j k e))
    by false false p q (inr e) h =
        let l = ltb-false t.column j p in
        let m = ltb-false j t.column q in
        h ∙ cond-false (j == k) zero_ℚ _ (ne_eqb j k e) ∙ ring_ℚ (factor_of terms k ∷ []) x0 (zero_of :+ x0) tt
        ∙ ap (λ z. z +ℚ factor_of terms k) (sym (absent t k (λ r. e (let g : j ≡ k = omega arith in g)))) ∙ sym (cond-false (j == k) zero_ℚ _ (ne_eqb j k e))

term-factor : (j : ℕ) (q : ℚ) (k : ℕ) → factor_of (term_of j q) k ≡ cond (j == k) q zero_ℚ
term-factor j q k = by (eq_ℚ q zero_ℚ) (j == k) refl
  where
    by : (a b : Bool) → eq_ℚ q zero_ℚ ≡ a → sum_over (λ (t : Term). cond (t.column == k) t.factor zero_ℚ) (cond a [] (record { column = j; factor = q } ∷ [])) ≡ cond (j == k) q zero_ℚ
    by true b e = other (j == k) ((eq-Decides q zero_ℚ).0 e)
      where
        other : (b : Bool) → q ≡ zero_ℚ → zero_ℚ ≡ cond b q zero_ℚ
        other true z = sym z
        other false z = refl
    by false b e = ring_ℚ (cond (j == k) q zero_ℚ ∷ []) (x0 :+ zero_of) x0 tt

with-factor : (j : ℕ) (q : ℚ) (terms : List Term) (k : ℕ) → factor_of (with_factor j q terms) k ≡ cond (j == k) q (factor_of terms k)
with-factor j q terms k =
    sum_over-append (λ t. cond (t.column == k) t.factor zero_ℚ) (filter (λ t. ltb t.column j) terms) _
    ∙ ap (λ z. factor_of (filter (λ t. ltb t.column j) terms) k +ℚ z) (sum_over-append (λ t. cond (t.column == k) t.factor zero_ℚ) (term_of j q) (filter (λ t. ltb j t.column) terms))
    ∙ ring_ℚ (factor_of (filter (λ t. ltb t.column j) terms) k ∷ factor_of (term_of j q) k ∷ factor_of (filter (λ t. ltb j t.column) terms) k ∷ []) (x0 :+ (x1 :+ x2)) (x1 :+ (x0 :+ x2)) tt
    ∙ ap (λ z. z +ℚ (factor_of (filter (λ t. ltb t.column j) terms) k +ℚ factor_of (filter (λ t. ltb j t.column) terms) k)) (term-factor j q k)
    ∙ ap (λ z. cond (j == k) q zero_ℚ +ℚ z) (around-factor j terms k)
    ∙ by (j == k)
  where
    by : (b : Bool) → cond b q zero_ℚ +ℚ cond b zero_ℚ (factor_of terms k) ≡ cond b q (factor_of terms k)
    by true = ring_ℚ (q ∷ []) (x0 :+ zero_of) x0 tt
    by false = ring_ℚ (factor_of terms k ∷ []) (zero_of :+ x0) x0 tt

zero_over : (b : ℚ) → zero_ℚ /ℚ b ≡ zero_ℚ
zero_over b = ring_ℚ (inv_ℚ b ∷ []) (zero_of :* x0) zero_of tt

module _ (system : LinearSystem) (i : ℕ) (s t : Term) (c : ℚ) (here : i < length system.rows) (terms_are : (row_in system i).terms ≡ s ∷ t ∷ [])
    (lower_is : (row_in system i).limits.lower ≡ Some c) (upper_is : (row_in system i).limits.upper ≡ Some c)
    (known_x : s.column < length system.columns) (known_y : t.column < length system.columns) (apart : t.column ≢ s.column) (some_x : s.factor ≢ zero_ℚ) (some_y : t.factor ≢ zero_ℚ) where
  abbrev n : ℕ
  n = length system.columns

  abbrev of_x : Limits
  of_x = limits_in system s.column

  abbrev of_y : Limits
  of_y = limits_in system t.column

  abbrev new : Side → Option ℚ
  new = pair_limit of_y s.factor t.factor c

  abbrev made : Side → Option Side
  made = pair_maker of_x of_y s.factor t.factor c

  abbrev pub pair_of : Pair
  pair_of = record {
    row = i;
    x = s.column;
    y = t.column;
    a = s.factor;
    b = t.factor;
    c = c;
    lower = pair_maker (limits_in system s.column) (limits_in system t.column) s.factor t.factor c Lo;
    upper = pair_maker (limits_in system s.column) (limits_in system t.column) s.factor t.factor c Up;
    changes = changes_from t.column (λ g. g /ℚ t.factor) 0 (without_row i system).rows;
    objective = objective_factor system.objective t.column /ℚ t.factor;
  }

  abbrev d : Pair
  d = pair_of

  abbrev other : LinearSystem
  other = pair_system d system

  abbrev rows : List SystemRow
  rows = (without_row i system).rows

  abbrev f : ℚ → ℚ
  f g = g /ℚ t.factor

  abbrev times : ℕ → ℚ
  times = times_of n rows t.column f

  abbrev factor : ℕ → ℚ
  factor r = factor_of (row_in system r).terms t.column

  rows_length : length rows ≡ length system.rows
  rows_length = length-set system.rows i empty_system_row

  row_is : (r : ℕ) → r < length system.rows → r ≢ i → row_in other r ≡ pair_row d (row_in system r)
  row_is r l h = get_or-map (pair_row d) rows r empty_system_row empty_system_row (subst (λ z. r < z) (sym rows_length) l) ∙ ap (pair_row d) (other_row system i here r h)

  times_at : (r : ℕ) → r ≢ i → times (n + r) ≡ f (factor r)
  times_at r h = times_row n rows t.column f r ∙ ap (λ z. f (factor_of z.terms t.column)) (other_row system i here r h)

  times_own : times (n + i) ≡ zero_ℚ
  times_own = times_row n rows t.column f i ∙ ap (λ z. f (factor_of z.terms t.column)) (gone_row system i here) ∙ zero_over t.factor

  row_unlimited : (side : Side) → limit_on (row_in other i).limits side ≡ None
  row_unlimited side =
      ap (λ z. limit_on z.limits side) (get_or-map (pair_row d) rows i empty_system_row empty_system_row (subst (λ z. i < z) (sym rows_length) here) ∙ ap (pair_row d) (gone_row system i here))
      ∙ by (eq_ℚ (factor_of [] t.column) zero_ℚ) side
    where
      by : (b : Bool) (side : Side) → limit_on (cond b empty_system_row (record { terms = pair_terms d []; limits = map_limits (λ s. s -ℚ (factor_of [] t.column /ℚ t.factor) *ℚ c) no_limits })).limits side ≡ None
      by true Lo = refl
      by true Up = refl
      by false Lo = refl
      by false Up = refl

  -- ---- columns
  column_kept : length other.columns ≡ n → (v : ℕ) → v < n → v ≢ t.column → v ≢ s.column → variable_limits other v ≡ variable_limits system v
  column_kept e v l h k =
      column_limits_at other n e v l ∙ get_or-set_other (set system.columns s.column (tightened_by new of_x)) t.column v no_limits no_limits h
      ∙ get_or-set_other system.columns s.column v (tightened_by new of_x) no_limits k ∙ sym (column_limits_at system n refl v l)

  x_limits : length other.columns ≡ n → variable_limits other s.column ≡ tightened_by new of_x
  x_limits e =
      column_limits_at other n e s.column known_x ∙ get_or-set_other (set system.columns s.column (tightened_by new of_x)) t.column s.column no_limits no_limits (λ q. apart (sym q))
      ∙ get_or-set_same system.columns s.column (tightened_by new of_x) no_limits known_x

  y_limits : length other.columns ≡ n → variable_limits other t.column ≡ no_limits
  y_limits e =
      column_limits_at other n e t.column known_y
      ∙ get_or-set_same (set system.columns s.column (tightened_by new of_x)) t.column no_limits no_limits (subst (λ z. t.column < z) (sym (length-set system.columns s.column (tightened_by new of_x))) known_y)

  row_below : n + i < variables system
  row_below = let l : i < length system.rows = here in omega arith

  x_below : s.column < variables system
  x_below = let l : s.column < n = known_x in omega arith

  y_below : t.column < variables system
  y_below = let l : t.column < n = known_y in omega arith

  row_y : n + i ≢ t.column
  row_y e = let l : t.column < n = known_y in omega arith

  row_x : n + i ≢ s.column
  row_x e = let l : s.column < n = known_x in omega arith

  limit_is : (side : Side) → limit_on (variable_limits system (n + i)) side ≡ Some c
  limit_is Lo = ap (λ z. z.lower) (row_limits_at system n refl i) ∙ lower_is
  limit_is Up = ap (λ z. z.upper) (row_limits_at system n refl i) ∙ upper_is

  -- ---- forms: what is left when the equation is taken away
  form_left : (terms : List Term) (k : ℕ) → factor_of terms k ≡ factor_of (pair_terms d terms) k +ℚ f (factor_of terms t.column) *ℚ factor_of (s ∷ t ∷ []) k
  form_left terms k = by (eq_ℚ (factor_of terms t.column) zero_ℚ) refl
    where
      left : (s.column ≡ k) ⊎ (s.column ≢ k) → (t.column ≡ k) ⊎ (t.column ≢ k) → factor_of terms k
          ≡ factor_of (with_factor s.column (factor_of terms s.column -ℚ f (factor_of terms t.column) *ℚ s.factor) (without_column t.column terms)) k +ℚ f (factor_of terms t.column) *ℚ factor_of (s ∷ t ∷ []) k
      left (inl e) (inl g) = absurd (apart (g ∙ sym e))
      left (inl e) (inr g) =
          let q : ℚ = f (factor_of terms t.column) in
          ap (factor_of terms) (sym e)
          ∙ ring_ℚ (factor_of terms s.column ∷ q ∷ s.factor ∷ []) x0 ((x0 :- x1 :* x2) :+ x1 :* (x2 :+ (zero_of :+ zero_of))) tt
          ∙ ap (λ z. z +ℚ q *ℚ (s.factor +ℚ (zero_ℚ +ℚ zero_ℚ))) (sym (with-factor s.column (factor_of terms s.column -ℚ q *ℚ s.factor) (without_column t.column terms) k ∙ cond-true (s.column == k) _ _ (eq-eqb s.column k e)))
          ∙ ap (λ z. factor_of (with_factor s.column (factor_of terms s.column -ℚ q *ℚ s.factor) (without_column t.column terms)) k +ℚ q *ℚ (z +ℚ (zero_ℚ +ℚ zero_ℚ))) (sym (cond-true (s.column == k) s.factor zero_ℚ (eq-eqb s.column k e)))
          ∙ ap (λ z. factor_of (with_factor s.column (factor_of terms s.column -ℚ q *ℚ s.factor) (without_column t.column terms)) k +ℚ q *ℚ (cond (s.column == k) s.factor zero_ℚ +ℚ (z +ℚ zero_ℚ))) (sym (absent t k g))
      left (inr e) (inl g) =
          let q : ℚ = f (factor_of terms t.column) in
          ap (factor_of terms) (sym g)
          ∙ ring_by_ℚ (factor_of terms t.column ∷ inv_ℚ t.factor ∷ t.factor ∷ []) x0 (zero_of :+ (x0 :* x1) :* (zero_of :+ (x2 :+ zero_of))) (zero_of :- x0) (x2 :* x1) unit_of (mul-inv_ℚ t.factor some_y) tt
          ∙ ap (λ z. z +ℚ q *ℚ (zero_ℚ +ℚ (t.factor +ℚ zero_ℚ)))
          (sym (with-factor s.column (factor_of terms s.column -ℚ q *ℚ s.factor) (without_column t.column terms) k ∙ cond-false (s.column == k) _ _ (ne_eqb s.column k e) ∙ without-factor t.column terms k ∙ cond-true (t.column == k) _ _ (eq-eqb t.column k g)))
          ∙ ap (λ z. factor_of (with_factor s.column (factor_of terms s.column -ℚ q *ℚ s.factor) (without_column t.column terms)) k +ℚ q *ℚ (zero_ℚ +ℚ (z +ℚ zero_ℚ))) (sym (cond-true (t.column == k) t.factor zero_ℚ (eq-eqb t.column k g)))
          ∙ ap (λ z. factor_of (with_factor s.column (factor_of terms s.column -ℚ q *ℚ s.factor) (without_column t.column terms)) k +ℚ q *ℚ (z +ℚ (cond (t.column == k) t.factor zero_ℚ +ℚ zero_ℚ))) (sym (absent s k e))
      left (inr e) (inr g) =
          let q : ℚ = f (factor_of terms t.column) in
          ring_ℚ (factor_of terms k ∷ q ∷ []) x0 (x0 :+ x1 :* (zero_of :+ (zero_of :+ zero_of))) tt
          ∙ ap (λ z. z +ℚ q *ℚ (zero_ℚ +ℚ (zero_ℚ +ℚ zero_ℚ)))
          (sym (with-factor s.column (factor_of terms s.column -ℚ q *ℚ s.factor) (without_column t.column terms) k ∙ cond-false (s.column == k) _ _ (ne_eqb s.column k e) ∙ without-factor t.column terms k ∙ cond-false (t.column == k) _ _ (ne_eqb t.column k g)))
          ∙ ap (λ z. factor_of (with_factor s.column (factor_of terms s.column -ℚ q *ℚ s.factor) (without_column t.column terms)) k +ℚ q *ℚ (z +ℚ (zero_ℚ +ℚ zero_ℚ))) (sym (absent s k e))
          ∙ ap (λ z. factor_of (with_factor s.column (factor_of terms s.column -ℚ q *ℚ s.factor) (without_column t.column terms)) k +ℚ q *ℚ (cond (s.column == k) s.factor zero_ℚ +ℚ (z +ℚ zero_ℚ))) (sym (absent t k g))

      by : (b : Bool) → eq_ℚ (factor_of terms t.column) zero_ℚ ≡ b → factor_of terms k
          ≡ factor_of (cond b terms (with_factor s.column (factor_of terms s.column -ℚ f (factor_of terms t.column) *ℚ s.factor) (without_column t.column terms))) k +ℚ f (factor_of terms t.column) *ℚ factor_of (s ∷ t ∷ []) k
      by true e =
          ring_ℚ (factor_of terms k ∷ factor_of (s ∷ t ∷ []) k ∷ []) x0 (x0 :+ zero_of :* x1) tt
          ∙ ap (λ z. factor_of terms k +ℚ z *ℚ factor_of (s ∷ t ∷ []) k) (sym (ap f ((eq-Decides (factor_of terms t.column) zero_ℚ).0 e) ∙ zero_over t.factor))
      by false e = left (cases_eq s.column k) (cases_eq t.column k)

  factor_none : (p : ℚ) → p ≡ zero_ℚ → f p ≡ zero_ℚ
  factor_none p e = ap f e ∙ zero_over t.factor

  equation_form : (k : ℕ) → factor_of (s ∷ t ∷ []) k ≡ s.factor *ℚ (cond (s.column == k) one_ℚ zero_ℚ +ℚ zero_ℚ) +ℚ t.factor *ℚ (cond (t.column == k) one_ℚ zero_ℚ +ℚ zero_ℚ)
  equation_form k = by (s.column == k) (t.column == k)
    where
      by : (a b : Bool) → cond a s.factor zero_ℚ +ℚ (cond b t.factor zero_ℚ +ℚ zero_ℚ) ≡ s.factor *ℚ (cond a one_ℚ zero_ℚ +ℚ zero_ℚ) +ℚ t.factor *ℚ (cond b one_ℚ zero_ℚ +ℚ zero_ℚ)
      by true true = ring_ℚ (s.factor ∷ t.factor ∷ []) (x0 :+ (x1 :+ zero_of)) (x0 :* (unit_of :+ zero_of) :+ x1 :* (unit_of :+ zero_of)) tt
      by true false = ring_ℚ (s.factor ∷ t.factor ∷ []) (x0 :+ (zero_of :+ zero_of)) (x0 :* (unit_of :+ zero_of) :+ x1 :* (zero_of :+ zero_of)) tt
      by false true = ring_ℚ (s.factor ∷ t.factor ∷ []) (zero_of :+ (x1 :+ zero_of)) (x0 :* (zero_of :+ zero_of) :+ x1 :* (unit_of :+ zero_of)) tt
      by false false = ring_ℚ (s.factor ∷ t.factor ∷ []) (zero_of :+ (zero_of :+ zero_of)) (x0 :* (zero_of :+ zero_of) :+ x1 :* (zero_of :+ zero_of)) tt

  -- ---- which limit of y makes a limit of x
  made_cases : (side : Side) (P : Option Side → Option ℚ → Type 0) → ((k : Side) → k ≡ pair_side s.factor t.factor side → IsSome (limit_on of_y k) → P (Some k) (new side)) → P None (limit_on of_x side)
      → P (made side) (limit_on (tightened_by new of_x) side)
  made_cases side P known unknown = subst (λ z. P (made side) z) (sym (tightened_on new of_x side)) (by (is_tighter side (limit_on of_x side) (new side)) refl)
    where
      by : (b : Bool) → is_tighter side (limit_on of_x side) (new side) ≡ b → P (cond b (Some (pair_side s.factor t.factor side)) None) (cond b (new side) (limit_on of_x side))
      by true e = known (pair_side s.factor t.factor side) refl (mapped_there (λ l. (c -ℚ t.factor *ℚ l) /ℚ s.factor) (limit_on of_y (pair_side s.factor t.factor side)) (tighter_there side (limit_on of_x side) (new side) e))
      by false e = unknown

  solved : (o : Option ℚ) → IsSome o → c ≡ s.factor *ℚ number_or_zero (option_map (λ l. (c -ℚ t.factor *ℚ l) /ℚ s.factor) o) +ℚ t.factor *ℚ number_or_zero o
  solved None e = absurd (true≢false (sym e))
  solved (Some l) e =
      ring_ℚ (c ∷ t.factor ∷ l ∷ []) x0 ((x0 :- x1 :* x2) :+ x1 :* x2) tt ∙ ap (λ z. z +ℚ t.factor *ℚ l) (sym (quotient_times (c -ℚ t.factor *ℚ l) s.factor some_x))

  module _ (large : IsAsLarge system other) (w : Weights) (h : AreWeightsOf other w) where
    gone_row_weight : (side : Side) → w side (n + i) ≡ zero_ℚ
    gone_row_weight side = nothing_there other w h side (n + i) (ap (λ z. limit_on z side) (row_limits_at other n large.columns i) ∙ row_unlimited side)

    gone_y : (side : Side) → w side t.column ≡ zero_ℚ
    gone_y side = nothing_there other w h side t.column (ap (λ l. limit_on l side) (y_limits large.columns) ∙ none side)
      where
        none : (side : Side) → limit_on no_limits side ≡ None
        none Lo = refl
        none Up = refl

    same_column : (gb ga : Side → ℕ → ℚ) (e : ℚ) (v : ℕ) → v < n → (side : Side) → gb side v ≡ ga side v → w side v *ℚ gb side v ≡ w side v *ℚ (ga side v +ℚ times v *ℚ e)
    same_column gb ga e v l side k =
        ap (λ z. w side v *ℚ z) k ∙ ring_ℚ (w side v ∷ ga side v ∷ e ∷ []) (x0 :* x1) (x0 :* (x1 :+ zero_of :* x2)) tt
        ∙ ap (λ z. w side v *ℚ (ga side v +ℚ z *ℚ e)) (sym (times_column n rows t.column f v l))

    not_own : (r : ℕ) → n + r ≢ n + i → r ≢ i
    not_own r o e = o (ap (λ z. n + z) e)

    factors : (k v : ℕ) → v < variables system → v ≢ n + i → v ≢ t.column → v ≢ s.column → (side : Side)
        → w side v *ℚ factor_at system k side v ≡ w side v *ℚ (factor_at other k side v +ℚ times v *ℚ factor_of (s ∷ t ∷ []) k)
    factors k =
        variable_cases n (length system.rows)
        (λ v. v ≢ n + i → v ≢ t.column → v ≢ s.column → (side : Side) → w side v *ℚ factor_at system k side v ≡ w side v *ℚ (factor_at other k side v +ℚ times v *ℚ factor_of (s ∷ t ∷ []) k))
        (λ v l o p q side. same_column (factor_at system k) (factor_at other k) (factor_of (s ∷ t ∷ []) k) v l side
        (ap (λ f. factor_of f k) (column_form_at system n refl v l ∙ sym (column_form_at other n large.columns v l))))
        (λ r l o p q side. ap (λ z. w side (n + r) *ℚ z)
        (ap (λ f. factor_of f k) (row_form_at system n refl r)
        ∙ changed_factor (row_in system r) (row_in other r) (pair_terms d (row_in system r).terms) (factor r) (f (factor r)) c (factor_none (factor r)) (row_is r l (not_own r o))
        k (factor_of (s ∷ t ∷ []) k) (form_left (row_in system r).terms k)
        ∙ ap (λ z. factor_of (row_in other r).terms k +ℚ z *ℚ factor_of (s ∷ t ∷ []) k) (sym (times_at r (not_own r o)))
        ∙ ap (λ z. factor_of z k +ℚ times (n + r) *ℚ factor_of (s ∷ t ∷ []) k) (sym (row_form_at other n large.columns r))))

    limits : (v : ℕ) → v < variables system → v ≢ n + i → v ≢ t.column → v ≢ s.column → (side : Side) → w side v *ℚ limit_at system side v ≡ w side v *ℚ (limit_at other side v +ℚ times v *ℚ c)
    limits =
        variable_cases n (length system.rows) (λ v. v ≢ n + i → v ≢ t.column → v ≢ s.column → (side : Side) → w side v *ℚ limit_at system side v ≡ w side v *ℚ (limit_at other side v +ℚ times v *ℚ c))
        (λ v l o p q side. same_column (limit_at system) (limit_at other) c v l side (ap (λ z. number_or_zero (limit_on z side)) (sym (column_kept large.columns v l p q))))
        (λ r l o p q side.
        ap (λ z. w side (n + r) *ℚ number_or_zero (limit_on z side)) (row_limits_at system n refl r)
        ∙ changed_limit (row_in system r) (row_in other r) (pair_terms d (row_in system r).terms) (factor r) (f (factor r)) c (factor_none (factor r)) (row_is r l (not_own r o))
        side (w side (n + r)) (λ e. nothing_there other w h side (n + r) (ap (λ z. limit_on z side) (row_limits_at other n large.columns r) ∙ e))
        ∙ ap (λ z. w side (n + r) *ℚ (number_or_zero (limit_on (row_in other r).limits side) +ℚ z *ℚ c)) (sym (times_at r (not_own r o)))
        ∙ ap (λ z. w side (n + r) *ℚ (number_or_zero (limit_on z side) +ℚ times (n + r) *ℚ c)) (sym (row_limits_at other n large.columns r)))

    there : (v : ℕ) → v < variables system → v ≢ n + i → v ≢ t.column → v ≢ s.column → (side : Side) → IsSome (limit_on (variable_limits other v) side) → IsSome (limit_on (variable_limits system v) side)
    there =
        variable_cases n (length system.rows) (λ v. v ≢ n + i → v ≢ t.column → v ≢ s.column → (side : Side) → IsSome (limit_on (variable_limits other v) side) → IsSome (limit_on (variable_limits system v) side))
        (λ v l o p q side k. subst (λ z. IsSome (limit_on z side)) (column_kept large.columns v l p q) k)
        (λ r l o p q side k. subst (λ z. IsSome (limit_on z side)) (sym (row_limits_at system n refl r))
        (changed_there (row_in system r) (row_in other r) (pair_terms d (row_in system r).terms) (factor r) (f (factor r)) c (factor_none (factor r)) (row_is r l (not_own r o))
        side (subst (λ z. IsSome (limit_on z side)) (row_limits_at other n large.columns r) k)))

    abbrev b : Weights
    b = pair_before n d w

    taken_is : (gb ga : Side → ℕ → ℚ) (e : ℚ) → taken_of n d.changes w ≡ sum_below (variables system) (net_times (variables system) w gb ga times e)
    taken_is gb ga e = taken-sum n rows t.column f w (zero_over t.factor) ∙ ap (λ z. sum_below (n + z) (λ v. times v *ℚ (w Up v -ℚ w Lo v))) rows_length

    factor_made : (k : ℕ) (side : Side) → IsPairMade n (variables system) d w (factor_at system k) (factor_at other k) times (factor_of (s ∷ t ∷ []) k) (made side) side
    factor_made k side =
        made_cases side (λ o l. IsPairMade n (variables system) d w (factor_at system k) (factor_at other k) times (factor_of (s ∷ t ∷ []) k) o side)
        (λ r e m. (
          e,
          equation_form k
              ∙ ap (λ z. s.factor *ℚ factor_of z k +ℚ t.factor *ℚ (cond (t.column == k) one_ℚ zero_ℚ +ℚ zero_ℚ)) (sym (column_form_at other n large.columns s.column known_x))
              ∙ ap (λ z. s.factor *ℚ factor_at other k side s.column +ℚ t.factor *ℚ factor_of z k) (sym (column_form_at system n refl t.column known_y)),
        ))
        (ap (λ z. factor_of z k) (column_form_at system n refl s.column known_x ∙ sym (column_form_at other n large.columns s.column known_x)))

    limit_made : (side : Side) → IsPairMade n (variables system) d w (limit_at system) (limit_at other) times c (made side) side
    limit_made side =
        made_cases side (λ o l. limit_at other side s.column ≡ number_or_zero l → IsPairMade n (variables system) d w (limit_at system) (limit_at other) times c o side)
        (λ r e m same. (
          e,
          subst (λ z. c ≡ s.factor *ℚ number_or_zero (option_map (λ l. (c -ℚ t.factor *ℚ l) /ℚ s.factor) (limit_on of_y z)) +ℚ t.factor *ℚ number_or_zero (limit_on of_y r)) e (solved (limit_on of_y r) m)
              ∙ ap (λ z. s.factor *ℚ z +ℚ t.factor *ℚ number_or_zero (limit_on of_y r)) (sym same)
              ∙ ap (λ z. s.factor *ℚ limit_at other side s.column +ℚ t.factor *ℚ number_or_zero (limit_on z r)) (sym (column_limits_at system n refl t.column known_y)),
        ))
        (λ same. ap (λ z. number_or_zero (limit_on z side)) (column_limits_at system n refl s.column known_x) ∙ sym same)
        (ap (λ z. number_or_zero (limit_on z side)) (x_limits large.columns))

    -- ---- the weights
    row_at : (side : Side) → b side (n + i) ≡ part_on side (equation_times n d w)
    row_at side = cond-true (n + i == n + i) _ _ (eq-eqb (n + i) (n + i) refl)

    abbrev on_y : Side → ℚ
    on_y side = by_maker d.lower d.upper side (magnitude (d.b *ℚ lower_quotient d w)) (magnitude (d.b *ℚ upper_quotient d w))

    y_at : (side : Side) → b side t.column ≡ on_y side
    y_at side = cond-false (t.column == n + i) _ _ (ne_eqb t.column (n + i) (λ q. row_y (sym q))) ∙ cond-true (t.column == t.column) _ _ (eq-eqb t.column t.column refl)

    x_at : (side : Side) → b side s.column ≡ unless_made (maker d.lower d.upper side) (w side s.column)
    x_at side =
        cond-false (s.column == n + i) _ _ (ne_eqb s.column (n + i) (λ q. row_x (sym q))) ∙ cond-false (s.column == t.column) _ _ (ne_eqb s.column t.column (λ q. apart (sym q)))
        ∙ cond-true (s.column == s.column) _ _ (eq-eqb s.column s.column refl)

    kept : (v : ℕ) → v ≢ n + i → v ≢ t.column → v ≢ s.column → (side : Side) → b side v ≡ w side v
    kept v p q o side = cond-false (v == n + i) _ _ (ne_eqb v (n + i) p) ∙ cond-false (v == t.column) _ _ (ne_eqb v t.column q) ∙ cond-false (v == s.column) _ _ (ne_eqb v s.column o)

    places : (P : ℕ → ℚ → Type 0) (side : Side) → P (n + i) (part_on side (equation_times n d w)) → P t.column (on_y side) → P s.column (unless_made (maker d.lower d.upper side) (w side s.column))
        → ((v : ℕ) → v ≢ n + i → v ≢ t.column → v ≢ s.column → P v (w side v)) → (v : ℕ) → P v (b side v)
    places P side p q r o v =
        elim (cases_eq v (n + i)) [
          | inl e ↦ subst (λ z. P z (b side z)) (sym e) (subst (λ z. P (n + i) z) (sym (row_at side)) p)
          | inr e ↦ elim (cases_eq v t.column) [
            | inl f ↦ subst (λ z. P z (b side z)) (sym f) (subst (λ z. P t.column z) (sym (y_at side)) q)
            | inr f ↦ elim (cases_eq v s.column) [
              | inl g ↦ subst (λ z. P z (b side z)) (sym g) (subst (λ z. P s.column z) (sym (x_at side)) r)
              | inr g ↦ subst (λ z. P v z) (sym (kept v e f g side)) (o v e f g)
            ]
          ]
        ]

    maker_there : (side kind : Side) → made kind ≡ Some side → IsSome (limit_on of_y side)
    maker_there side kind =
        made_cases kind (λ o l. o ≡ Some side → IsSome (limit_on of_y side))
        (λ k e m is. subst (λ z. IsSome (limit_on of_y z)) (let same : k ≡ side = cc in same) m)
        (λ is. absurd (let z : ◌≡◌ {A = Option Side} None (Some side) = is in cc))

    made_there : (side : Side) → (d.lower ≡ Some side) ⊎ (d.upper ≡ Some side) → IsSome (limit_on of_y side)
    made_there side (inl e) = maker_there side Lo e
    made_there side (inr e) = maker_there side Up e

    unmade_there : (side : Side) → made side ≡ None → IsSome (limit_on (tightened_by new of_x) side) → IsSome (limit_on of_x side)
    unmade_there side =
        made_cases side (λ o l. o ≡ None → IsSome l → IsSome (limit_on of_x side))
        (λ k e m is there. absurd (let z : ◌≡◌ {A = Option Side} (Some k) None = is in cc))
        (λ is there. there)

    maker_is : (side : Side) → maker d.lower d.upper side ≡ made side
    maker_is Lo = refl
    maker_is Up = refl

    pair_weights : AreWeightsOf system b
    pair_weights = record {
      nonnegative = λ side. places (λ v q. zero_ℚ ≤ℚ q) side (part_nonnegative side (equation_times n d w))
          (by_maker_nonnegative d.lower d.upper side _ _ (magnitude_nonnegative (d.b *ℚ lower_quotient d w)) (magnitude_nonnegative (d.b *ℚ upper_quotient d w)))
          (unless_nonnegative (maker d.lower d.upper side) (w side s.column) (h.nonnegative side s.column)) (λ v e f g. h.nonnegative side v);
      known = λ side. places (λ v q. q ≢ zero_ℚ → v < variables system) side (λ z. row_below) (λ z. y_below) (λ z. x_below) (λ v e f g z. known_before system other large w h side v z);
      there = λ side. places (λ v q. q ≢ zero_ℚ → IsSome (limit_on (variable_limits system v) side)) side
          (λ z. ap is_some (limit_is side))
          (λ z. subst (λ l. IsSome (limit_on l side)) (sym (column_limits_at system n refl t.column known_y)) (made_there side (made_side d.lower d.upper side _ _ z)))
          (λ z. let parts = unmade (maker d.lower d.upper side) (w side s.column) z in
          subst (λ l. IsSome (limit_on l side)) (sym (column_limits_at system n refl s.column known_x))
          (unmade_there side (sym (maker_is side) ∙ parts.0) (subst (λ l. IsSome (limit_on l side)) (x_limits large.columns) (h.there side s.column parts.1))))
          (λ v e f g z. there v (known_before system other large w h side v z) e f g side (h.there side v z));
    }

    pair_balance : (k : ℕ) → sum_below (variables system) (taken_at b (factor_at system k)) ≡ sum_below (variables system) (taken_at w (factor_at other k))
    pair_balance k =
        pair_sum n (variables system) d w (factor_at system k) (factor_at other k) times (factor_of (s ∷ t ∷ []) k) row_below y_below x_below row_y row_x apart some_x some_y
        (λ side. h.nonnegative side s.column) (taken_is (factor_at system k) (factor_at other k) (factor_of (s ∷ t ∷ []) k)) (factors k)
        times_own (times_column n rows t.column f t.column known_y) (times_column n rows t.column f s.column known_x)
        (λ side. ap (λ z. factor_of z k) (row_form_at system n refl i ∙ terms_are)) gone_row_weight gone_y (factor_made k Lo) (factor_made k Up)

    pair_right : sum_below (variables system) (taken_at b (limit_at system)) ≡ sum_below (variables system) (taken_at w (limit_at other))
    pair_right =
        pair_sum n (variables system) d w (limit_at system) (limit_at other) times c row_below y_below x_below row_y row_x apart some_x some_y
        (λ side. h.nonnegative side s.column) (taken_is (limit_at system) (limit_at other) c) limits
        times_own (times_column n rows t.column f t.column known_y) (times_column n rows t.column f s.column known_x)
        (λ side. ap number_or_zero (limit_is side)) gone_row_weight gone_y (limit_made Lo) (limit_made Up)

  pub pair_laws : IsAsLarge system other → WeightLaws system other (pair_before n d)
  pair_laws large = record {
    weights = λ w h. pair_weights large w h;
    balance_is = λ w h k. balance_from system other large (pair_before n d w) w k (pair_balance large w h k);
    right_is = λ w h. right_from system other large (pair_before n d w) w (pair_right large w h);
  }
