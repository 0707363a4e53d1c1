-- Directions that keep a system come back over each step.
use Rattle.std.proofs.Common.{◌≡◌, ◌≢◌, ◌<◌, refl, sym, ◌∙◌, ap, subst, ℕ, Bool, true, false, true≢false, cond, ◌||◌, not, List, [], ◌∷◌, length, Option, Some, None, IsSome, inl, inr, eq-eqb, ne_eqb}
use Rattle.std.specs.Prelude.{All, is_none, slice_set, slice_index_or}
use Rattle.std.specs.Option.{option_map}
use Rattle.std.proofs.lemmas.Bool.{cases_eq}
use Rattle.std.proofs.lemmas.List.{length-set}
use Rattle.std.proofs.lemmas.List.Elements.{All-head, All-tail, All-nil, All-cons, All-weaker}
use Rattle.rational.specs.Rational.{ℚ, ◌+ℚ◌, ◌-ℚ◌, ◌*ℚ◌, ◌/ℚ◌, neg_ℚ, inv_ℚ, zero_ℚ, lt_q, eq_ℚ, ◌≤ℚ◌, ◌<ℚ◌}
use Rattle.rational.specs.Linear.{Term, Assignment, form_value, factor_of}
use Rattle.rational.proofs.Field.{ring_ℚ, ring_by_ℚ, mul-inv_ℚ, x0, x1, x2, x3, ◌:+◌, ◌:-◌, ◌:*◌, minus, zero_of, unit_of}
use Rattle.rational.proofs.Compare.{eq-Decides}
use Rattle.rational.proofs.Order.{le_by, nonneg_of_le, nonneg_is, lt_q-true}
use Rattle.lp_model.specs.declared.members.Side.{Side}
use Rattle.lp_model.specs.declared.members.Side.TheVariants.{Lo, Up}
use Rattle.certs.specs.System.{Limits, SystemRow, LinearSystem, no_limits, empty_system_row, limit_on}
use Rattle.reductions.specs.declared.steps.Doubleton.{Doubleton as Pair}
use Rattle.reductions.specs.Limited.{opposite, turned, tightened, tightened_by, map_limits, taken, taken_value}
use Rattle.reductions.specs.Stage.{row_in, limits_in, without_row, with_limits}
use Rattle.reductions.specs.Rules.{both, is_past, side_of_row, sum_of_row, is_kept, single_limit, pair_limit, pair_side}
use Rattle.reductions.specs.Reduction.{without_column, fixed_row, fixed_system, forced_limits, pair_terms, pair_row, pair_system}
use Rattle.reductions.specs.Back.{with_value, pair_value}
use Rattle.reductions.proofs.Extremes.{extreme_is}
use Rattle.reductions.proofs.Formed.{forced_rows}
use Rattle.reductions.proofs.Looks.{row_mapped, row_stays, limits_set, limits_stay, column_there}
use Rattle.reductions.proofs.PairPoints.{pair_value_of}
use Rattle.reductions.proofs.Points.{both_sides, cancel, cancel_turned, sign_is}
use Rattle.reductions.proofs.Terms.{value_with, value_without}
use Rattle.reductions.proofs.WeightRows.{tightened_on}
use Rattle.trace_back.specs.Back.{pair_move}
use Rattle.trace_back.proofs.Directions.{IsTowards, IsKeptBy, IsDirection, still, times_turned, turned_twice, times_back, form_towards, old_there, new_there}

-- a row that a direction keeps
abbrev IsRowKeptBy : SystemRow → Assignment → Type 0
IsRowKeptBy r x = IsKeptBy r.limits (form_value r.terms x)

empty_kept : (x : Assignment) → IsRowKeptBy empty_system_row x
empty_kept x side some = still side

mapped_some : (f : ℚ → ℚ) (o : Option ℚ) → IsSome o → IsSome (option_map f o)
mapped_some f None some = absurd (true≢false (sym some))
mapped_some f (Some q) some = refl

mapped_limit : (f : ℚ → ℚ) (limits : Limits) (side : Side) → IsSome (limit_on limits side) → IsSome (limit_on (map_limits f limits) side)
mapped_limit f limits Lo some = mapped_some f limits.lower some
mapped_limit f limits Up some = mapped_some f limits.upper some

-- ---- a row more
module _ (system : LinearSystem) (i : ℕ) (terms : List Term) (x : Assignment) where
  pub add_row : IsDirection (without_row i system) terms x → IsRowKeptBy (row_in system i) x → IsDirection system terms x
  add_row h own = record {
    columns = h.columns;
    rows = λ k. elim (cases_eq k i) [
      | inl e ↦ subst (λ k. IsRowKeptBy (row_in system k) x) (sym e) own
      | inr e ↦ subst (λ r. IsRowKeptBy r x) (row_stays system i k e) (h.rows k)
    ];
    raises = h.raises;
  }

  -- without terms
  pub empty_direction : (row_in system i).terms ≡ [] → IsDirection (without_row i system) terms x → IsDirection system terms x
  empty_direction e h = add_row h (λ side some. subst (λ t. IsTowards side (form_value t x)) (sym e) (still side))

  -- that the limits of its columns keep
  pub redundant_direction : All (λ t. t.factor ≢ zero_ℚ) (row_in system i).terms → is_kept system i Lo ≡ true → is_kept system i Up ≡ true → IsDirection (without_row i system) terms x → IsDirection system terms x
  redundant_direction nonzero lower upper h = add_row h own
    where
      kept : (side : Side) → is_kept system i side ≡ true → IsSome (side_of_row system i side) → IsTowards side (form_value (row_in system i).terms x)
      kept side e some = by (side_of_row system i side) (sum_of_row system i side) refl e some
        where
          by : (o p : Option ℚ) → sum_of_row system i side ≡ p → is_none o || both (λ number sum. not (is_past side number sum)) o p ≡ true → IsSome o → IsTowards side (form_value (row_in system i).terms x)
          by None p q e some = absurd (true≢false (sym some))
          by (Some a) None q e some = absurd (true≢false (sym e))
          by (Some a) (Some s) q e some =
              form_towards side x (row_in system i).terms nonzero
              (All-weaker (λ t. IsSome (taken system side t)) (λ t. IsTowards (turned t.factor side) (x t.column)) (λ t there. h.columns t.column (turned t.factor side) there) (row_in system i).terms
              (extreme_is system side (row_in system i).terms s q).there)

      own : IsRowKeptBy (row_in system i) x
      own Lo some = kept Lo lower some
      own Up some = kept Up upper some

-- ---- other limits of a column
take_limits : (system : LinearSystem) (j : ℕ) (limits : Limits) (terms : List Term) (x : Assignment) → IsDirection (with_limits j limits system) terms x → IsKeptBy (limits_in system j) (x j) → IsDirection system terms x
take_limits system j limits terms x h kept = record {
  columns = λ k. elim (cases_eq k j) [
    | inl e ↦ subst (λ k. IsKeptBy (limits_in system k) (x k)) (sym e) kept
    | inr e ↦ subst (λ l. IsKeptBy l (x k)) (limits_stay system.columns j k limits e) (h.columns k)
  ];
  rows = h.rows;
  raises = h.raises;
}

-- ---- a row of one column
module _ (system : LinearSystem) (i : ℕ) (t : Term) (terms : List Term) (x : Assignment) (known : t.column < length system.columns) (some : t.factor ≢ zero_ℚ) (own : (row_in system i).terms ≡ t ∷ []) where
  abbrev sides : Limits
  sides = (row_in system i).limits

  abbrev tight : Limits
  tight = tightened_by (single_limit sides t.factor) (limits_in system t.column)

  pub single_direction : IsDirection (with_limits t.column tight (without_row i system)) terms x → IsDirection system terms x
  single_direction h =
      add_row system i terms x
      (take_limits (without_row i system) t.column tight terms x h (λ side there. here side (old_there side (limit_on (limits_in system t.column) side) (single_limit sides t.factor side) there)))
      (λ side there. subst (IsTowards side) (sym value) (times_back t.factor some side (x t.column) (made side there)))
    where
      value : form_value (row_in system i).terms x ≡ t.factor *ℚ x t.column
      value = ap (λ z. form_value z x) own ∙ ring_ℚ ((t.factor *ℚ x t.column) ∷ []) (x0 :+ zero_of) x0 tt

      here : (side : Side) → IsSome (tightened side (limit_on (limits_in system t.column) side) (single_limit sides t.factor side)) → IsTowards side (x t.column)
      here side there =
          h.columns t.column side
          (subst (λ l. IsSome (limit_on l side)) (sym (limits_set system.columns t.column tight known)) (subst IsSome (sym (tightened_on (single_limit sides t.factor) (limits_in system t.column) side)) there))

      made : (side : Side) → IsSome (limit_on sides side) → IsTowards (turned t.factor side) (x t.column)
      made side there =
          here (turned t.factor side)
          (new_there (turned t.factor side) (limit_on (limits_in system t.column) (turned t.factor side)) (single_limit sides t.factor (turned t.factor side))
          (mapped_some (λ s. s /ℚ t.factor) (limit_on sides (turned t.factor (turned t.factor side))) (subst (λ k. IsSome (limit_on sides k)) (sym (turned_twice t.factor side)) there)))

-- ---- a forcing row
-- both limits, at the value that a sum takes
abbrev equal_limits : LinearSystem → Side → Term → Limits
equal_limits system sum t = record { lower = Some (taken_value system sum t); upper = Some (taken_value system sum t) }

both_there : (q : ℚ) (side : Side) → IsSome (limit_on (record { lower = Some q; upper = Some q }) side)
both_there q Lo = refl
both_there q Up = refl

-- a limit that is there stays there
forced_there : (system : LinearSystem) (sum : Side) (terms : List Term) (j : ℕ) (side : Side) → IsSome (limit_on (limits_in system j) side) → IsSome (limit_on (limits_in (forced_limits system sum terms) j) side)
forced_there system sum [] j side some = some
forced_there system sum (t ∷ terms) j side some =
    forced_there (with_limits t.column limits system) sum terms j side
    (elim (cases_eq j t.column) [
      | inl e ↦
          (subst (λ l. IsSome (limit_on l side)) (sym (ap (limits_in (with_limits t.column limits system)) e ∙ limits_set system.columns t.column limits (subst (λ k. k < length system.columns) e (column_there system j side some))))
          (both_there (taken_value system sum t) side))
      | inr e ↦ subst (λ l. IsSome (limit_on l side)) (sym (limits_stay system.columns t.column j limits e)) some
    ])
  where
    limits : Limits
    limits = equal_limits system sum t

-- both limits of each column are there
forced_both : (system : LinearSystem) (sum : Side) (terms : List Term) → All (λ t. t.column < length system.columns) terms
    → All (λ t. (side : Side) → IsSome (limit_on (limits_in (forced_limits system sum terms) t.column) side)) terms
forced_both system sum [] known = All-nil (λ (t : Term). (side : Side) → IsSome (limit_on (limits_in system t.column) side))
forced_both system sum (t ∷ terms) known =
    let limits = equal_limits system sum t in
    let next = with_limits t.column limits system in
    All-cons (λ t. (side : Side) → IsSome (limit_on (limits_in (forced_limits next sum terms) t.column) side)) t terms
    (λ side. forced_there next sum terms t.column side
    (subst (λ l. IsSome (limit_on l side)) (sym (limits_set system.columns t.column limits (All-head (λ t. t.column < length system.columns) t terms known))) (both_there (taken_value system sum t) side)))
    (forced_both next sum terms
    (subst (λ n. All (λ t. t.column < n) terms) (sym (length-set system.columns t.column limits)) (All-tail (λ t. t.column < length system.columns) t terms known)))

pub forced_direction : (system : LinearSystem) (i : ℕ) (sum : Side) (terms : List Term) (x : Assignment) → All (λ t. t.factor ≢ zero_ℚ) (row_in system i).terms → All (λ t. t.column < length system.columns) (row_in system i).terms
    → IsDirection (without_row i (forced_limits system sum (row_in system i).terms)) terms x → IsDirection system terms x
forced_direction system i sum terms x nonzero known h =
    add_row system i terms x
    (record {
      columns = λ j side there. h.columns j side (forced_there system sum own j side there);
      rows = λ k. subst (λ rows. IsRowKeptBy (slice_index_or (slice_set rows i empty_system_row) k empty_system_row) x) (forced_rows system sum own) (h.rows k);
      raises = h.raises;
    })
    (λ side there. form_towards side x own nonzero
    (All-weaker (λ t. (side : Side) → IsSome (limit_on (limits_in (forced_limits system sum own) t.column) side)) (λ t. IsTowards (turned t.factor side) (x t.column))
    (λ t both. h.columns t.column (turned t.factor side) (both (turned t.factor side))) own (forced_both system sum own known)))
  where
    own : List Term
    own = (row_in system i).terms

-- ---- a column with a value
module _ (j : ℕ) (x : Assignment) where
  abbrev moved : Assignment
  moved = with_value j zero_ℚ x

  -- the form's value is that of the other terms
  still_value : (terms : List Term) → form_value terms moved ≡ form_value (without_column j terms) x
  still_value terms = value_with j zero_ℚ x terms ∙ ring_ℚ (form_value (without_column j terms) x ∷ factor_of terms j ∷ []) (x0 :+ x1 :* zero_of) x0 tt

  fixed_kept : (v : ℚ) (r : SystemRow) → IsRowKeptBy (fixed_row j v r) x → IsRowKeptBy r moved
  fixed_kept v r h = by (eq_ℚ (factor_of r.terms j) zero_ℚ) refl h
    where
      by : (b : Bool) → eq_ℚ (factor_of r.terms j) zero_ℚ ≡ b
          → IsRowKeptBy (cond b r (record { terms = without_column j r.terms; limits = map_limits (λ s. s -ℚ factor_of r.terms j *ℚ v) r.limits })) x → IsRowKeptBy r moved
      by true e h side there =
          subst (IsTowards side)
          (value_without j x r.terms
          ∙ ap (λ z. form_value (without_column j r.terms) x +ℚ z *ℚ x j) ((eq-Decides (factor_of r.terms j) zero_ℚ).0 e)
          ∙ ring_ℚ (form_value (without_column j r.terms) x ∷ x j ∷ []) (x0 :+ zero_of :* x1) x0 tt
          ∙ sym (still_value r.terms)) (h side there)
      by false e h side there = subst (IsTowards side) (sym (still_value r.terms)) (h side (mapped_limit (λ s. s -ℚ factor_of r.terms j *ℚ v) r.limits side there))

  pub fixed_direction : (system : LinearSystem) (v : ℚ) (terms : List Term) → IsDirection (fixed_system j v system) (without_column j terms) x → IsDirection system terms (with_value j zero_ℚ x)
  fixed_direction system v terms h = record {
    columns = λ k. elim (cases_eq k j) [
      | inl e ↦ (λ side there. subst (λ (b : Bool). IsTowards side (cond b zero_ℚ (x k))) (sym (eq-eqb k j e)) (still side))
      | inr e ↦ subst (λ (b : Bool). IsKeptBy (limits_in system k) (cond b zero_ℚ (x k))) (sym (ne_eqb k j e)) (subst (λ l. IsKeptBy l (x k)) (limits_stay system.columns j k no_limits e) (h.columns k))
    ];
    rows = λ i. row_mapped (λ r s. IsRowKeptBy s x → IsRowKeptBy r moved) (fixed_row j v) system.rows i (fixed_kept v) (λ h. empty_kept moved) (h.rows i);
    raises = subst (λ z. zero_ℚ <ℚ z) (sym (still_value terms)) h.raises;
  }

-- ---- an equation of two columns
-- the way of a quotient
over_turned : (b : ℚ) → b ≢ zero_ℚ → (side : Side) (v : ℚ) → IsTowards side (b *ℚ v) → IsTowards (turned b side) v
over_turned b some side v h = by (lt_q zero_ℚ b) refl side h
  where
    nothing : b *ℚ zero_ℚ ≡ zero_ℚ
    nothing = ring_ℚ (b ∷ []) (x0 :* zero_of) zero_of tt

    from : zero_ℚ ≤ℚ (b *ℚ v) → (b *ℚ zero_ℚ) ≤ℚ (b *ℚ v)
    from h = subst (λ z. z ≤ℚ (b *ℚ v)) (sym nothing) h

    to : (b *ℚ v) ≤ℚ zero_ℚ → (b *ℚ v) ≤ℚ (b *ℚ zero_ℚ)
    to h = subst (λ z. (b *ℚ v) ≤ℚ z) (sym nothing) h

    by : (z : Bool) → lt_q zero_ℚ b ≡ z → (side : Side) → IsTowards side (b *ℚ v) → IsTowards (cond z side (opposite side)) v
    by true e Lo h = cancel (lt_q-true zero_ℚ b e) (from h)
    by true e Up h = cancel (lt_q-true zero_ℚ b e) (to h)
    by false e Lo h = cancel_turned (sign_is b some e) (from h)
    by false e Up h = cancel_turned (sign_is b some e) (to h)

-- the way of an opposite
opposite_way : (side : Side) (q : ℚ) → IsTowards side q → IsTowards (opposite side) (neg_ℚ q)
opposite_way Lo q h = le_by (q ∷ []) (minus x0) zero_of x0 (nonneg_is.0 h) tt
opposite_way Up q h = le_by (q ∷ []) zero_of (minus x0) (zero_of :- x0) (nonneg_of_le h) tt

turned_opposite : (b : ℚ) (side : Side) → turned b (opposite side) ≡ opposite (turned b side)
turned_opposite b side = by (lt_q zero_ℚ b)
  where
    by : (z : Bool) → cond z (opposite side) (opposite (opposite side)) ≡ opposite (cond z side (opposite side))
    by true = refl
    by false = refl

module _ (system : LinearSystem) (d : Pair) (terms : List Term) (x : Assignment) (apart : d.x ≢ d.y) (some_a : d.a ≢ zero_ℚ) (some_b : d.b ≢ zero_ℚ) (known : d.x < length system.columns)
    (own : (row_in system d.row).terms ≡ record { column = d.x; factor = d.a } ∷ record { column = d.y; factor = d.b } ∷ []) where
  abbrev move : ℚ
  move = pair_move d x

  abbrev whole : Assignment
  whole = with_value d.y move x

  abbrev of_x : Limits
  of_x = limits_in system d.x

  abbrev of_y : Limits
  of_y = limits_in system d.y

  abbrev new : Side → Option ℚ
  new = pair_limit of_y d.a d.b d.c

  abbrev other : LinearSystem
  other = pair_system d system

  -- the same equation with 0
  abbrev level : Pair
  level = record d { c = zero_ℚ }

  move_is : move ≡ pair_value level x
  move_is = ring_ℚ (d.a ∷ inv_ℚ d.b ∷ x d.x ∷ []) (minus (x0 :* x1) :* x2) ((zero_of :- x0 :* x2) :* x1) tt

  moved_value : (form : List Term) → form_value form whole ≡ form_value (pair_terms d form) x
  moved_value form =
      ap (λ z. form_value form (with_value d.y z x)) move_is
      ∙ pair_value_of level x apart some_b form
      ∙ ring_ℚ (form_value (pair_terms d form) x ∷ (factor_of form d.y /ℚ d.b) ∷ []) (x0 :+ x1 :* zero_of) x0 tt

  -- b times the move is the opposite of a times that of x
  times_b : d.b *ℚ move ≡ neg_ℚ (d.a *ℚ x d.x)
  times_b = ring_by_ℚ (d.a ∷ d.b ∷ inv_ℚ d.b ∷ x d.x ∷ []) (x1 :* (minus (x0 :* x2) :* x3)) (minus (x0 :* x3)) (minus (x0 :* x3)) (x1 :* x2) unit_of (mul-inv_ℚ d.b some_b) tt

  at_y : whole d.y ≡ move
  at_y = ap (λ (z : Bool). cond z move (x d.y)) (eq-eqb d.y d.y refl)

  at_other : (k : ℕ) → k ≢ d.y → whole k ≡ x k
  at_other k e = ap (λ (z : Bool). cond z move (x k)) (ne_eqb k d.y e)

  own_value : form_value (row_in system d.row).terms whole ≡ zero_ℚ
  own_value =
      ap (λ t. form_value t whole) own
      ∙ ap (λ z. d.a *ℚ z +ℚ (d.b *ℚ whole d.y +ℚ zero_ℚ)) (at_other d.x apart)
      ∙ ap (λ z. d.a *ℚ x d.x +ℚ (d.b *ℚ z +ℚ zero_ℚ)) at_y
      ∙ ap (λ z. d.a *ℚ x d.x +ℚ (z +ℚ zero_ℚ)) times_b
      ∙ ring_ℚ ((d.a *ℚ x d.x) ∷ []) (x0 :+ (minus x0 :+ zero_of)) zero_of tt

  pair_kept : (r : SystemRow) → IsRowKeptBy (pair_row d r) x → IsRowKeptBy r whole
  pair_kept r h = by (eq_ℚ (factor_of r.terms d.y) zero_ℚ) refl h
    where
      by : (z : Bool) → eq_ℚ (factor_of r.terms d.y) zero_ℚ ≡ z
          → IsRowKeptBy (cond z r (record { terms = pair_terms d r.terms; limits = map_limits (λ s. s -ℚ (factor_of r.terms d.y /ℚ d.b) *ℚ d.c) r.limits })) x → IsRowKeptBy r whole
      by true e h side there =
          subst (IsTowards side)
          (value_without d.y x r.terms
          ∙ ap (λ z. form_value (without_column d.y r.terms) x +ℚ z *ℚ x d.y) ((eq-Decides (factor_of r.terms d.y) zero_ℚ).0 e)
          ∙ ring_ℚ (form_value (without_column d.y r.terms) x ∷ x d.y ∷ move ∷ []) (x0 :+ zero_of :* x1) (x0 :+ zero_of :* x2) tt
          ∙ ap (λ z. form_value (without_column d.y r.terms) x +ℚ z *ℚ move) (sym ((eq-Decides (factor_of r.terms d.y) zero_ℚ).0 e))
          ∙ sym (value_with d.y move x r.terms)) (h side there)
      by false e h side there = subst (IsTowards side) (sym (moved_value r.terms)) (h side (mapped_limit (λ s. s -ℚ (factor_of r.terms d.y /ℚ d.b) *ℚ d.c) r.limits side there))

  pub pair_direction : IsDirection (pair_system d system) (pair_terms d terms) x → IsDirection system terms (with_value d.y (pair_move d x) x)
  pair_direction h =
      add_row system d.row terms whole
      (record {
        columns = λ k. elim (cases_eq k d.y) [
          | inl e ↦ subst (λ k. IsKeptBy (limits_in system k) (whole k)) (sym e) (subst (IsKeptBy of_y) (sym at_y) y_kept)
          | inr e ↦ subst (IsKeptBy (limits_in system k)) (sym (at_other k e)) (elim (cases_eq k d.x) [
            | inl q ↦ subst (λ k. IsKeptBy (limits_in system k) (x k)) (sym q) (λ side there. here side (old_there side (limit_on of_x side) (new side) there))
            | inr q ↦ subst (λ l. IsKeptBy l (x k)) (limits_stay (slice_set system.columns d.x tight) d.y k no_limits e ∙ limits_stay system.columns d.x k tight q) (h.columns k)
          ])
        ];
        rows = λ i. row_mapped (λ r s. IsRowKeptBy s x → IsRowKeptBy r whole) (pair_row d) (without_row d.row system).rows i pair_kept (λ h. empty_kept whole) (h.rows i);
        raises = subst (λ z. zero_ℚ <ℚ z) (sym (moved_value terms)) h.raises;
      })
      (λ side there. subst (IsTowards side) (sym own_value) (still side))
    where
      tight : Limits
      tight = tightened_by new of_x

      x_limits : limits_in other d.x ≡ tight
      x_limits = limits_stay (slice_set system.columns d.x tight) d.y d.x no_limits apart ∙ limits_set system.columns d.x tight known

      here : (side : Side) → IsSome (tightened side (limit_on of_x side) (new side)) → IsTowards side (x d.x)
      here side there = h.columns d.x side (subst (λ l. IsSome (limit_on l side)) (sym x_limits) (subst IsSome (sym (tightened_on new of_x side)) there))

      -- the limit of y that a limit of x comes from
      from_x : (side : Side) → IsSome (limit_on of_y (pair_side d.a d.b side)) → IsTowards (pair_side d.a d.b side) move
      from_x side there =
          let of : IsTowards side (x d.x) = here side (new_there side (limit_on of_x side) (new side) (mapped_some (λ l. (d.c -ℚ d.b *ℚ l) /ℚ d.a) (limit_on of_y (pair_side d.a d.b side)) there)) in
          let part = turned d.a side in
          subst (λ k. IsTowards k move) (turned_opposite d.b part)
          (over_turned d.b some_b (opposite part) move (subst (IsTowards (opposite part)) (sym times_b) (opposite_way part (d.a *ℚ x d.x) (times_turned d.a some_a side (x d.x) of))))

      y_kept : IsKeptBy of_y move
      y_kept =
          let Fine = λ (side : Side). IsSome (limit_on of_y side) → IsTowards side move in
          let parts = both_sides d.a (λ side. Fine (opposite (turned d.b side))) (from_x Lo) (from_x Up) in
          let ends = both_sides d.b (λ side. Fine (opposite side)) parts.0 parts.1 in
          λ side. elim side as Fine [ Lo ↦ ends.1 | Up ↦ ends.0 ]
