-- The way back of weights over a column with a value.
use Rattle.std.proofs.Common.{◌≡◌, ◌≢◌, ◌+◌, ◌<◌, refl, sym, ◌∙◌, ap, subst, ℕ, ◌==◌, [], ◌∷◌, length, Some, None, IsSome, is_some, arith, inl, inr, eq-eqb, ne_eqb}
use Rattle.std.proofs.lemmas.Bool.{cases_eq, cond-true, cond-false}
use Rattle.std.proofs.lemmas.List.{get_or-set_same, get_or-set_other, get_or-map}
use Rattle.rational.specs.Rational.{ℚ, ◌+ℚ◌, ◌*ℚ◌, neg_ℚ, zero_ℚ, ◌≤ℚ◌}
use Rattle.rational.specs.Linear.{factor_of}
use Rattle.rational.proofs.Field.{ring_ℚ, x0, x1, x2, ◌:+◌, ◌:*◌, zero_of}
use Rattle.lp_model.specs.Members.{column_form}
use Rattle.lp_model.specs.declared.members.Side.{Side}
use Rattle.lp_model.specs.declared.members.Side.TheVariants.{Lo, Up}
use Rattle.certs.specs.Combination.{number_or_zero}
use Rattle.certs.specs.System.{SystemRow, LinearSystem, no_limits, empty_system_row, variable_limits, limit_on}
use Rattle.reductions.specs.Stage.{row_in, limits_in}
use Rattle.reductions.specs.Rules.{changes_from}
use Rattle.reductions.specs.Reduction.{without_column, fixed_row, fixed_system}
use Rattle.reductions.specs.Back.{Weights, part_on, taken_of, fixed_before}
use Rattle.reductions.specs.Laws.{IsAsLarge, AreWeightsOf}
use Rattle.reductions.proofs.WeightSides.{part_nonnegative}
use Rattle.reductions.proofs.WeightMoves.{fixed_sum}
use Rattle.reductions.proofs.WeightChanges.{times_of, times_column, times_row, taken-sum, changed_limit, changed_there, changed_factor, column_left}
use Rattle.reductions.proofs.WeightSystems.{factor_at, limit_at, variables, column_form_at, column_limits_at, row_form_at, row_limits_at, variable_cases, nothing_there, WeightLaws, known_before, balance_from, right_from}

module _ (system : LinearSystem) (j : ℕ) (value : ℚ) (known : j < length system.columns)
    (lower_is : (limits_in system j).lower ≡ Some value) (upper_is : (limits_in system j).upper ≡ Some value) where
  abbrev n : ℕ
  n = length system.columns

  abbrev other : LinearSystem
  other = fixed_system j value system

  abbrev times : ℕ → ℚ
  times = times_of n system.rows j (λ f. f)

  abbrev changed : SystemRow → SystemRow
  changed = fixed_row j value

  row_is : (r : ℕ) → r < length system.rows → row_in other r ≡ changed (row_in system r)
  row_is r l = get_or-map changed system.rows r empty_system_row empty_system_row l

  limits_kept : length other.columns ≡ n → (v : ℕ) → v < n → v ≢ j → variable_limits other v ≡ variable_limits system v
  limits_kept e v l h = column_limits_at other n e v l ∙ get_or-set_other system.columns j v no_limits no_limits h ∙ sym (column_limits_at system n refl v l)

  limits_gone : length other.columns ≡ n → variable_limits other j ≡ no_limits
  limits_gone e = column_limits_at other n e j known ∙ get_or-set_same system.columns j no_limits no_limits known

  column_below : j < variables system
  column_below = let l : j < n = known in omega arith

  limit_is : (side : Side) → limit_on (variable_limits system j) side ≡ Some value
  limit_is Lo = ap (λ z. z.lower) (column_limits_at system n refl j known) ∙ lower_is
  limit_is Up = ap (λ z. z.upper) (column_limits_at system n refl j known) ∙ upper_is

  module _ (large : IsAsLarge system other) (w : Weights) (h : AreWeightsOf other w) where
    gone : (side : Side) → w side j ≡ zero_ℚ
    gone side = nothing_there other w h side j (ap (λ l. limit_on l side) (limits_gone large.columns) ∙ none side)
      where
        none : (side : Side) → limit_on no_limits side ≡ None
        none Lo = refl
        none Up = refl

    -- a column from which nothing is taken
    same_column : (gb ga : Side → ℕ → ℚ) (e : ℚ) (v : ℕ) → v < n → (side : Side) → gb side v ≡ ga side v → w side v *ℚ gb side v ≡ w side v *ℚ (ga side v +ℚ times v *ℚ e)
    same_column gb ga e v l side k =
        ap (λ z. w side v *ℚ z) k ∙ ring_ℚ (w side v ∷ ga side v ∷ e ∷ []) (x0 :* x1) (x0 :* (x1 :+ zero_of :* x2)) tt
        ∙ ap (λ z. w side v *ℚ (ga side v +ℚ z *ℚ e)) (sym (times_column n system.rows j (λ f. f) v l))

    factors : (k v : ℕ) → v < variables system → v ≢ j → (side : Side)
        → w side v *ℚ factor_at system k side v ≡ w side v *ℚ (factor_at other k side v +ℚ times v *ℚ factor_of (column_form j) k)
    factors k =
        variable_cases n (length system.rows) (λ v. v ≢ j → (side : Side) → w side v *ℚ factor_at system k side v ≡ w side v *ℚ (factor_at other k side v +ℚ times v *ℚ factor_of (column_form j) k))
        (λ v l o side. same_column (factor_at system k) (factor_at other k) (factor_of (column_form j) k) v l side
        (ap (λ f. factor_of f k) (column_form_at system n refl v l ∙ sym (column_form_at other n large.columns v l))))
        (λ r l o side. ap (λ z. w side (n + r) *ℚ z)
        (ap (λ f. factor_of f k) (row_form_at system n refl r)
        ∙ changed_factor (row_in system r) (row_in other r) (without_column j (row_in system r).terms) (factor_of (row_in system r).terms j) (factor_of (row_in system r).terms j) value (λ e. e) (row_is r l)
        k (factor_of (column_form j) k) (column_left j (row_in system r).terms k)
        ∙ ap (λ z. factor_of (row_in other r).terms k +ℚ z *ℚ factor_of (column_form j) k) (sym (times_row n system.rows j (λ f. f) r))
        ∙ ap (λ f. factor_of f k +ℚ times (n + r) *ℚ factor_of (column_form j) k) (sym (row_form_at other n large.columns r))))

    limits : (v : ℕ) → v < variables system → v ≢ j → (side : Side) → w side v *ℚ limit_at system side v ≡ w side v *ℚ (limit_at other side v +ℚ times v *ℚ value)
    limits =
        variable_cases n (length system.rows) (λ v. v ≢ j → (side : Side) → w side v *ℚ limit_at system side v ≡ w side v *ℚ (limit_at other side v +ℚ times v *ℚ value))
        (λ v l o side. same_column (limit_at system) (limit_at other) value v l side (ap (λ z. number_or_zero (limit_on z side)) (sym (limits_kept large.columns v l o))))
        (λ r l o side.
        ap (λ z. w side (n + r) *ℚ number_or_zero (limit_on z side)) (row_limits_at system n refl r)
        ∙ changed_limit (row_in system r) (row_in other r) (without_column j (row_in system r).terms) (factor_of (row_in system r).terms j) (factor_of (row_in system r).terms j) value (λ e. e) (row_is r l)
        side (w side (n + r)) (λ e. nothing_there other w h side (n + r) (ap (λ z. limit_on z side) (row_limits_at other n large.columns r) ∙ e))
        ∙ ap (λ z. w side (n + r) *ℚ (number_or_zero (limit_on (row_in other r).limits side) +ℚ z *ℚ value)) (sym (times_row n system.rows j (λ f. f) r))
        ∙ ap (λ z. w side (n + r) *ℚ (number_or_zero (limit_on z side) +ℚ times (n + r) *ℚ value)) (sym (row_limits_at other n large.columns r)))

    there : (v : ℕ) → v < variables system → v ≢ j → (side : Side) → IsSome (limit_on (variable_limits other v) side) → IsSome (limit_on (variable_limits system v) side)
    there =
        variable_cases n (length system.rows) (λ v. v ≢ j → (side : Side) → IsSome (limit_on (variable_limits other v) side) → IsSome (limit_on (variable_limits system v) side))
        (λ v l o side k. subst (λ z. IsSome (limit_on z side)) (limits_kept large.columns v l o) k)
        (λ r l o side k. subst (λ z. IsSome (limit_on z side)) (sym (row_limits_at system n refl r))
        (changed_there (row_in system r) (row_in other r) (without_column j (row_in system r).terms) (factor_of (row_in system r).terms j) (factor_of (row_in system r).terms j) value (λ e. e) (row_is r l)
        side (subst (λ z. IsSome (limit_on z side)) (row_limits_at other n large.columns r) k)))

    abbrev b : Weights
    b = fixed_before n j (changes_from j (λ f. f) 0 system.rows) w

    abbrev taken : ℚ
    taken = taken_of n (changes_from j (λ f. f) 0 system.rows) w

    places : (P : ℕ → ℚ → Type 0) (side : Side) → P j (part_on side (neg_ℚ taken)) → ((v : ℕ) → v ≢ j → P v (w side v)) → (v : ℕ) → P v (b side v)
    places P side p o v =
        elim (cases_eq v j) [
          | inl e ↦ subst (λ z. P z (b side z)) (sym e) (subst (λ z. P j z) (sym (cond-true (j == j) _ _ (eq-eqb j j refl))) p)
          | inr e ↦ subst (λ z. P v z) (sym (cond-false (v == j) _ _ (ne_eqb v j e))) (o v e)
        ]

    fixed_weights : AreWeightsOf system b
    fixed_weights = record {
      nonnegative = λ side. places (λ v q. zero_ℚ ≤ℚ q) side (part_nonnegative side (neg_ℚ taken)) (λ v e. h.nonnegative side v);
      known = λ side. places (λ v q. q ≢ zero_ℚ → v < variables system) side (λ z. column_below) (λ v e z. known_before system other large w h side v z);
      there = λ side. places (λ v q. q ≢ zero_ℚ → IsSome (limit_on (variable_limits system v) side)) side
          (λ z. ap is_some (limit_is side))
          (λ v e z. there v (known_before system other large w h side v z) e side (h.there side v z));
    }

  pub fixed_laws : IsAsLarge system other → WeightLaws system other (fixed_before n j (changes_from j (λ f. f) 0 system.rows))
  fixed_laws large = record {
    weights = λ w h. fixed_weights large w h;
    balance_is = λ w h k. balance_from system other large (b large w h) w k
        (fixed_sum (variables system) w (factor_at system k) (factor_at other k) times (factor_of (column_form j) k) j (taken large w h) column_below (taken-sum n system.rows j (λ f. f) w refl)
        (factors large w h k) (times_column n system.rows j (λ f. f) j known) (λ side. ap (λ f. factor_of f k) (column_form_at system n refl j known)) (gone large w h));
    right_is = λ w h. right_from system other large (b large w h) w
        (fixed_sum (variables system) w (limit_at system) (limit_at other) times value j (taken large w h) column_below (taken-sum n system.rows j (λ f. f) w refl)
        (limits large w h) (times_column n system.rows j (λ f. f) j known) (λ side. ap number_or_zero (limit_is side)) (gone large w h));
  }
