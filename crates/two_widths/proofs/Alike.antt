-- Two tableaus that agree make the same choice in an improve turn, and their turns have the same operations.
use Rattle.std.proofs.Common.{◌≡◌, ◌-◌, ◌<◌, refl, ◌∙◌, ap, ℕ, Bool, true, false, cond, not, ◌&&◌, ◌||◌, ◌==◌, List, [], ◌∷◌, ◌++◌, length, Option, Some, None}
use Rattle.std.specs.Prelude.{All, find, flat_map}
use Rattle.std.proofs.lemmas.Bool.{not-true}
use Rattle.std.proofs.lemmas.List.Elements.{All-head, All-tail, All-filter}
use Rattle.rational.specs.Rational.{ℚ, ◌+ℚ◌, ◌-ℚ◌, ◌*ℚ◌, ◌/ℚ◌, neg_ℚ, zero_ℚ, one_ℚ, lt_q, eq_ℚ}
use Rattle.frac128.specs.declared.Op.TheVariants.{Plus, Minus, Times, Over}
use Rattle.frac128.specs.Calculation.{Calculation}
use Rattle.lp_model.specs.declared.members.Side.{Side}
use Rattle.lp_model.specs.declared.members.Side.TheVariants.{Lo, Up}
use Rattle.certs.specs.System.{Limits, Place, is_basic, limit_on}
use Rattle.certs.specs.Tableau.{Tableau, nonbasics, basics, limits_at, place_value, basic_value}
use Rattle.certs.specs.Turns.{can_rise, can_fall, helps, limited, limited_basics, counted, sum_operations, value_operations, others, quotient_operations, reduce_operations, row_operations, pivot_operations}
use Rattle.certs.specs.Improves.{Block, Improvement, block_at, block_on, block_operations, blocks, distance_operations, does_rise, greater_end, improve_choice, improve_values, improve_work, improvement_by, improvement_for, improving, leave_operations, lesser_end, magnitude, nearest, objective_variable, own_block, own_operations, rate, reach_operations, towards}
use Rattle.certs.specs.Improves.Improvement.{Optimal, Free, Flip, Leaves}
use Rattle.certs.proofs.Agreement.{Agrees, find-same, flat_map-same, factor_same, value_same, value_operations_same, helps_same, table_pivot}
use Rattle.certs.proofs.Choices.{below_all, found_is}
use Rattle.certs.proofs.Tableaus.{sum_nonbasic}
use Rattle.simplex.proofs.Turned.{can_leave}

-- ---- tables that are the same on the basic and the nonbasic variables, the last of which is basic
module _ (limits : List Limits) (objective : Bool) (basis : List Place) (f g : ℕ → ℕ → ℚ) (same : (i k : ℕ) → is_basic basis i ≡ true → k < length basis → is_basic basis k ≡ false → f i k ≡ g i k)
    (goal : is_basic basis (length basis - 1) ≡ true) where
  abbrev t : Tableau
  t = record { limits = limits; objective = objective; basis = basis; factor = f }

  abbrev u : Tableau
  u = record { limits = limits; objective = objective; basis = basis; factor = g }

  -- a nonbasic variable, and a basic one but the objective
  abbrev IsFree : ℕ → Type 0
  IsFree k = (k < length basis) × (not (is_basic basis k) ≡ true)

  abbrev IsLimitedRow : ℕ → Type 0
  IsLimitedRow i = (i < limited t) × (is_basic basis i ≡ true)

  all_free : All IsFree (nonbasics basis)
  all_free = below_all (λ k. not (is_basic basis k)) (length basis)

  all_limited : All IsLimitedRow (limited_basics t)
  all_limited = below_all (is_basic basis) (limited t)

  same_factor : (i : ℕ) → is_basic basis i ≡ true → (k : ℕ) → IsFree k → f i k ≡ g i k
  same_factor = factor_same limits objective basis f g same

  same_value : (i : ℕ) → is_basic basis i ≡ true → basic_value t i ≡ basic_value u i
  same_value = value_same limits objective basis f g same

  -- ---- the variable that moves
  improving_same : improving t ≡ improving u
  improving_same = find-same IsFree (helps t Lo (length basis - 1)) (helps u Lo (length basis - 1)) (helps_same limits objective basis f g same Lo (length basis - 1) goal) (nonbasics basis) all_free

  moves_free : (j : ℕ) → improving t ≡ Some j → IsFree j
  moves_free j e = (found_is (helps t Lo (length basis - 1)) IsFree (nonbasics basis) j all_free e).0

  -- ---- what it meets
  module _ (j : ℕ) (free : IsFree j) where
    rises_same : does_rise t j ≡ does_rise u j
    rises_same = ap (lt_q zero_ℚ) (same_factor (length basis - 1) goal j free)

    rate_same : (i : ℕ) → is_basic basis i ≡ true → rate t j i ≡ rate u j i
    rate_same i b = ap (λ r. cond r (f i j) (neg_ℚ (f i j))) rises_same ∙ ap (λ q. cond (does_rise u j) q (neg_ℚ q)) (same_factor i b j free)

    -- by its value and its factor
    abbrev block_by : ℕ → Side → ℚ → ℚ → ℚ → List Block
    block_by i side l v q = record { variable = i; side = side; distance = (greater_end side l v -ℚ lesser_end side l v) /ℚ magnitude q } ∷ []

    block_at_same : (i : ℕ) → is_basic basis i ≡ true → (side : Side) (o : Option ℚ) → block_at t j i side o ≡ block_at u j i side o
    block_at_same i b side None = refl
    block_at_same i b side (Some l) =
        ap (λ v. block_by i side l v (f i j)) (same_value i b)
        ∙ ap (λ q. block_by i side l (basic_value u i) q) (same_factor i b j free)

    block_on_same : (i : ℕ) → is_basic basis i ≡ true → (o : Option Side) → block_on t j i o ≡ block_on u j i o
    block_on_same i b None = refl
    block_on_same i b (Some side) = block_at_same i b side (limit_on (limits_at t i) side)

    block_same : (i : ℕ) → IsLimitedRow i → block_on t j i (towards (rate t j i)) ≡ block_on u j i (towards (rate u j i))
    block_same i row = block_on_same i row.1 (towards (rate t j i)) ∙ ap (λ r. block_on u j i (towards r)) (rate_same i row.1)

    blocks_same : blocks t j ≡ blocks u j
    blocks_same =
        ap (λ l. l ++ own_block j (cond (does_rise t j) Up Lo) (limits_at t j).lower (limits_at t j).upper)
        (flat_map-same IsLimitedRow (λ i. block_on t j i (towards (rate t j i))) (λ i. block_on u j i (towards (rate u j i))) block_same (limited_basics t) all_limited)
        ∙ ap (λ b. flat_map (λ i. block_on u j i (towards (rate u j i))) (limited_basics t) ++ own_block j (cond b Up Lo) (limits_at t j).lower (limits_at t j).upper) rises_same

    -- and the operations of it
    abbrev work_by : Side → ℚ → ℚ → ℚ → Calculation
    work_by side l v q = counted Minus (greater_end side l v) (lesser_end side l v) ++ counted Over (greater_end side l v -ℚ lesser_end side l v) (magnitude q)

    distance_same : (i : ℕ) → is_basic basis i ≡ true → (side : Side) (o : Option ℚ) → distance_operations t j i side o ≡ distance_operations u j i side o
    distance_same i b side None = refl
    distance_same i b side (Some l) = ap (λ v. work_by side l v (f i j)) (same_value i b) ∙ ap (λ q. work_by side l (basic_value u i) q) (same_factor i b j free)

    work_on_same : (i : ℕ) → is_basic basis i ≡ true → (o : Option Side) → block_operations t j i o ≡ block_operations u j i o
    work_on_same i b None = refl
    work_on_same i b (Some side) = distance_same i b side (limit_on (limits_at t i) side)

    work_same : (i : ℕ) → IsLimitedRow i → block_operations t j i (towards (rate t j i)) ≡ block_operations u j i (towards (rate u j i))
    work_same i row = work_on_same i row.1 (towards (rate t j i)) ∙ ap (λ r. block_operations u j i (towards r)) (rate_same i row.1)

    reach_of_same : reach_operations t (Some j) ≡ reach_operations u (Some j)
    reach_of_same =
        ap (λ l. l ++ own_operations (limits_at t j).lower (limits_at t j).upper)
        (flat_map-same IsLimitedRow (λ i. block_operations t j i (towards (rate t j i))) (λ i. block_operations u j i (towards (rate u j i))) work_same (limited_basics t) all_limited)

  -- ---- the choice
  for_same : (o : Option ℕ) → improving t ≡ o → improvement_for t o ≡ improvement_for u o
  for_same None e = refl
  for_same (Some j) e = ap (λ l. improvement_by j (nearest l)) (blocks_same j (moves_free j e))

  table_choice : improve_choice t ≡ improve_choice u
  table_choice = for_same (improving t) refl ∙ ap (improvement_for u) improving_same

  -- ---- the operations before a pivot
  reach_same : (o : Option ℕ) → improving t ≡ o → reach_operations t o ≡ reach_operations u o
  reach_same None e = value_operations_same limits objective basis f g same (length basis - 1) goal
  reach_same (Some j) e = reach_of_same j (moves_free j e)

  table_values : improve_values t ≡ improve_values u
  table_values =
      ap (λ c. c ++ reach_operations t (improving t)) (flat_map-same IsLimitedRow (value_operations t) (value_operations u) (λ i row. value_operations_same limits objective basis f g same i row.1) (limited_basics t) all_limited)
      ∙ ap (λ c. flat_map (value_operations u) (limited_basics t) ++ c) (reach_same (improving t) refl ∙ ap (reach_operations u) improving_same)

  leave_same : (c : Improvement) → improve_choice t ≡ c → leave_operations t c ≡ leave_operations u c
  leave_same Optimal e = refl
  leave_same (Free j) e = refl
  leave_same (Flip j) e = refl
  leave_same (Leaves i side j) e =
      let can = can_leave t i side j e in
      table_pivot limits objective basis f g same i j can.basic can.known can.nonbasic

  table_work : (left : ℕ) → improve_work left t ≡ improve_work left u
  table_work left =
      ap (λ c. c ++ cond (left == 0) [] (leave_operations t (improve_choice t))) table_values
      ∙ ap (λ c. improve_values u ++ cond (left == 0) [] c) (leave_same (improve_choice t) refl ∙ ap (leave_operations u) table_choice)

-- ---- tableaus that agree
module _ (t u : Tableau) (agrees : Agrees t u) (goal : is_basic t.basis (objective_variable t) ≡ true) where
  -- the one is the other with its own factors
  moved : record t { factor = u.factor } ≡ u
  moved =
      ap (λ l. record t { limits = l; factor = u.factor }) agrees.limits
      ∙ ap (λ o. record t { limits = u.limits; objective = o; factor = u.factor }) agrees.objective
      ∙ ap (λ b. record u { basis = b }) agrees.basis

  pub alike_choice : improve_choice t ≡ improve_choice u
  alike_choice = table_choice t.limits t.objective t.basis t.factor u.factor agrees.factor goal ∙ ap improve_choice moved

  pub alike_values : improve_values t ≡ improve_values u
  alike_values = table_values t.limits t.objective t.basis t.factor u.factor agrees.factor goal ∙ ap improve_values moved

  pub alike_work : (left : ℕ) → improve_work left t ≡ improve_work left u
  alike_work left = table_work t.limits t.objective t.basis t.factor u.factor agrees.factor goal left ∙ ap (improve_work left) moved
