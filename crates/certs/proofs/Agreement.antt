-- Two tableaus that agree make the same choice in a settle turn, and their turns have the same operations.
use Rattle.std.proofs.Common.{◌≡◌, ◌<◌, refl, ◌∙◌, ap, ℕ, Bool, true, false, cond, not, ◌&&◌, ◌||◌, ◌==◌, List, [], ◌∷◌, ◌++◌, length, Option, Some, None}
use Rattle.std.specs.Prelude.{All, find, flat_map}
use Rattle.std.proofs.lemmas.Bool.{not-true}
use Rattle.std.proofs.lemmas.List.Elements.{All-head, All-tail, All-filter}
use Rattle.rational.specs.Rational.{ℚ, ◌+ℚ◌, ◌*ℚ◌, ◌/ℚ◌, zero_ℚ, one_ℚ, lt_q, eq_ℚ}
use Rattle.frac128.specs.declared.Op.TheVariants.{Plus, Minus, Times, Over}
use Rattle.frac128.specs.Calculation.{Calculation}
use Rattle.lp_model.specs.declared.members.Side.{Side}
use Rattle.lp_model.specs.declared.members.Side.TheVariants.{Lo, Up}
use Rattle.certs.specs.System.{Limits, Place, is_basic}
use Rattle.certs.specs.Tableau.{Tableau, nonbasics, basics, limits_at, place_value, basic_value}
use Rattle.certs.specs.Turns.{is_under, is_over, missed_side, missed_by, is_outside, can_rise, can_fall, helps, entering, Choice, limited, limited_basics, exchange_or_blocked, choice_for, choice_at, settle_choice, counted, sum_operations, value_operations, operations_to_outside, settle_values, others, quotient_operations, reduce_operations, row_operations, pivot_operations, exchange_operations, settle_work}
use Rattle.certs.specs.Turns.Choice.{Settled, Blocked, Exchange}
use Rattle.certs.proofs.Tableaus.{sum_nonbasic}
use Rattle.certs.proofs.Choices.{found_is, below_all, can_of}

-- ---- lists whose members have a fact
module _ (P : ℕ → Type 0) where
  pub find-same : (f g : ℕ → Bool) → ((k : ℕ) → P k → f k ≡ g k) → (xs : List ℕ) → All P xs → find f xs ≡ find g xs
  find-same f g h [] a = refl
  find-same f g h (x ∷ xs) a = ap (λ b. cond b (Some x) (find f xs)) (h x (All-head P x xs a)) ∙ ap (λ r. cond (g x) (Some x) r) (find-same f g h xs (All-tail P x xs a))

  pub flat_map-same : {B : Type 0} (f g : ℕ → List B) → ((k : ℕ) → P k → f k ≡ g k) → (xs : List ℕ) → All P xs → flat_map f xs ≡ flat_map g xs
  flat_map-same f g h [] a = refl
  flat_map-same f g h (x ∷ xs) a = ap (λ c. c ++ flat_map f xs) (h x (All-head P x xs a)) ∙ ap (λ r. g x ++ r) (flat_map-same f g h xs (All-tail P x xs a))

  pub sum_operations-same : (f g x : ℕ → ℚ) → ((k : ℕ) → P k → f k ≡ g k) → (sum : ℚ) (ks : List ℕ) → All P ks → sum_operations f x sum ks ≡ sum_operations g x sum ks
  sum_operations-same f g x h sum [] a = refl
  sum_operations-same f g x h sum (k ∷ ks) a =
      ap (λ q. counted Times q (x k) ++ (counted Plus sum (q *ℚ x k) ++ sum_operations f x (sum +ℚ q *ℚ x k) ks)) (h k (All-head P k ks a))
      ∙ ap (λ r. counted Times (g k) (x k) ++ (counted Plus sum (g k *ℚ x k) ++ r)) (sum_operations-same f g x h (sum +ℚ g k *ℚ x k) ks (All-tail P k ks a))

-- ---- tables that are the same on the basic and the nonbasic variables
module _ (limits : List Limits) (objective : Bool) (basis : List Place) (f g : ℕ → ℕ → ℚ) (same : (i k : ℕ) → is_basic basis i ≡ true → k < length basis → is_basic basis k ≡ false → f i k ≡ g i k) where
  abbrev pub t : Tableau
  t = record { limits = limits; objective = objective; basis = basis; factor = f }

  abbrev pub u : Tableau
  u = record { limits = limits; objective = objective; basis = basis; factor = g }

  -- the numbers of basic and of nonbasic variables
  abbrev IsRow : ℕ → Type 0
  IsRow i = (i < length basis) × (is_basic basis i ≡ true)

  abbrev pub IsFree : ℕ → Type 0
  IsFree k = (k < length basis) × (not (is_basic basis k) ≡ true)

  abbrev pub IsLimitedRow : ℕ → Type 0
  IsLimitedRow i = (i < limited t) × (is_basic basis i ≡ true)

  pub all_free : All IsFree (nonbasics basis)
  all_free = below_all (λ k. not (is_basic basis k)) (length basis)

  all_rows : All IsRow (basics basis)
  all_rows = below_all (is_basic basis) (length basis)

  pub all_limited : All IsLimitedRow (limited_basics t)
  all_limited = below_all (is_basic basis) (limited t)

  pub factor_same : (i : ℕ) → is_basic basis i ≡ true → (k : ℕ) → IsFree k → f i k ≡ g i k
  factor_same i b k free = same i k b free.0 (not-true (is_basic basis k) free.1)

  pub value_same : (i : ℕ) → is_basic basis i ≡ true → basic_value t i ≡ basic_value u i
  value_same i b = sum_nonbasic basis (λ k. f i k *ℚ place_value t k) (λ k. g i k *ℚ place_value t k) (λ k l n. ap (λ q. q *ℚ place_value t k) (same i k b l n))

  outside_same : (i : ℕ) → IsLimitedRow i → is_outside t i ≡ is_outside u i
  outside_same i row = ap (λ v. is_under (limits_at t i).lower v || is_over (limits_at t i).upper v) (value_same i row.1)

  missed_same : (i : ℕ) → is_basic basis i ≡ true → missed_by t i ≡ missed_by u i
  missed_same i b = ap (missed_side (limits_at t i)) (value_same i b)

  pub helps_same : (side : Side) (i : ℕ) → is_basic basis i ≡ true → (k : ℕ) → IsFree k → helps t side i k ≡ helps u side i k
  helps_same Lo i b k free = ap (λ q. (lt_q zero_ℚ q && can_rise t k) || (lt_q q zero_ℚ && can_fall t k)) (factor_same i b k free)
  helps_same Up i b k free = ap (λ q. (lt_q q zero_ℚ && can_rise t k) || (lt_q zero_ℚ q && can_fall t k)) (factor_same i b k free)

  entering_same : (side : Side) (i : ℕ) → is_basic basis i ≡ true → entering t side i ≡ entering u side i
  entering_same side i b = find-same IsFree (helps t side i) (helps u side i) (helps_same side i b) (nonbasics basis) all_free

  -- ---- the choice
  first_same : find (is_outside t) (limited_basics t) ≡ find (is_outside u) (limited_basics u)
  first_same = find-same IsLimitedRow (is_outside t) (is_outside u) outside_same (limited_basics t) all_limited

  for_same : (i : ℕ) → is_basic basis i ≡ true → (o : Option Side) → choice_for t i o ≡ choice_for u i o
  for_same i b None = refl
  for_same i b (Some side) = ap (exchange_or_blocked i side) (entering_same side i b)

  at_same : (o : Option ℕ) → find (is_outside t) (limited_basics t) ≡ o → choice_at t o ≡ choice_at u o
  at_same None e = refl
  at_same (Some i) e =
      let b : is_basic basis i ≡ true = (found_is (is_outside t) IsLimitedRow (limited_basics t) i all_limited e).0.1 in
      for_same i b (missed_by t i) ∙ ap (choice_for u i) (missed_same i b)

  table_choice : settle_choice t ≡ settle_choice u
  table_choice = at_same (find (is_outside t) (limited_basics t)) refl ∙ ap (choice_at u) first_same

  -- ---- the values
  pub value_operations_same : (i : ℕ) → is_basic basis i ≡ true → value_operations t i ≡ value_operations u i
  value_operations_same i b = sum_operations-same IsFree (f i) (g i) (place_value t) (factor_same i b) zero_ℚ (nonbasics basis) all_free

  to_outside_same : (list : List ℕ) → All IsLimitedRow list → operations_to_outside t list ≡ operations_to_outside u list
  to_outside_same [] a = refl
  to_outside_same (i ∷ rest) a =
      let row : IsLimitedRow i = All-head IsLimitedRow i rest a in
      ap (λ c. c ++ cond (is_outside t i) [] (operations_to_outside t rest)) (value_operations_same i row.1)
      ∙ ap (λ b. value_operations u i ++ cond b [] (operations_to_outside t rest)) (outside_same i row)
      ∙ ap (λ c. value_operations u i ++ cond (is_outside u i) [] c) (to_outside_same rest (All-tail IsLimitedRow i rest a))

  table_values : settle_values t ≡ settle_values u
  table_values = to_outside_same (limited_basics t) all_limited

  -- ---- the pivot
  module _ (i j : ℕ) (bi : is_basic basis i ≡ true) (lj : j < length basis) (bj : is_basic basis j ≡ false) where
    abbrev list : List ℕ
    list = others j (nonbasics basis)

    abbrev quotients : (ℕ → ℕ → ℚ) → Calculation
    quotients h = quotient_operations (h i) (h i j) list

    abbrev row_of : (ℕ → ℕ → ℚ) → (ℕ → ℕ → ℚ) → ℕ → Calculation
    row_of h q r = row_operations (h r j) (one_ℚ /ℚ q i j) (h r) (λ k. q i k /ℚ q i j) list

    list_free : All IsFree list
    list_free = All-filter (λ k. not (k == j)) IsFree (nonbasics basis) all_free

    others_rows : All IsRow (others i (basics basis))
    others_rows = All-filter (λ k. not (k == i)) IsRow (basics basis) all_rows

    pivot_same : f i j ≡ g i j
    pivot_same = same i j bi lj bj

    quotients_same : quotients f ≡ quotients g
    quotients_same =
        ap (λ p. quotient_operations (f i) p list) pivot_same
        ∙ flat_map-same IsFree (λ k. counted Over (f i k) (g i j)) (λ k. counted Over (g i k) (g i j)) (λ k free. ap (λ q. counted Over q (g i j)) (factor_same i bi k free)) list list_free

    reduce_same : (a p : ℚ) (row : ℕ → ℚ) (other : ℕ → ℚ) → ((k : ℕ) → IsFree k → row k ≡ other k) → reduce_operations a row (λ k. f i k /ℚ p) list ≡ reduce_operations a other (λ k. g i k /ℚ p) list
    reduce_same a p row other h =
        flat_map-same IsFree
        (λ k. counted Times a (f i k /ℚ p) ++ counted Minus (row k) (a *ℚ (f i k /ℚ p)))
        (λ k. counted Times a (g i k /ℚ p) ++ counted Minus (other k) (a *ℚ (g i k /ℚ p)))
        (λ k free.
        ap (λ q. counted Times a (q /ℚ p) ++ counted Minus (row k) (a *ℚ (q /ℚ p))) (factor_same i bi k free)
        ∙ ap (λ q. counted Times a (g i k /ℚ p) ++ counted Minus q (a *ℚ (g i k /ℚ p))) (h k free))
        list list_free

    row_same : (r : ℕ) → IsRow r → row_of f f r ≡ row_of g g r
    row_same r row =
        ap (λ p. row_operations (f r j) (one_ℚ /ℚ p) (f r) (λ k. f i k /ℚ p) list) pivot_same
        ∙ ap (λ a. row_operations a (one_ℚ /ℚ g i j) (f r) (λ k. f i k /ℚ g i j) list) (same r j row.1 lj bj)
        ∙ ap (λ c. cond (eq_ℚ (g r j) zero_ℚ) [] (counted Times (g r j) (one_ℚ /ℚ g i j) ++ c)) (reduce_same (g r j) (g i j) (f r) (g r) (factor_same r row.1))

    pub table_pivot : pivot_operations t i j ≡ pivot_operations u i j
    table_pivot =
        ap (λ p. counted Over one_ℚ p ++ (quotients f ++ flat_map (row_of f f) (others i (basics basis)))) pivot_same
        ∙ ap (λ c. counted Over one_ℚ (g i j) ++ (c ++ flat_map (row_of f f) (others i (basics basis)))) quotients_same
        ∙ ap (λ c. counted Over one_ℚ (g i j) ++ (quotients g ++ c)) (flat_map-same IsRow (row_of f f) (row_of g g) row_same (others i (basics basis)) others_rows)

  exchange_same : (c : Choice) → settle_choice t ≡ c → exchange_operations t c ≡ exchange_operations u c
  exchange_same Settled e = refl
  exchange_same (Blocked i side) e = refl
  exchange_same (Exchange i side j) e =
      let can = can_of t i side j e in
      table_pivot i j can.basic can.known can.nonbasic

  table_work : (left : ℕ) → settle_work left t ≡ settle_work left u
  table_work left =
      ap (λ c. c ++ cond (left == 0) [] (exchange_operations t (settle_choice t))) table_values
      ∙ ap (λ c. settle_values u ++ cond (left == 0) [] c) (exchange_same (settle_choice t) refl ∙ ap (exchange_operations u) table_choice)

-- ---- tableaus that agree
pub record Agrees (t u : Tableau) : Type 0 where
  pub limits : t.limits ≡ u.limits
  pub objective : t.objective ≡ u.objective
  pub basis : t.basis ≡ u.basis
  pub factor : (i k : ℕ) → is_basic t.basis i ≡ true → k < length t.basis → is_basic t.basis k ≡ false → t.factor i k ≡ u.factor i k

-- the one is the other with its own factors
moved : (t u : Tableau) → Agrees t u → record t { factor = u.factor } ≡ u
moved t u a =
    ap (λ l. record t { limits = l; factor = u.factor }) a.limits
    ∙ ap (λ o. record t { limits = u.limits; objective = o; factor = u.factor }) a.objective
    ∙ ap (λ b. record u { basis = b }) a.basis

pub agreed_choice : (t u : Tableau) → Agrees t u → settle_choice t ≡ settle_choice u
agreed_choice t u a = table_choice t.limits t.objective t.basis t.factor u.factor a.factor ∙ ap settle_choice (moved t u a)

pub agreed_values : (t u : Tableau) → Agrees t u → settle_values t ≡ settle_values u
agreed_values t u a = table_values t.limits t.objective t.basis t.factor u.factor a.factor ∙ ap settle_values (moved t u a)

pub agreed_work : (t u : Tableau) → Agrees t u → (left : ℕ) → settle_work left t ≡ settle_work left u
agreed_work t u a left = table_work t.limits t.objective t.basis t.factor u.factor a.factor left ∙ ap (settle_work left) (moved t u a)
