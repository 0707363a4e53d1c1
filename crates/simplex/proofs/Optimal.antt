-- Where nothing raises the objective, its row is a dual.
use Rattle.std.proofs.Common.{◌≡◌, ◌≢◌, ◌+◌, ◌<◌, ◌≤◌, ◌⊎◌, refl, sym, ◌∙◌, ap, subst, ℕ, zero, suc, Bool, true, false, true≢false, cond, not, ◌&&◌, List, [], ◌∷◌, length, filter, Option, Some, None, IsSome, arith, inl, inr}
use Rattle.std.specs.Prelude.{All, IfSome}
use Rattle.std.proofs.lemmas.Bool.{cases_Bool, cond_both, cond-true, cond-false, or_parts}
use Rattle.std.proofs.lemmas.List.Elements.{All-head, All-tail, All-nil, All-cons, All-append, All-filter, All-contains, All-weaker}
use Rattle.algebra.proofs.Ring.{x0, ◌:+◌, ◌:-◌, minus, zero_of}
use Rattle.rational.specs.Rational.{ℚ, ◌+ℚ◌, ◌*ℚ◌, neg_ℚ, zero_ℚ, eq_ℚ, lt_q, ◌<ℚ◌}
use Rattle.rational.specs.Sum.{sum_below}
use Rattle.rational.specs.Linear.{Term, Assignment, factor_of, form_value}
use Rattle.rational.proofs.Compare.{eq-Decides}
use Rattle.rational.proofs.Field.{ring_ℚ}
use Rattle.rational.proofs.Order.{lt_q-true, lt_q-false, le_antisymm_ℚ, lt_by, positive_of_lt}
use Rattle.rational.proofs.Sums.{sum_below-ext, nothing_times}
use Rattle.lp_model.specs.declared.members.Side.{Side}
use Rattle.lp_model.specs.declared.members.Side.TheVariants.{Lo, Up}
use Rattle.certs.specs.Combination.{number_or_zero}
use Rattle.certs.specs.System.{LinearSystem, is_basic, limit_on, variable_form, variable_limits, VariableShare}
use Rattle.certs.specs.Tableau.{Tableau, IsTableauOf, IsWellFormedSystem, basic_value, limits_at, nonbasics, place_value, row_value, value_of}
use Rattle.certs.specs.Turns.{can_fall, can_rise, helps, meets}
use Rattle.certs.specs.Ended.{share_for, shares_for, is_upper, numbers_from}
use Rattle.certs.specs.Improves.{improve_choice, objective_variable}
use Rattle.certs.specs.Improves.Improvement.{Optimal}
use Rattle.certs.proofs.Blocked.{blocked_sum}
use Rattle.certs.proofs.Feasible.{limits_are, listed, none_passes, solves}
use Rattle.certs.proofs.Tableaus.{sum_passing}
use Rattle.simplex.specs.Duals.{objective_multiple, optimal_shares, IsVariableDual, OptimalDualLaw, ObjectiveValueLaw}
use Rattle.simplex.proofs.Ends.{optimal_none, one_more, last_is, objective_basic}
use Rattle.simplex.proofs.Columns.{alone, alone_at, alone_last, alone_keeps}

-- ---- tests
met_is : (o : Option ℚ) (v : ℚ) → not (meets o v) ≡ false → IsSome o × (number_or_zero o ≡ v)
met_is None v e = absurd (true≢false e)
met_is (Some b) v e = (refl, (eq-Decides b v).0 (granted (eq_ℚ b v) e))
  where
    granted : (b : Bool) → not b ≡ false → b ≡ true
    granted true e = refl
    granted false e = absurd (true≢false e)

both_false : (a b : Bool) → a ≡ true → (a && b) ≡ false → b ≡ false
both_false true b e h = h
both_false false b e h = absurd (true≢false (sym e))

below_is : (c : ℚ) → lt_q zero_ℚ c ≡ false → c ≢ zero_ℚ → lt_q c zero_ℚ ≡ true
below_is c e n = elim (cases_Bool (lt_q c zero_ℚ)) [ inl h ↦ h | inr h ↦ absurd (n (le_antisymm_ℚ (lt_q-false zero_ℚ c e) (lt_q-false c zero_ℚ h))) ]

not_zero : (c : ℚ) → eq_ℚ c zero_ℚ ≡ false → c ≢ zero_ℚ
not_zero c e z = true≢false (sym ((eq-Decides c zero_ℚ).1 z) ∙ e)

-- ---- the objective's row, as a sum over all variables but its own
module _ (system : LinearSystem) (t : Tableau) (of : IsTableauOf system t) (some : IsSome system.objective) where
  abbrev term : Assignment → ℕ → ℚ
  term x k = cond (not (is_basic t.basis k)) (t.factor (objective_variable t) k *ℚ x k) zero_ℚ

  pub row_is : (x : Assignment) → row_value t (objective_variable t) x ≡ sum_below (length system.columns + length system.rows) (λ v. objective_multiple t v *ℚ x v)
  row_is x =
      let n : ℕ = length system.columns + length system.rows in
      sum_passing (λ k. t.factor (objective_variable t) k *ℚ x k) (length t.basis) (λ k. not (is_basic t.basis k))
      ∙ ap (λ n. sum_below n (term x)) (one_more system t of some ∙ (let q : length system.columns + length system.rows + 1 ≡ suc (length system.columns + length system.rows) = omega arith in q))
      ∙ ap (λ b. sum_below n (term x) +ℚ cond (not b) (t.factor (objective_variable t) n *ℚ x n) zero_ℚ) (of.objective_basic some)
      ∙ ring_ℚ (sum_below n (term x) ∷ []) (x0 :+ zero_of) x0 tt
      ∙ sum_below-ext n (term x) (λ v. objective_multiple t v *ℚ x v) (λ v l. by v (is_basic t.basis v))
    where
      by : (v : ℕ) (b : Bool) → cond (not b) (t.factor (objective_variable t) v *ℚ x v) zero_ℚ ≡ cond b zero_ℚ (t.factor (objective_variable t) v) *ℚ x v
      by v true = sym (nothing_times (x v))
      by v false = refl

module _ (system : LinearSystem) (t : Tableau) (terms : List Term) (formed : IsWellFormedSystem system) (is : system.objective ≡ Some terms) (of : IsTableauOf system t) (optimal : improve_choice t ≡ Optimal) where
  some : IsSome system.objective
  some = subst IsSome (sym is) refl

  abbrev all : ℕ
  all = length system.columns + length system.rows

  abbrev z : ℕ
  z = objective_variable t

  abbrev c : ℕ → ℚ
  c = objective_multiple t

  abbrev side_of : ℕ → Side
  side_of v = cond (lt_q zero_ℚ (c v)) Up Lo

  -- ---- the columns add up to the objective
  columns_match : (k : ℕ) → k < length system.columns → sum_below all (λ v. c v *ℚ factor_of (variable_form system v) k) ≡ factor_of terms k
  columns_match k lk =
      sum_below-ext all (λ v. c v *ℚ factor_of (variable_form system v) k) (λ v. c v *ℚ alone system formed k lk v) (λ v l. ap (λ q. c v *ℚ q) (sym (alone_at system formed k lk v l)))
      ∙ sym (row_is system t of some (alone system formed k lk))
      ∙ sym ((of.table (alone system formed k lk)).0 (alone_keeps system formed k lk) z (objective_basic system t of some))
      ∙ ap (alone system formed k lk) (last_is system t of some)
      ∙ alone_last system formed k lk terms is

  -- ---- the limits at which the nonbasic variables stand
  record Stands (v : ℕ) : Type 0 where
    there : IsSome (limit_on (limits_at t v) (side_of v))
    stood : number_or_zero (limit_on (limits_at t v) (side_of v)) ≡ place_value t v

  unhelped : (v : ℕ) → v < all → is_basic t.basis v ≡ false → helps t Lo z v ≡ false
  unhelped v l n =
      All-contains (λ k. helps t Lo z k ≡ false) (nonbasics t.basis) v (none_passes (helps t Lo z) (nonbasics t.basis) (optimal_none t optimal))
      (listed (λ k. not (is_basic t.basis k)) (length t.basis) v (subst (λ n. v < n) (sym (one_more system t of some)) (omega arith)) (ap not n))

  factor_is : (v : ℕ) → is_basic t.basis v ≡ false → c v ≡ t.factor z v
  factor_is v n = cond-false (is_basic t.basis v) zero_ℚ (t.factor z v) n

  at_side : (v : ℕ) (b : Bool) → lt_q zero_ℚ (c v) ≡ b → IsSome (limit_on (limits_at t v) (cond b Up Lo)) × (number_or_zero (limit_on (limits_at t v) (cond b Up Lo)) ≡ place_value t v) → Stands v
  at_side v b e h = record {
    there = subst (λ b. IsSome (limit_on (limits_at t v) (cond b Up Lo))) (sym e) h.0;
    stood = ap (λ b. number_or_zero (limit_on (limits_at t v) (cond b Up Lo))) e ∙ h.1;
  }

  stands_nonbasic : (v : ℕ) → v < all → is_basic t.basis v ≡ false → c v ≢ zero_ℚ → Stands v
  stands_nonbasic v l n nz =
      let f : ℚ = t.factor z v in
      let parts = or_parts (lt_q zero_ℚ f && can_rise t v) (lt_q f zero_ℚ && can_fall t v) (unhelped v l n) in
      elim (cases_Bool (lt_q zero_ℚ (c v))) [
        | inl p ↦ at_side v true p (met_is (limits_at t v).upper (place_value t v) (both_false (lt_q zero_ℚ f) (can_rise t v) (ap (lt_q zero_ℚ) (sym (factor_is v n)) ∙ p) parts.0))
        | inr p ↦ at_side v false p (met_is (limits_at t v).lower (place_value t v) (both_false (lt_q f zero_ℚ) (can_fall t v) (ap (λ q. lt_q q zero_ℚ) (sym (factor_is v n)) ∙ below_is (c v) p nz) parts.1))
      ]

  stands : (v : ℕ) → v < all → c v ≢ zero_ℚ → Stands v
  stands v l nz =
      elim (cases_Bool (is_basic t.basis v)) [
        | inl b ↦ absurd (nz (cond-true (is_basic t.basis v) zero_ℚ (t.factor z v) b))
        | inr b ↦ stands_nonbasic v l b nz
      ]

  -- ---- the right side is the objective's value
  term_at : (v : ℕ) → v < all → c v *ℚ number_or_zero (limit_on (variable_limits system v) (side_of v)) ≡ c v *ℚ place_value t v
  term_at v l = ap (λ q. c v *ℚ number_or_zero (limit_on q (side_of v))) (sym (limits_are system t of v l)) ∙ by (cases_Bool (eq_ℚ (c v) zero_ℚ))
    where
      by : (eq_ℚ (c v) zero_ℚ ≡ true) ⊎ (eq_ℚ (c v) zero_ℚ ≡ false) → c v *ℚ number_or_zero (limit_on (limits_at t v) (side_of v)) ≡ c v *ℚ place_value t v
      by (inl e) =
          let none : c v ≡ zero_ℚ = (eq-Decides (c v) zero_ℚ).0 e in
          ap (λ q. q *ℚ number_or_zero (limit_on (limits_at t v) (side_of v))) none ∙ nothing_times _ ∙ sym (nothing_times (place_value t v)) ∙ ap (λ q. q *ℚ place_value t v) (sym none)
      by (inr e) = ap (λ q. c v *ℚ q) (stands v l (not_zero (c v) e)).stood

  right_is : sum_below all (λ v. c v *ℚ number_or_zero (limit_on (variable_limits system v) (side_of v))) ≡ value_of t z
  right_is =
      sum_below-ext all (λ v. c v *ℚ number_or_zero (limit_on (variable_limits system v) (side_of v))) (λ v. c v *ℚ place_value t v) (λ v l. term_at v l)
      ∙ sym (row_is system t of some (place_value t))
      ∙ sym (cond-true (is_basic t.basis z) (basic_value t z) (place_value t z) (objective_basic system t of some))

  -- ---- the list
  abbrev Fine : VariableShare → Type 0
  Fine s = (zero_ℚ <ℚ s.weight) × ((s.variable < length system.columns + length system.rows) × IsSome (limit_on (variable_limits system s.variable) s.side))

  there_at : (v : ℕ) → v < all → c v ≢ zero_ℚ → IsSome (limit_on (variable_limits system v) (side_of v))
  there_at v l n = subst (λ q. IsSome (limit_on q (side_of v))) (limits_are system t of v l) (stands v l n).there

  one_fine : (v : ℕ) → v < all → All Fine (share_for v (c v))
  one_fine v l =
      cond_both (eq_ℚ (c v) zero_ℚ) [] _ (All Fine) (λ e. All-nil Fine)
      (λ e. cond_both (lt_q zero_ℚ (c v)) _ _ (All Fine)
      (λ p. All-cons Fine (record { variable = v; side = Up; weight = c v }) []
      (lt_q-true zero_ℚ (c v) p, (l, subst (λ b. IsSome (limit_on (variable_limits system v) (cond b Up Lo))) p (there_at v l (not_zero (c v) e)))) (All-nil Fine))
      (λ p. All-cons Fine (record { variable = v; side = Lo; weight = neg_ℚ (c v) }) [] (
        lt_by (c v ∷ []) zero_of (minus x0) (zero_of :- x0) (positive_of_lt (lt_q-true (c v) zero_ℚ (below_is (c v) p (not_zero (c v) e)))) tt,
        (l, subst (λ b. IsSome (limit_on (variable_limits system v) (cond b Up Lo))) p (there_at v l (not_zero (c v) e))),
      ) (All-nil Fine)))

  some_fine : (list : List ℕ) → All (λ v. v < all) list → All Fine (shares_for c list)
  some_fine [] h = All-nil Fine
  some_fine (v ∷ list) h = All-append Fine (share_for v (c v)) (shares_for c list) (one_fine v (All-head (λ v. v < all) v list h)) (some_fine list (All-tail (λ v. v < all) v list h))

  numbers_below : (a k d : ℕ) → a + k ≤ d → All (λ v. v < d) (numbers_from a k)
  numbers_below a zero d h = All-nil (λ v. v < d)
  numbers_below a (suc k) d h = All-append (λ v. v < d) (numbers_from a k) ((a + k) ∷ []) (numbers_below a k d (omega arith)) (All-cons (λ v. v < d) (a + k) [] (omega arith) (All-nil (λ v. v < d)))

  all_fine : All Fine (optimal_shares system t)
  all_fine =
      let columns : List VariableShare = shares_for c (numbers_from 0 (length system.columns)) in
      let h : All Fine columns = some_fine (numbers_from 0 (length system.columns)) (numbers_below 0 (length system.columns) all (omega arith)) in
      All-append Fine (shares_for c (numbers_from (length system.columns) (length system.rows))) _
      (some_fine (numbers_from (length system.columns) (length system.rows)) (numbers_below (length system.columns) (length system.rows) all (omega arith)))
      (All-append Fine (filter (λ s. not (is_upper s)) columns) (filter is_upper columns) (All-filter (λ s. not (is_upper s)) Fine columns h) (All-filter is_upper Fine columns h))

  pub dual_of : IsVariableDual system (optimal_shares system t) terms (value_of t (objective_variable t))
  dual_of = record {
    positive = All-weaker Fine (λ s. zero_ℚ <ℚ s.weight) (λ s h. h.0) (optimal_shares system t) all_fine;
    known = All-weaker Fine (λ s. s.variable < length system.columns + length system.rows) (λ s h. h.1.0) (optimal_shares system t) all_fine;
    there = All-weaker Fine (λ s. IsSome (limit_on (variable_limits system s.variable) s.side)) (λ s h. h.1.1) (optimal_shares system t) all_fine;
    matches = λ k l. blocked_sum system c (λ v s. factor_of (variable_form system v) k) ∙ columns_match k l;
    bound = blocked_sum system c (λ v s. number_or_zero (limit_on (variable_limits system v) s)) ∙ right_is;
  }

pub optimal_dual_law : OptimalDualLaw
optimal_dual_law system t terms formed is of e = dual_of system t terms formed is of e

pub objective_value_law : ObjectiveValueLaw
objective_value_law system t terms formed is of =
    ap (value_of t) (last_is system t of (subst IsSome (sym is) refl))
    ∙ subst (λ q. IfSome q (λ terms. value_of t (length system.columns + length system.rows) ≡ form_value terms (value_of t))) is ((of.table (value_of t)).1 (solves system t formed of)).objective
