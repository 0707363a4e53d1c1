-- Where nothing helps a variable that is outside, its row is a combination.
use Rattle.std.proofs.Common.{◌≡◌, ◌≢◌, ◌+◌, ◌-◌, ◌<◌, ◌≤◌, refl, sym, ◌∙◌, ap, subst, ℕ, zero, suc, Bool, true, false, true≢false, cond, not, ◌&&◌, ◌==◌, List, [], ◌∷◌, ◌++◌, length, get_or, filter, Option, Some, None, IsSome, is_some, ltb, arith, inl, inr, eq-eqb, ne_eqb, lt-ltb}
use Rattle.std.specs.Prelude.{All, IfSome, ◌⊎◌}
use Rattle.std.proofs.lemmas.Bool.{cases_Bool, cases_eq, cond_both, cond-true, cond-false, or_parts, le-ltb}
use Rattle.std.proofs.lemmas.List.Elements.{All-head, All-tail, All-nil, All-cons, All-append, All-filter, All-get_or, All-contains, All-weaker}
use Rattle.algebra.proofs.Ring.{x0, x1, x2, ◌:+◌, ◌:-◌, ◌:*◌, minus, zero_of, unit_of}
use Rattle.rational.specs.Rational.{ℚ, ◌+ℚ◌, ◌-ℚ◌, ◌*ℚ◌, neg_ℚ, zero_ℚ, one_ℚ, eq_ℚ, lt_q, ◌<ℚ◌}
use Rattle.rational.specs.Sum.{sum_over, sum_below}
use Rattle.rational.specs.Linear.{Term, Assignment, form_value, factor_of}
use Rattle.rational.proofs.Field.{ring_ℚ}
use Rattle.rational.proofs.Compare.{eq-Decides}
use Rattle.rational.proofs.Order.{lt_q-true, lt_q-false, le_antisymm_ℚ, le_of_lt_ℚ, lt-le_clash_ℚ, le_by, lt_by, nonneg_of_le, positive_of_lt, positive_is, positive-one}
use Rattle.rational.proofs.Sums.{sum_over-append, sum_below-ext, sum_below-add, sum_below-scale, sum_below-split, sum_below-one, nothing_times}
use Rattle.lp_model.specs.declared.members.Side.{Side}
use Rattle.lp_model.specs.declared.members.Side.TheVariants.{Lo, Up}
use Rattle.certs.specs.Combination.{signed, number_or_zero}
use Rattle.certs.specs.System.{Limits, LinearSystem, empty_system_row, KeepsRows, is_basic, limit_on, variable_form, variable_limits, VariableShare, IsVariableCombination}
use Rattle.certs.specs.Tableau.{Tableau, IsTableauOf, IsWellFormedSystem, basic_value, forms_of, limits_at, nonbasics, place_value, row_value}
use Rattle.certs.specs.Turns.{can_fall, can_rise, helps, is_outside, limited, limited_basics, meets, missed_side, is_under, is_over}
use Rattle.certs.proofs.Choices.{IsStuck, blocked_parts, found_is, below_all, missed_there, some_same}
use Rattle.certs.proofs.Feasible.{limits_are, limited_is, listed, none_passes}
use Rattle.lp_model.specs.Program.{IsForm}
use Rattle.lp_model.specs.Members.{column_form}
use Rattle.rational.proofs.Forms.{by_known}
use Rattle.certs.proofs.Tableaus.{sum_passing, sum_nonbasic}
use Rattle.certs.proofs.Signs.{signed_as}
use Rattle.certs.specs.Ended.{share_for, shares_for, is_upper, numbers_from, blocked_multiple, blocked_shares, BlockedLaw}

-- ---- sums over shares
-- one share: the number times what is taken of the variable; g may look at the side of the number
one_share : (g : ℕ → Side → ℚ) (v : ℕ) (c : ℚ) → sum_over (λ (s : VariableShare). signed s.side s.weight *ℚ g s.variable s.side) (share_for v c) ≡ c *ℚ g v (cond (lt_q zero_ℚ c) Up Lo)
one_share g v c = by (eq_ℚ c zero_ℚ) (lt_q zero_ℚ c) refl
  where
    by : (a b : Bool) → eq_ℚ c zero_ℚ ≡ a → sum_over (λ (s : VariableShare). signed s.side s.weight *ℚ g s.variable s.side) (cond a [] (cond b (record { variable = v; side = Up; weight = c } ∷ []) (record { variable = v; side = Lo; weight = neg_ℚ c } ∷ []))) ≡ c *ℚ g v (cond b Up Lo)
    by true b e = sym (nothing_times (g v (cond b Up Lo))) ∙ ap (λ z. z *ℚ g v (cond b Up Lo)) (sym ((eq-Decides c zero_ℚ).0 e))
    by false true e = ring_ℚ (c ∷ g v Up ∷ []) (x0 :* x1 :+ zero_of) (x0 :* x1) tt
    by false false e = ring_ℚ (c ∷ g v Lo ∷ []) (minus (minus x0) :* x1 :+ zero_of) (x0 :* x1) tt

shares_sum : (g : ℕ → Side → ℚ) (c : ℕ → ℚ) (list : List ℕ) → sum_over (λ (s : VariableShare). signed s.side s.weight *ℚ g s.variable s.side) (shares_for c list) ≡ sum_over (λ v. c v *ℚ g v (cond (lt_q zero_ℚ (c v)) Up Lo)) list
shares_sum g c [] = refl
shares_sum g c (v ∷ list) =
    sum_over-append (λ (s : VariableShare). signed s.side s.weight *ℚ g s.variable s.side) (share_for v (c v)) (shares_for c list)
    ∙ ap (λ z. z +ℚ sum_over (λ (s : VariableShare). signed s.side s.weight *ℚ g s.variable s.side) (shares_for c list)) (one_share g v (c v))
    ∙ ap (λ z. c v *ℚ g v (cond (lt_q zero_ℚ (c v)) Up Lo) +ℚ z) (shares_sum g c list)

-- the two kinds together
both_kinds : (h : VariableShare → ℚ) (list : List VariableShare) → sum_over h (filter (λ s. not (is_upper s)) list ++ filter is_upper list) ≡ sum_over h list
both_kinds h list = sum_over-append h (filter (λ s. not (is_upper s)) list) (filter is_upper list) ∙ split list
  where
    split : (list : List VariableShare) → sum_over h (filter (λ s. not (is_upper s)) list) +ℚ sum_over h (filter is_upper list) ≡ sum_over h list
    split [] = ring_ℚ [] (zero_of :+ zero_of) zero_of tt
    split (s ∷ list) = by (is_upper s) (split list)
      where
        by : (b : Bool) → sum_over h (filter (λ s. not (is_upper s)) list) +ℚ sum_over h (filter is_upper list) ≡ sum_over h list
            → sum_over h (cond (not b) (s ∷ filter (λ s. not (is_upper s)) list) (filter (λ s. not (is_upper s)) list)) +ℚ sum_over h (cond b (s ∷ filter is_upper list) (filter is_upper list)) ≡ h s +ℚ sum_over h list
        by true e = ring_ℚ (h s ∷ sum_over h (filter (λ s. not (is_upper s)) list) ∷ sum_over h (filter is_upper list) ∷ []) (x1 :+ (x0 :+ x2)) (x0 :+ (x1 :+ x2)) tt ∙ ap (λ z. h s +ℚ z) e
        by false e = ring_ℚ (h s ∷ sum_over h (filter (λ s. not (is_upper s)) list) ∷ sum_over h (filter is_upper list) ∷ []) ((x0 :+ x1) :+ x2) (x0 :+ (x1 :+ x2)) tt ∙ ap (λ z. h s +ℚ z) e

numbers_sum : (f : ℕ → ℚ) (a n : ℕ) → sum_over f (numbers_from a n) ≡ sum_below n (λ k. f (a + k))
numbers_sum f a zero = refl
numbers_sum f a (suc n) =
    sum_over-append f (numbers_from a n) ((a + n) ∷ [])
    ∙ ap (λ z. z +ℚ (f (a + n) +ℚ zero_ℚ)) (numbers_sum f a n)
    ∙ ring_ℚ (sum_below n (λ k. f (a + k)) ∷ f (a + n) ∷ []) (x0 :+ (x1 :+ zero_of)) (x0 :+ x1) tt

-- a sum over all shares is one over all variables
pub blocked_sum : (system : LinearSystem) (c : ℕ → ℚ) (g : ℕ → Side → ℚ)
    → let n = length system.columns in let m = length system.rows in
    sum_over (λ (s : VariableShare). signed s.side s.weight *ℚ g s.variable s.side) (shares_for c (numbers_from n m) ++ (filter (λ s. not (is_upper s)) (shares_for c (numbers_from 0 n)) ++ filter is_upper (shares_for c (numbers_from 0 n))))
    ≡ sum_below (n + m) (λ v. c v *ℚ g v (cond (lt_q zero_ℚ (c v)) Up Lo))
blocked_sum system c g =
    let n : ℕ = length system.columns in
    let m : ℕ = length system.rows in
    let h : VariableShare → ℚ = λ s. signed s.side s.weight *ℚ g s.variable s.side in
    let f : ℕ → ℚ = λ v. c v *ℚ g v (cond (lt_q zero_ℚ (c v)) Up Lo) in
    sum_over-append h (shares_for c (numbers_from n m)) _
    ∙ ap (λ z. sum_over h (shares_for c (numbers_from n m)) +ℚ z) (both_kinds h (shares_for c (numbers_from 0 n)) ∙ shares_sum g c (numbers_from 0 n) ∙ numbers_sum f 0 n ∙ sum_below-ext n (λ k. f (0 + k)) f (λ k l. ap f (let e : 0 + k ≡ k = omega arith in e)))
    ∙ ap (λ z. z +ℚ sum_below n f) (shares_sum g c (numbers_from n m) ∙ numbers_sum f n m)
    ∙ ring_ℚ (sum_below m (λ k. f (n + k)) ∷ sum_below n f ∷ []) (x0 :+ x1) (x1 :+ x0) tt
    ∙ sym (sum_below-split n m f)

-- ---- the row's identity
module _ (system : LinearSystem) (t : Tableau) (i : ℕ) (of : IsTableauOf system t) (bi : is_basic t.basis i ≡ true) (li : i < length system.columns + length system.rows) where
  abbrev all : ℕ
  all = length system.columns + length system.rows

  abbrev own : ℕ → ℚ
  own v = cond (v == i) one_ℚ (cond (is_basic t.basis v) zero_ℚ (neg_ℚ (t.factor i v)))

  past_objective : (x : Assignment) → row_value t i x ≡ sum_below all (λ k. cond (not (is_basic t.basis k)) (t.factor i k *ℚ x k) zero_ℚ)
  past_objective x = sum_passing (λ k. t.factor i k *ℚ x k) (length t.basis) (λ k. not (is_basic t.basis k)) ∙ by (is_some system.objective) refl
    where
      h : ℕ → ℚ
      h k = cond (not (is_basic t.basis k)) (t.factor i k *ℚ x k) zero_ℚ

      by : (b : Bool) → is_some system.objective ≡ b → sum_below (length t.basis) (λ k. cond (not (is_basic t.basis k)) (t.factor i k *ℚ x k) zero_ℚ) ≡ sum_below all (λ k. cond (not (is_basic t.basis k)) (t.factor i k *ℚ x k) zero_ℚ)
      by false e = ap (λ z. sum_below z (λ k. cond (not (is_basic t.basis k)) (t.factor i k *ℚ x k) zero_ℚ)) (of.size ∙ ap (λ z. all + cond z 1 0) e ∙ (let q : all + 0 ≡ all = omega arith in q))
      by true e =
          ap (λ z. sum_below z (λ k. cond (not (is_basic t.basis k)) (t.factor i k *ℚ x k) zero_ℚ)) (of.size ∙ ap (λ z. all + cond z 1 0) e ∙ (let q : all + 1 ≡ suc all = omega arith in q))
          ∙ ap (λ z. sum_below all (λ k. cond (not (is_basic t.basis k)) (t.factor i k *ℚ x k) zero_ℚ) +ℚ cond (not z) (t.factor i all *ℚ x all) zero_ℚ) (of.objective_basic e)
          ∙ ring_ℚ (sum_below all (λ k. cond (not (is_basic t.basis k)) (t.factor i k *ℚ x k) zero_ℚ) ∷ []) (x0 :+ zero_of) x0 tt

  own_term : (x : Assignment) (v : ℕ) → own v *ℚ x v ≡ (cond (i == v) one_ℚ zero_ℚ *ℚ x v) +ℚ (neg_ℚ one_ℚ *ℚ cond (not (is_basic t.basis v)) (t.factor i v *ℚ x v) zero_ℚ)
  own_term x v =
      elim (cases_eq v i) [
        | inl e ↦
            (ap (λ z. z *ℚ x v) (cond-true (v == i) one_ℚ _ (eq-eqb v i e))
            ∙ ring_ℚ (x v ∷ []) (unit_of :* x0) (unit_of :* x0 :+ minus unit_of :* zero_of) tt
            ∙ ap (λ z. (z *ℚ x v) +ℚ (neg_ℚ one_ℚ *ℚ zero_ℚ)) (sym (cond-true (i == v) one_ℚ zero_ℚ (eq-eqb i v (sym e))))
            ∙ ap (λ z. (cond (i == v) one_ℚ zero_ℚ *ℚ x v) +ℚ (neg_ℚ one_ℚ *ℚ cond (not z) (t.factor i v *ℚ x v) zero_ℚ)) (sym (ap (is_basic t.basis) e ∙ bi)))
        | inr e ↦
            (ap (λ z. z *ℚ x v) (cond-false (v == i) one_ℚ _ (ne_eqb v i e))
            ∙ by (is_basic t.basis v)
            ∙ ap (λ z. (z *ℚ x v) +ℚ (neg_ℚ one_ℚ *ℚ cond (not (is_basic t.basis v)) (t.factor i v *ℚ x v) zero_ℚ)) (sym (cond-false (i == v) one_ℚ zero_ℚ (ne_eqb i v (λ q. e (sym q))))))
      ]
    where
      by : (b : Bool) → cond b zero_ℚ (neg_ℚ (t.factor i v)) *ℚ x v ≡ (zero_ℚ *ℚ x v) +ℚ (neg_ℚ one_ℚ *ℚ cond (not b) (t.factor i v *ℚ x v) zero_ℚ)
      by true = ring_ℚ (x v ∷ []) (zero_of :* x0) (zero_of :* x0 :+ minus unit_of :* zero_of) tt
      by false = ring_ℚ (t.factor i v ∷ x v ∷ []) (minus x0 :* x1) (zero_of :* x1 :+ minus unit_of :* (x0 :* x1)) tt

  own_total : (x : Assignment) → sum_below all (λ v. own v *ℚ x v) ≡ x i -ℚ row_value t i x
  own_total x =
      let h : ℕ → ℚ = λ k. cond (not (is_basic t.basis k)) (t.factor i k *ℚ x k) zero_ℚ in
      sum_below-ext all (λ v. own v *ℚ x v) (λ v. (cond (i == v) one_ℚ zero_ℚ *ℚ x v) +ℚ (neg_ℚ one_ℚ *ℚ h v)) (λ v l. own_term x v)
      ∙ sum_below-add all (λ v. cond (i == v) one_ℚ zero_ℚ *ℚ x v) (λ v. neg_ℚ one_ℚ *ℚ h v)
      ∙ ap (λ z. z +ℚ sum_below all (λ v. neg_ℚ one_ℚ *ℚ h v)) (sum_below-one all i one_ℚ x li)
      ∙ ap (λ z. one_ℚ *ℚ x i +ℚ z) (sum_below-scale all (neg_ℚ one_ℚ) h)
      ∙ ring_ℚ (x i ∷ sum_below all h ∷ []) (unit_of :* x0 :+ minus unit_of :* x1) (x0 :- x1) tt
      ∙ ap (λ z. x i -ℚ z) (sym (past_objective x))

  multiples_total : (side : Side) (x : Assignment) → sum_below all (λ v. blocked_multiple t i side v *ℚ x v) ≡ signed side (x i -ℚ row_value t i x)
  multiples_total side x =
      sum_below-ext all (λ v. blocked_multiple t i side v *ℚ x v) (λ v. signed side one_ℚ *ℚ (own v *ℚ x v)) (λ v l. ap (λ z. z *ℚ x v) (signed_as side (own v)) ∙ ring_ℚ (signed side one_ℚ ∷ own v ∷ x v ∷ []) ((x0 :* x1) :* x2) (x0 :* (x1 :* x2)) tt)
      ∙ sum_below-scale all (signed side one_ℚ) (λ v. own v *ℚ x v)
      ∙ ap (λ z. signed side one_ℚ *ℚ z) (own_total x)
      ∙ sym (signed_as side (x i -ℚ row_value t i x))

  -- ---- the columns cancel
  module _ (formed : IsWellFormedSystem system) (k : ℕ) where
    -- the values of all variables where column k is 1 and the others are 0
    alone_at : Assignment
    alone_at v = cond (ltb v all) (factor_of (variable_form system v) k) (sum_over (λ terms. factor_of terms k) (forms_of system.objective))

    column_at : (j : ℕ) → j < length system.columns → alone_at j ≡ cond (k == j) one_ℚ zero_ℚ
    unfolding alone_at
    column_at j l =
        cond-true (ltb j all) _ _ (lt-ltb j all (omega arith))
        ∙ ap (λ b. factor_of (cond b (column_form j) (get_or system.rows (j - length system.columns) empty_system_row).terms) k) (lt-ltb j (length system.columns) l)
        ∙ flip (cases_eq j k)
      where
        flip : (j ≡ k) ⊎ (j ≡ k → ⊥) → cond (j == k) one_ℚ zero_ℚ +ℚ zero_ℚ ≡ cond (k == j) one_ℚ zero_ℚ
        flip (inl e) = ap (λ z. z +ℚ zero_ℚ) (cond-true (j == k) one_ℚ zero_ℚ (eq-eqb j k e)) ∙ ring_ℚ [] (unit_of :+ zero_of) unit_of tt ∙ sym (cond-true (k == j) one_ℚ zero_ℚ (eq-eqb k j (sym e)))
        flip (inr e) = ap (λ z. z +ℚ zero_ℚ) (cond-false (j == k) one_ℚ zero_ℚ (ne_eqb j k e)) ∙ ring_ℚ [] (zero_of :+ zero_of) zero_of tt ∙ sym (cond-false (k == j) one_ℚ zero_ℚ (ne_eqb k j (λ q. e (sym q))))

    form_at_one : k < length system.columns → (terms : List Term) → All (λ t. t.column < length system.columns) terms → form_value terms alone_at ≡ factor_of terms k
    form_at_one lk terms known =
        by_known (length system.columns) terms alone_at known
        ∙ sum_below-ext (length system.columns) (λ j. factor_of terms j *ℚ alone_at j) (λ j. cond (k == j) one_ℚ zero_ℚ *ℚ factor_of terms j) (λ j l. ap (λ z. factor_of terms j *ℚ z) (column_at j l) ∙ ring_ℚ (factor_of terms j ∷ cond (k == j) one_ℚ zero_ℚ ∷ []) (x0 :* x1) (x1 :* x0) tt)
        ∙ sum_below-one (length system.columns) k one_ℚ (factor_of terms) lk
        ∙ ring_ℚ (factor_of terms k ∷ []) (unit_of :* x0) x0 tt

    keeps_alone : k < length system.columns → KeepsRows system alone_at
    unfolding alone_at
    keeps_alone lk = record {
      rows = λ r l.
          cond-true (ltb (length system.columns + r) all) _ _ (lt-ltb (length system.columns + r) all (omega arith))
          ∙ ap (λ b. factor_of (cond b (column_form (length system.columns + r)) (get_or system.rows (length system.columns + r - length system.columns) empty_system_row).terms) k) (le-ltb (length system.columns + r) (length system.columns) (omega arith))
          ∙ (let e : length system.columns + r - length system.columns ≡ r = omega arith in ap (λ z. factor_of (get_or system.rows z empty_system_row).terms k) e)
          ∙ sym (form_at_one lk (get_or system.rows r empty_system_row).terms (All-get_or (λ r. IsForm (length system.columns) r.terms) system.rows r empty_system_row l formed.rows).known);
      objective = by system.objective refl;
    }
      where
        by : (q : Option (List Term)) → system.objective ≡ q → IfSome q (λ terms. alone_at all ≡ form_value terms alone_at)
        by None e = tt
        by (Some terms) e =
            cond-false (ltb all all) _ _ (le-ltb all all (omega arith)) ∙ ap (λ q. sum_over (λ terms. factor_of terms k) (forms_of q)) e ∙ ring_ℚ (factor_of terms k ∷ []) (x0 :+ zero_of) x0 tt
            ∙ sym (form_at_one lk terms (let f : IsForm (length system.columns) terms = subst (λ q. IfSome q (IsForm (length system.columns))) e formed.objective in f.known))

    pub cancels_at : (side : Side) → k < length system.columns → sum_below all (λ v. blocked_multiple t i side v *ℚ factor_of (variable_form system v) k) ≡ zero_ℚ
    unfolding alone_at
    cancels_at side lk =
        sum_below-ext all (λ v. blocked_multiple t i side v *ℚ factor_of (variable_form system v) k) (λ v. blocked_multiple t i side v *ℚ alone_at v) (λ v l. ap (λ z. blocked_multiple t i side v *ℚ z) (sym (cond-true (ltb v all) _ _ (lt-ltb v all l))))
        ∙ multiples_total side alone_at
        ∙ ap (λ z. signed side (z -ℚ row_value t i alone_at)) ((of.table alone_at).0 (keeps_alone lk) i bi)
        ∙ ap (signed side) (ring_ℚ (row_value t i alone_at ∷ []) (x0 :- x0) zero_of tt)
        ∙ nothing side
      where
        nothing : (side : Side) → signed side zero_ℚ ≡ zero_ℚ
        nothing Lo = ring_ℚ [] (minus zero_of) zero_of tt
        nothing Up = refl

-- ---- what is left is below 0
meets_is : (o : Option ℚ) (v : ℚ) → meets o v ≡ true → IsSome o × (number_or_zero o ≡ v)
meets_is None v e = absurd (true≢false (sym e))
meets_is (Some b) v e = (refl, (eq-Decides b v).0 e)

met : (b : Bool) → not b ≡ false → b ≡ true
met true e = refl
met false e = absurd (true≢false e)

both_false : (a b : Bool) → a ≡ true → (a && b) ≡ false → b ≡ false
both_false true b e h = h
both_false false b e h = absurd (true≢false (sym e))

below_is : (c : ℚ) → lt_q zero_ℚ c ≡ false → c ≢ zero_ℚ → lt_q c zero_ℚ ≡ true
below_is c e n = elim (cases_Bool (lt_q c zero_ℚ)) [ inl h ↦ h | inr h ↦ absurd (n (le_antisymm_ℚ (lt_q-false zero_ℚ c e) (lt_q-false c zero_ℚ h))) ]

opposite_below : (f : ℚ) → lt_q zero_ℚ (neg_ℚ f) ≡ true → lt_q f zero_ℚ ≡ true
opposite_below f e = elim (cases_Bool (lt_q f zero_ℚ)) [
  | inl h ↦ h
  | inr h ↦ (lt-le_clash_ℚ (lt_q-true zero_ℚ (neg_ℚ f) e) (le_by (f ∷ []) (minus x0) zero_of (x0 :- zero_of) (nonneg_of_le (lt_q-false f zero_ℚ h)) tt))
]

opposite_above : (f : ℚ) → lt_q (neg_ℚ f) zero_ℚ ≡ true → lt_q zero_ℚ f ≡ true
opposite_above f e = elim (cases_Bool (lt_q zero_ℚ f)) [
  | inl h ↦ h
  | inr h ↦ (lt-le_clash_ℚ (lt_q-true (neg_ℚ f) zero_ℚ e) (le_by (f ∷ []) zero_of (minus x0) (zero_of :- x0) (nonneg_of_le (lt_q-false zero_ℚ f h)) tt))
]

module _ (system : LinearSystem) (t : Tableau) (i : ℕ) (side : Side) (formed : IsWellFormedSystem system) (of : IsTableauOf system t) (stuck : IsStuck t i side) where
  first : (i < limited t) × (is_basic t.basis i ≡ true)
  first = (found_is (is_outside t) (λ k. (k < limited t) × (is_basic t.basis k ≡ true)) (limited_basics t) i (below_all (is_basic t.basis) (limited t)) stuck.first).0

  basic_first : is_basic t.basis i ≡ true
  basic_first = first.1

  known_first : i < length system.columns + length system.rows
  known_first = subst (λ n. i < n) (limited_is system t of) first.0

  abbrev c : ℕ → ℚ
  c = blocked_multiple t i side

  abbrev kind : ℕ → Side
  kind v = cond (lt_q zero_ℚ (c v)) Up Lo

  abbrev limit_of : ℕ → Side → ℚ
  limit_of v s = number_or_zero (limit_on (limits_at t v) s)

  abbrev values : ℕ → ℚ
  values v = cond (v == i) (limit_of i side) (place_value t v)

  unhelped : (v : ℕ) → v < length t.basis → is_basic t.basis v ≡ false → helps t side i v ≡ false
  unhelped v l n = All-contains (λ k. helps t side i k ≡ false) (nonbasics t.basis) v (none_passes (helps t side i) (nonbasics t.basis) stuck.none) (listed (λ k. not (is_basic t.basis k)) (length t.basis) v l (ap not n))

  -- the share of another variable is of the limit at which it stands
  record Stands (v : ℕ) : Type 0 where
    there : IsSome (limit_on (limits_at t v) (kind v))
    is : limit_of v (kind v) ≡ place_value t v

  at_upper : (v : ℕ) → lt_q zero_ℚ (c v) ≡ true → can_rise t v ≡ false → Stands v
  at_upper v e h =
      let m = meets_is (limits_at t v).upper (place_value t v) (met (meets (limits_at t v).upper (place_value t v)) h) in
      record { there = subst (λ b. IsSome (limit_on (limits_at t v) (cond b Up Lo))) (sym e) m.0; is = ap (λ b. limit_of v (cond b Up Lo)) e ∙ m.1 }

  at_lower : (v : ℕ) → lt_q zero_ℚ (c v) ≡ false → can_fall t v ≡ false → Stands v
  at_lower v e h =
      let m = meets_is (limits_at t v).lower (place_value t v) (met (meets (limits_at t v).lower (place_value t v)) h) in
      record { there = subst (λ b. IsSome (limit_on (limits_at t v) (cond b Up Lo))) (sym e) m.0; is = ap (λ b. limit_of v (cond b Up Lo)) e ∙ m.1 }

  stands_by : (s : Side) (v : ℕ) → c v ≡ signed s (neg_ℚ (t.factor i v)) → helps t s i v ≡ false → c v ≢ zero_ℚ → Stands v
  stands_by Lo v e h n =
      let parts = or_parts (lt_q zero_ℚ (t.factor i v) && can_rise t v) (lt_q (t.factor i v) zero_ℚ && can_fall t v) h in
      let same : c v ≡ t.factor i v = e ∙ ring_ℚ (t.factor i v ∷ []) (minus (minus x0)) x0 tt in
      elim (cases_Bool (lt_q zero_ℚ (c v))) [
        | inl p ↦ at_upper v p (both_false (lt_q zero_ℚ (t.factor i v)) (can_rise t v) (ap (lt_q zero_ℚ) (sym same) ∙ p) parts.0)
        | inr p ↦ at_lower v p (both_false (lt_q (t.factor i v) zero_ℚ) (can_fall t v) (ap (λ z. lt_q z zero_ℚ) (sym same) ∙ below_is (c v) p n) parts.1)
      ]
  stands_by Up v e h n =
      let parts = or_parts (lt_q (t.factor i v) zero_ℚ && can_rise t v) (lt_q zero_ℚ (t.factor i v) && can_fall t v) h in
      elim (cases_Bool (lt_q zero_ℚ (c v))) [
        | inl p ↦ at_upper v p (both_false (lt_q (t.factor i v) zero_ℚ) (can_rise t v) (opposite_below (t.factor i v) (ap (lt_q zero_ℚ) (sym e) ∙ p)) parts.0)
        | inr p ↦ at_lower v p (both_false (lt_q zero_ℚ (t.factor i v)) (can_fall t v) (opposite_above (t.factor i v) (ap (λ z. lt_q z zero_ℚ) (sym e) ∙ below_is (c v) p n)) parts.1)
      ]

  multiple_nonbasic : (v : ℕ) → v ≢ i → is_basic t.basis v ≡ false → c v ≡ signed side (neg_ℚ (t.factor i v))
  multiple_nonbasic v n b = ap (signed side) (cond-false (v == i) one_ℚ _ (ne_eqb v i n) ∙ cond-false (is_basic t.basis v) zero_ℚ _ b)

  signed_zero : (s : Side) → signed s zero_ℚ ≡ zero_ℚ
  signed_zero Lo = ring_ℚ [] (minus zero_of) zero_of tt
  signed_zero Up = refl

  multiple_basic : (v : ℕ) → v ≢ i → is_basic t.basis v ≡ true → c v ≡ zero_ℚ
  multiple_basic v n b = ap (signed side) (cond-false (v == i) one_ℚ _ (ne_eqb v i n) ∙ cond-true (is_basic t.basis v) zero_ℚ _ b) ∙ signed_zero side

  multiple_first : c i ≡ signed side one_ℚ
  multiple_first = ap (signed side) (cond-true (i == i) one_ℚ _ (eq-eqb i i refl))

  kind_by : (s : Side) → cond (lt_q zero_ℚ (signed s one_ℚ)) Up Lo ≡ s
  kind_by Up = cond-true (lt_q zero_ℚ one_ℚ) Up Lo (above (positive_is.1 positive-one))
    where
      above : zero_ℚ <ℚ one_ℚ → lt_q zero_ℚ one_ℚ ≡ true
      above h = elim (cases_Bool (lt_q zero_ℚ one_ℚ)) [ inl e ↦ e | inr e ↦ (lt-le_clash_ℚ h (lt_q-false zero_ℚ one_ℚ e)) ]
  kind_by Lo = cond-false (lt_q zero_ℚ (neg_ℚ one_ℚ)) Up Lo (elim (cases_Bool (lt_q zero_ℚ (neg_ℚ one_ℚ))) [ inl e ↦ (lt-le_clash_ℚ (lt_q-true one_ℚ zero_ℚ (opposite_below one_ℚ e)) (le_of_lt_ℚ (positive_is.1 positive-one))) | inr e ↦ e ])

  kind_first : kind i ≡ side
  kind_first = ap (λ z. cond (lt_q zero_ℚ z) Up Lo) multiple_first ∙ kind_by side

  other_stands : (v : ℕ) → v < length system.columns + length system.rows → v ≢ i → c v ≢ zero_ℚ → Stands v
  other_stands v l n nz =
      elim (cases_Bool (is_basic t.basis v)) [
        | inl b ↦ absurd (nz (multiple_basic v n b))
        | inr b ↦ stands_by side v (multiple_nonbasic v n b) (helped v l b) nz
      ]
    where
      helped : (v : ℕ) → v < length system.columns + length system.rows → is_basic t.basis v ≡ false → helps t side i v ≡ false
      helped v l b = unhelped v (subst (λ n. v < n) (sym of.size) (omega arith)) b

  first_there : IsSome (limit_on (limits_at t i) side)
  first_there = missed_there (limits_at t i) (basic_value t i) side stuck.missed

  pub there_at : (v : ℕ) → v < length system.columns + length system.rows → c v ≢ zero_ℚ → IsSome (limit_on (variable_limits system v) (kind v))
  there_at v l n =
      subst (λ z. IsSome (limit_on z (kind v))) (limits_are system t of v l)
      (elim (cases_eq v i) [
        | inl e ↦ subst (λ z. IsSome (limit_on (limits_at t z) (kind z))) (sym e) (subst (λ s. IsSome (limit_on (limits_at t i) s)) (sym kind_first) first_there)
        | inr e ↦ (other_stands v l e n).there
      ])

  term_at : (v : ℕ) → v < length system.columns + length system.rows → c v *ℚ number_or_zero (limit_on (variable_limits system v) (kind v)) ≡ c v *ℚ values v
  term_at v l =
      ap (λ z. c v *ℚ number_or_zero (limit_on z (kind v))) (sym (limits_are system t of v l))
      ∙ elim (cases_eq v i) [
        | inl e ↦
            (ap (λ z. c v *ℚ limit_of z (kind z)) e ∙ ap (λ s. c v *ℚ limit_of i s) kind_first ∙ ap (λ z. c v *ℚ z) (sym (cond-true (v == i) (limit_of i side) (place_value t v) (eq-eqb v i e))))
        | inr e ↦
            (by v l e (cases_Bool (eq_ℚ (c v) zero_ℚ)) ∙ ap (λ z. c v *ℚ z) (sym (cond-false (v == i) (limit_of i side) (place_value t v) (ne_eqb v i e))))
      ]
    where
      by : (v : ℕ) → v < length system.columns + length system.rows → v ≢ i → (eq_ℚ (c v) zero_ℚ ≡ true) ⊎ (eq_ℚ (c v) zero_ℚ ≡ false) → c v *ℚ limit_of v (kind v) ≡ c v *ℚ place_value t v
      by v l n (inl e) =
          let z : c v ≡ zero_ℚ = (eq-Decides (c v) zero_ℚ).0 e in
          ap (λ q. q *ℚ limit_of v (kind v)) z ∙ nothing_times (limit_of v (kind v)) ∙ sym (nothing_times (place_value t v)) ∙ ap (λ q. q *ℚ place_value t v) (sym z)
      by v l n (inr e) = ap (λ z. c v *ℚ z) (other_stands v l n (λ z. true≢false (sym ((eq-Decides (c v) zero_ℚ).1 z) ∙ e))).is

  row_at_values : row_value t i values ≡ basic_value t i
  row_at_values = sum_nonbasic t.basis (λ k. t.factor i k *ℚ values k) (λ k. t.factor i k *ℚ place_value t k)
      (λ k l n. ap (λ z. t.factor i k *ℚ z) (cond-false (k == i) (limit_of i side) (place_value t k) (ne_eqb k i (λ e. true≢false (sym basic_first ∙ ap (is_basic t.basis) (sym e) ∙ n)))))

  missed_below : (limits : Limits) (v : ℚ) (s : Side) → missed_side limits v ≡ Some s → signed s (number_or_zero (limit_on limits s) -ℚ v) <ℚ zero_ℚ
  missed_below limits v s e = by (is_under limits.lower v) (is_over limits.upper v) refl refl e
    where
      none : (s : Side) → ◌≡◌ {A = Option Side} None (Some s) → ⊥
      none s q = cc

      lower : (o : Option ℚ) → is_under o v ≡ true → signed Lo (number_or_zero o -ℚ v) <ℚ zero_ℚ
      lower None h = absurd (true≢false (sym h))
      lower (Some b) h = lt_by (b ∷ v ∷ []) (minus (x0 :- x1)) zero_of (x0 :- x1) (positive_of_lt (lt_q-true v b h)) tt

      upper : (o : Option ℚ) → is_over o v ≡ true → signed Up (number_or_zero o -ℚ v) <ℚ zero_ℚ
      upper None h = absurd (true≢false (sym h))
      upper (Some b) h = lt_by (b ∷ v ∷ []) (x0 :- x1) zero_of (x1 :- x0) (positive_of_lt (lt_q-true b v h)) tt

      by : (a b : Bool) → is_under limits.lower v ≡ a → is_over limits.upper v ≡ b → cond a (Some Lo) (cond b (Some Up) None) ≡ Some s → signed s (number_or_zero (limit_on limits s) -ℚ v) <ℚ zero_ℚ
      by true b f h q = subst (λ s. signed s (number_or_zero (limit_on limits s) -ℚ v) <ℚ zero_ℚ) (some_same Lo s q) (lower limits.lower f)
      by false true f h q = subst (λ s. signed s (number_or_zero (limit_on limits s) -ℚ v) <ℚ zero_ℚ) (some_same Up s q) (upper limits.upper h)
      by false false f h q = absurd (none s q)

  below_zero_at : sum_below (length system.columns + length system.rows) (λ v. c v *ℚ number_or_zero (limit_on (variable_limits system v) (kind v))) <ℚ zero_ℚ
  below_zero_at =
      subst (λ z. z <ℚ zero_ℚ)
      (sym (sum_below-ext (length system.columns + length system.rows) (λ v. c v *ℚ number_or_zero (limit_on (variable_limits system v) (kind v))) (λ v. c v *ℚ values v) (λ v l. term_at v l)
      ∙ multiples_total system t i of basic_first known_first side values
      ∙ ap (λ z. signed side (z -ℚ row_value t i values)) (cond-true (i == i) (limit_of i side) (place_value t i) (eq-eqb i i refl))
      ∙ ap (λ z. signed side (limit_of i side -ℚ z)) row_at_values))
      (missed_below (limits_at t i) (basic_value t i) side stuck.missed)

  -- ---- the list
  Fine : VariableShare → Type 0
  Fine s = (zero_ℚ <ℚ s.weight) × ((s.variable < length system.columns + length system.rows) × IsSome (limit_on (variable_limits system s.variable) s.side))

  fine_share : (v : ℕ) → v < length system.columns + length system.rows → All Fine (share_for v (c v))
  unfolding Fine
  fine_share v l =
      cond_both (eq_ℚ (c v) zero_ℚ) [] _ (All (λ (s : VariableShare). (zero_ℚ <ℚ s.weight) × ((s.variable < length system.columns + length system.rows) × IsSome (limit_on (variable_limits system s.variable) s.side))))
      (λ e. All-nil (λ (s : VariableShare). (zero_ℚ <ℚ s.weight) × ((s.variable < length system.columns + length system.rows) × IsSome (limit_on (variable_limits system s.variable) s.side))))
      (λ e. some (λ z. true≢false (sym ((eq-Decides (c v) zero_ℚ).1 z) ∙ e)))
    where
      some : c v ≢ zero_ℚ → All (λ (s : VariableShare). (zero_ℚ <ℚ s.weight) × ((s.variable < length system.columns + length system.rows) × IsSome (limit_on (variable_limits system s.variable) s.side))) (cond (lt_q zero_ℚ (c v)) (record { variable = v; side = Up; weight = c v } ∷ []) (record { variable = v; side = Lo; weight = neg_ℚ (c v) } ∷ []))
      some n =
          cond_both (lt_q zero_ℚ (c v)) _ _ (All (λ (s : VariableShare). (zero_ℚ <ℚ s.weight) × ((s.variable < length system.columns + length system.rows) × IsSome (limit_on (variable_limits system s.variable) s.side))))
          (λ e. All-cons (λ (s : VariableShare). (zero_ℚ <ℚ s.weight) × ((s.variable < length system.columns + length system.rows) × IsSome (limit_on (variable_limits system s.variable) s.side))) (record { variable = v; side = Up; weight = c v }) []
          (lt_q-true zero_ℚ (c v) e, (l, subst (λ b. IsSome (limit_on (variable_limits system v) (cond b Up Lo))) e (there_at v l n)))
          (All-nil (λ (s : VariableShare). (zero_ℚ <ℚ s.weight) × ((s.variable < length system.columns + length system.rows) × IsSome (limit_on (variable_limits system s.variable) s.side)))))
          (λ e. All-cons (λ (s : VariableShare). (zero_ℚ <ℚ s.weight) × ((s.variable < length system.columns + length system.rows) × IsSome (limit_on (variable_limits system s.variable) s.side))) (record { variable = v; side = Lo; weight = neg_ℚ (c v) }) []
          (lt_by (c v ∷ []) zero_of (minus x0) (zero_of :- x0) (positive_of_lt (lt_q-true (c v) zero_ℚ (below_is (c v) e n))) tt, (l, subst (λ b. IsSome (limit_on (variable_limits system v) (cond b Up Lo))) e (there_at v l n)))
          (All-nil (λ (s : VariableShare). (zero_ℚ <ℚ s.weight) × ((s.variable < length system.columns + length system.rows) × IsSome (limit_on (variable_limits system s.variable) s.side)))))

  fine_shares : (list : List ℕ) → All (λ v. v < length system.columns + length system.rows) list → All Fine (shares_for c list)
  fine_shares [] h = All-nil Fine
  fine_shares (v ∷ list) h = All-append Fine (share_for v (c v)) (shares_for c list) (fine_share v (All-head (λ v. v < length system.columns + length system.rows) v list h)) (fine_shares list (All-tail (λ v. v < length system.columns + length system.rows) v list h))

  numbers_below : (a k d : ℕ) → a + k ≤ d → All (λ v. v < d) (numbers_from a k)
  numbers_below a zero d h = All-nil (λ v. v < d)
  numbers_below a (suc k) d h = All-append (λ v. v < d) (numbers_from a k) ((a + k) ∷ []) (numbers_below a k d (omega arith)) (All-cons (λ v. v < d) (a + k) [] (omega arith) (All-nil (λ v. v < d)))

  fine_all : All Fine (blocked_shares system t i side)
  fine_all =
      let columns : List VariableShare = shares_for c (numbers_from 0 (length system.columns)) in
      let h : All Fine columns = fine_shares (numbers_from 0 (length system.columns)) (numbers_below 0 (length system.columns) (length system.columns + length system.rows) (omega arith)) in
      All-append Fine (shares_for c (numbers_from (length system.columns) (length system.rows))) _
      (fine_shares (numbers_from (length system.columns) (length system.rows)) (numbers_below (length system.columns) (length system.rows) (length system.columns + length system.rows) (omega arith)))
      (All-append Fine (filter (λ s. not (is_upper s)) columns) (filter is_upper columns) (All-filter (λ s. not (is_upper s)) Fine columns h) (All-filter is_upper Fine columns h))

  pub combination_of : IsVariableCombination system (blocked_shares system t i side)
  unfolding Fine
  combination_of = record {
    positive = All-weaker Fine (λ s. zero_ℚ <ℚ s.weight) (λ s h. h.0) (blocked_shares system t i side) fine_all;
    known = All-weaker Fine (λ s. s.variable < length system.columns + length system.rows) (λ s h. h.1.0) (blocked_shares system t i side) fine_all;
    there = All-weaker Fine (λ s. IsSome (limit_on (variable_limits system s.variable) s.side)) (λ s h. h.1.1) (blocked_shares system t i side) fine_all;
    cancels = λ k l. blocked_sum system c (λ v s. factor_of (variable_form system v) k) ∙ cancels_at system t i of basic_first known_first formed k side l;
    contradicts = subst (λ z. z <ℚ zero_ℚ) (sym (blocked_sum system c (λ v s. number_or_zero (limit_on (variable_limits system v) s)))) below_zero_at;
  }

pub blocked_law : BlockedLaw
blocked_law system t i side formed of e = combination_of system t i side formed of (blocked_parts t i side e)
