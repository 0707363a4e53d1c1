-- What shows that there is no weighting of a set gives a point of it.
use Rattle.std.proofs.Common.{◌≡◌, ◌≢◌, ◌+◌, ◌-◌, ◌<◌, refl, sym, ◌∙◌, ap, subst, ℕ, suc, Bool, true, false, true≢false, cond, ◌==◌, ltb, List, [], ◌∷◌, length, get_or, None, Some, IsSome, is_some, arith, inl, inr, eq-eqb, ne_eqb, lt-ltb, ltb-true}
use Rattle.std.specs.Prelude.{All}
use Rattle.std.proofs.lemmas.List.{get_or-map}
use Rattle.std.proofs.lemmas.Bool.{cond-true, cond-false, cases_lt, cases_Bool, cases_eq}
use Rattle.std.proofs.lemmas.List.Elements.{All-head, All-tail, All-nil, All-cons, All-from_get_or}
use lib.Dec.{T, eqb→eq}
use Rattle.algebra.proofs.Ring.{x0, x1, x2, x3, ◌:+◌, ◌:-◌, ◌:*◌, minus, zero_of, unit_of}
use Rattle.rational.specs.Rational.{ℚ, ◌+ℚ◌, ◌-ℚ◌, ◌*ℚ◌, neg_ℚ, inv_ℚ, zero_ℚ, one_ℚ, ◌≤ℚ◌, ◌<ℚ◌}
use Rattle.rational.specs.Sum.{sum_over, sum_below}
use Rattle.rational.specs.Linear.{Term, Assignment, form_value, factor_of}
use Rattle.rational.proofs.Field.{ring_ℚ, ring_by_ℚ, mul-inv_ℚ}
use Rattle.rational.proofs.Order.{le_by, lt_by, le_refl_ℚ, le_of_lt_ℚ, lt_irrefl_ℚ, add-le_ℚ, inv-pos_ℚ, nonneg_of_le, nonneg_is, nonneg-mul, positive_of_lt}
use Rattle.rational.proofs.Sums.{sum_below-ext, sum_below-zero, sum_below-scale, sum_below-split, sum_over-ext_on}
use Rattle.rational.proofs.Forms.{by_known}
use Rattle.lp_model.specs.declared.members.Member.{Member}
use Rattle.lp_model.specs.declared.members.Side.{Side}
use Rattle.lp_model.specs.declared.members.Side.TheVariants.{Lo, Up}
use Rattle.lp_model.specs.Program.{Program, IsWellFormed}
use Rattle.lp_model.specs.Members.{column_form, value, number, side, is_mark}
use Rattle.lp_model.specs.Satisfaction.{values_at, Satisfies, IsSatisfiable}
use Rattle.certs.specs.Combination.{number_or_zero, signed}
use Rattle.certs.specs.System.{Limits, no_limits, empty_system_row, equal_to, bounding, member_factor, member_number, terms_from, alternative_system, variable_form, variable_limits, limit_on, VariableShare, IsVariableCombination, net, net_point, NoWeightingLaw}
use Rattle.evidence_laws.proofs.Support.{satisfiable_at}
use Rattle.evidence_laws.proofs.Columns.{terms_from_zero, unit, unit-same, unit-other, sum_with-unit, row_is, number_row_is, system_columns, system_rows}
use Rattle.evidence_laws.proofs.Cheapest.{sum_below-unit}
use Rattle.evidence_laws.proofs.LastTable.{no_member, bounding_known, tabulate, tabulated, member_value}
use Rattle.certs.proofs.Lists.{All-passed}
use Rattle.certs.proofs.Sides.{KeepsSide}
use Rattle.evidence_laws.proofs.Kept.{holds_of, side_of_le}

-- ---- the weights on each variable
net_terms : List VariableShare → List Term
net_terms [] = []
net_terms (s ∷ shares) = record { column = s.variable; factor = signed s.side s.weight } ∷ net_terms shares

net_is : (shares : List VariableShare) → factor_of (net_terms shares) ≡ net shares
unfolding net_terms
net_is [] = refl
net_is (s ∷ shares) = λ i. λ v. cond (s.variable == v) (signed s.side s.weight) zero_ℚ +ℚ net_is shares i v

net_value : (shares : List VariableShare) (f : ℕ → ℚ) → sum_over (λ s. signed s.side s.weight *ℚ f s.variable) shares ≡ form_value (net_terms shares) f
unfolding net_terms
net_value [] f = refl
net_value (s ∷ shares) f = ap (λ z. (signed s.side s.weight *ℚ f s.variable) +ℚ z) (net_value shares f)

net_known : (n : ℕ) (shares : List VariableShare) → All (λ s. s.variable < n) shares → All (λ t. t.column < n) (net_terms shares)
unfolding net_terms
net_known n [] h = All-nil (λ (t : Term). t.column < n)
net_known n (s ∷ shares) h =
    All-cons (λ t. t.column < n) (record { column = s.variable; factor = signed s.side s.weight }) (net_terms shares) (All-head (λ s. s.variable < n) s shares h) (net_known n shares (All-tail (λ s. s.variable < n) s shares h))

-- in three parts: the first n variables, the next c, and one more
net_parts : (n c : ℕ) (shares : List VariableShare) → All (λ s. s.variable < n + suc c) shares → (f : ℕ → ℚ)
    → sum_over (λ s. signed s.side s.weight *ℚ f s.variable) shares
    ≡ sum_below n (λ v. net shares v *ℚ f v) +ℚ (sum_below c (λ j. net shares (n + j) *ℚ f (n + j)) +ℚ net shares (n + c) *ℚ f (n + c))
net_parts n c shares h f =
    net_value shares f
    ∙ by_known (n + suc c) (net_terms shares) f (net_known (n + suc c) shares h)
    ∙ ap (λ (g : ℕ → ℚ). sum_below (n + suc c) (λ v. g v *ℚ f v)) (net_is shares)
    ∙ sum_below-split n (suc c) (λ v. net shares v *ℚ f v)

-- where a variable is used on `lo` alone, the weight on it is not above 0
lo_factor : (t : Bool) (side : Side) (w : ℚ) → (t ≡ true → side ≡ Lo) → zero_ℚ <ℚ w → cond t (signed side w) zero_ℚ ≤ℚ zero_ℚ
lo_factor false side w h p = le_refl_ℚ zero_ℚ
lo_factor true Lo w h p = le_by (w ∷ []) (minus x0) zero_of x0 (nonneg_is.0 (le_of_lt_ℚ p)) tt
lo_factor true Up w h p = absurd (let e : Up ≡ Lo = h refl in cc)

net_below : (shares : List VariableShare) (k : ℕ) → All (λ s. zero_ℚ <ℚ s.weight) shares → All (λ s. s.variable ≡ k → s.side ≡ Lo) shares → net shares k ≤ℚ zero_ℚ
net_below [] k p h = le_refl_ℚ zero_ℚ
net_below (s ∷ shares) k p h =
    subst (λ z. cond (s.variable == k) (signed s.side s.weight) zero_ℚ +ℚ net shares k ≤ℚ z) (ring_ℚ [] (zero_of :+ zero_of) zero_of tt)
    (add-le_ℚ
    (lo_factor (s.variable == k) s.side s.weight (λ e. All-head (λ s. s.variable ≡ k → s.side ≡ Lo) s shares h (eqb→eq s.variable k (subst T (sym e) tt))) (All-head (λ s. zero_ℚ <ℚ s.weight) s shares p))
    (net_below shares k (All-tail (λ s. zero_ℚ <ℚ s.weight) s shares p) (All-tail (λ s. s.variable ≡ k → s.side ≡ Lo) s shares h)))

-- ---- factors at one column
factor_unit : (ts : List Term) (k : ℕ) → factor_of ts k ≡ form_value ts (unit k)
factor_unit [] k = refl
factor_unit (t ∷ ts) k =
    ap (λ z. cond (t.column == k) t.factor zero_ℚ +ℚ z) (factor_unit ts k)
    ∙ ap (λ z. z +ℚ form_value ts (unit k))
    (elim (cases_eq t.column k) [
      | inl e ↦
          cond-true (t.column == k) t.factor zero_ℚ (eq-eqb t.column k e) ∙ ring_ℚ (t.factor ∷ []) x0 (x0 :* unit_of) tt
          ∙ ap (λ z. t.factor *ℚ z) (sym (subst (λ v. unit k v ≡ one_ℚ) (sym e) (unit-same k)))
      | inr e ↦
          cond-false (t.column == k) t.factor zero_ℚ (ne_eqb t.column k e) ∙ ring_ℚ (t.factor ∷ []) zero_of (x0 :* zero_of) tt
          ∙ ap (λ z. t.factor *ℚ z) (sym (unit-other k t.column (λ p. e (sym p))))
    ])

column_unit : (v k : ℕ) → factor_of (column_form v) k ≡ unit k v
column_unit v k = factor_unit (column_form v) k ∙ ring_ℚ (unit k v ∷ []) (unit_of :* x0 :+ zero_of) x0 tt

terms_factor : (f : Member → ℚ) (members : List Member) (k : ℕ) → k < length members → factor_of (terms_from 0 f members) k ≡ f (get_or members k no_member)
terms_factor f members k l = factor_unit (terms_from 0 f members) k ∙ terms_from_zero f members (unit k) ∙ sum_with-unit f members k no_member l

-- ---- the variables of the alternative system
module _ (model : Program) (set : List Member) where
  is_column : (v : ℕ) → v < length (bounding model set) → ltb v (length (alternative_system model set).columns) ≡ true
  is_column v l = lt-ltb v (length (alternative_system model set).columns) (let e : length (alternative_system model set).columns ≡ length (bounding model set) = system_columns model set in omega arith)

  is_row : (j : ℕ) → ltb (length (bounding model set) + j) (length (alternative_system model set).columns) ≡ false
  is_row j =
      elim (cases_Bool (ltb (length (bounding model set) + j) (length (alternative_system model set).columns))) [
        | inl h ↦ absurd (below h)
        | inr h ↦ h
      ]
    where
      below : ltb (length (bounding model set) + j) (length (alternative_system model set).columns) ≡ true → ⊥
      below h =
          let k : length (bounding model set) + j < length (alternative_system model set).columns = ltb-true (length (bounding model set) + j) (length (alternative_system model set).columns) h in
          let e : length (alternative_system model set).columns ≡ length (bounding model set) = system_columns model set in
          omega arith

  row_index : (j : ℕ) → (length (bounding model set) + j) - length (alternative_system model set).columns ≡ j
  row_index j = let e : length (alternative_system model set).columns ≡ length (bounding model set) = system_columns model set in omega arith

  member_form : (v : ℕ) → v < length (bounding model set) → variable_form (alternative_system model set) v ≡ column_form v
  member_form v l = cond-true (ltb v (length (alternative_system model set).columns)) (column_form v) _ (is_column v l)

  member_limits_are : (v : ℕ) → v < length (bounding model set) → variable_limits (alternative_system model set) v ≡ record { lower = Some zero_ℚ; upper = None }
  member_limits_are v l = cond-true (ltb v (length (alternative_system model set).columns)) _ _ (is_column v l) ∙ get_or-map (λ m. record { lower = Some zero_ℚ; upper = None }) (bounding model set) v no_member no_limits l

  row_form : (j : ℕ) → variable_form (alternative_system model set) (length (bounding model set) + j) ≡ (get_or (alternative_system model set).rows j empty_system_row).terms
  row_form j =
      cond-false (ltb (length (bounding model set) + j) (length (alternative_system model set).columns)) (column_form (length (bounding model set) + j)) _ (is_row j)
      ∙ ap (λ i. (get_or (alternative_system model set).rows i empty_system_row).terms) (row_index j)

  row_limits : (j : ℕ) → variable_limits (alternative_system model set) (length (bounding model set) + j) ≡ (get_or (alternative_system model set).rows j empty_system_row).limits
  row_limits j =
      cond-false (ltb (length (bounding model set) + j) (length (alternative_system model set).columns)) _ _ (is_row j) ∙ ap (λ i. (get_or (alternative_system model set).rows i empty_system_row).limits) (row_index j)

-- ---- the point
one_limit : (limits : Limits) (side : Side) (q : ℚ) → limits ≡ equal_to q → number_or_zero (limit_on limits side) ≡ q
one_limit limits Lo q e = ap (λ l. number_or_zero l.lower) e
one_limit limits Up q e = ap (λ l. number_or_zero l.upper) e

zero_limit : (limits : Limits) (side : Side) → limits ≡ record { lower = Some zero_ℚ; upper = None } → number_or_zero (limit_on limits side) ≡ zero_ℚ
zero_limit limits Lo e = ap (λ l. number_or_zero l.lower) e
zero_limit limits Up e = ap (λ l. number_or_zero l.upper) e

lower_only : (limits : Limits) (side : Side) → limits ≡ record { lower = Some zero_ℚ; upper = None } → IsSome (limit_on limits side) → side ≡ Lo
lower_only limits Lo e h = refl
lower_only limits Up e h = absurd (true≢false (sym h ∙ ap (λ l. is_some l.upper) e))

module _ (model : Program) (set : List Member) (shares : List VariableShare) (formed : IsWellFormed model) (shown : IsVariableCombination (alternative_system model set) shares) where
  known_shares : All (λ s. s.variable < length (bounding model set) + suc (length model.columns)) shares
  known_shares =
      subst (λ r. All (λ s. s.variable < length (bounding model set) + r) shares) (system_rows model set)
      (subst (λ a. All (λ s. s.variable < a + length (alternative_system model set).rows) shares) (system_columns model set) shown.known)

  parts : (f : ℕ → ℚ)
      → sum_over (λ s. signed s.side s.weight *ℚ f s.variable) shares
      ≡ sum_below (length (bounding model set)) (λ v. net shares v *ℚ f v)
      +ℚ (sum_below (length model.columns) (λ j. net shares (length (bounding model set) + j) *ℚ f (length (bounding model set) + j))
      +ℚ net shares (length (bounding model set) + length model.columns) *ℚ f (length (bounding model set) + length model.columns))
  parts f = net_parts (length (bounding model set)) (length model.columns) shares known_shares f

  -- each member's column
  balance : (k : ℕ) → k < length (bounding model set)
      → zero_ℚ
      ≡ net shares k
      +ℚ (sum_below (length model.columns) (λ j. net shares (length (bounding model set) + j) *ℚ member_factor model j (get_or (bounding model set) k no_member))
      +ℚ net shares (length (bounding model set) + length model.columns) *ℚ member_number model (get_or (bounding model set) k no_member))
  balance k l =
      let members : List Member = bounding model set in
      let n : ℕ = length members in
      let c : ℕ = length model.columns in
      let here : Member = get_or members k no_member in
      let f : ℕ → ℚ = λ v. factor_of (variable_form (alternative_system model set) v) k in
      let in_system : k < length (alternative_system model set).columns = (let e : length (alternative_system model set).columns ≡ length (bounding model set) = system_columns model set in omega arith) in
      sym (shown.cancels k in_system)
      ∙ parts f
      ∙ ap (λ z. z +ℚ (sum_below c (λ j. net shares (n + j) *ℚ f (n + j)) +ℚ net shares (n + c) *ℚ f (n + c)))
      (sum_below-ext n (λ v. net shares v *ℚ f v) (λ v. net shares v *ℚ unit k v) (λ v h. ap (λ z. net shares v *ℚ z) (ap (λ terms. factor_of terms k) (member_form model set v h) ∙ column_unit v k))
      ∙ sum_below-unit n k (net shares) l)
      ∙ ap (λ z. net shares k +ℚ (z +ℚ net shares (n + c) *ℚ f (n + c)))
      (sum_below-ext c (λ j. net shares (n + j) *ℚ f (n + j)) (λ j. net shares (n + j) *ℚ member_factor model j here)
      (λ j h. ap (λ z. net shares (n + j) *ℚ z) (ap (λ terms. factor_of terms k) (row_form model set j ∙ ap (λ r. r.terms) (row_is model set j h)) ∙ terms_factor (member_factor model j) members k l)))
      ∙ ap (λ z. net shares k +ℚ (sum_below c (λ j. net shares (n + j) *ℚ member_factor model j here) +ℚ net shares (n + c) *ℚ z))
      (ap (λ terms. factor_of terms k) (row_form model set c ∙ ap (λ r. r.terms) (number_row_is model set)) ∙ terms_factor (member_number model) members k l)

  net_low : (k : ℕ) → k < length (bounding model set) → net shares k ≤ℚ zero_ℚ
  net_low k l =
      net_below shares k shown.positive
      (λ i d h e. lower_only (variable_limits (alternative_system model set) (get_or shares i d).variable) (get_or shares i d).side
      (ap (variable_limits (alternative_system model set)) e ∙ member_limits_are model set k l) (shown.there i d h))

  -- the last row's numbers alone count
  last_number : ℕ → ℚ
  last_number v = cond (v == length (bounding model set) + length model.columns) (neg_ℚ one_ℚ) zero_ℚ

  limit_is : (v : ℕ) (side : Side) → v < length (bounding model set) + suc (length model.columns) → number_or_zero (limit_on (variable_limits (alternative_system model set) v) side) ≡ last_number v
  unfolding last_number
  limit_is v side l =
      let n : ℕ = length (bounding model set) in
      let c : ℕ = length model.columns in
      elim (cases_lt v n) [
        | inl h ↦
            zero_limit (variable_limits (alternative_system model set) v) side (member_limits_are model set v h)
            ∙ sym (cond-false (v == n + c) (neg_ℚ one_ℚ) zero_ℚ (ne_eqb v (n + c) (λ e. omega arith)))
        | inr h ↦
            (let at : n + (v - n) ≡ v = omega arith in
            elim (cases_lt (v - n) c) [
              | inl m ↦
                  one_limit (variable_limits (alternative_system model set) v) side zero_ℚ
                  (ap (variable_limits (alternative_system model set)) (sym at) ∙ row_limits model set (v - n) ∙ ap (λ r. r.limits) (row_is model set (v - n) m))
                  ∙ sym (cond-false (v == n + c) (neg_ℚ one_ℚ) zero_ℚ (ne_eqb v (n + c) (λ e. omega arith)))
              | inr m ↦
                  (let same : v ≡ n + c = omega arith in
                  one_limit (variable_limits (alternative_system model set) v) side (neg_ℚ one_ℚ)
                  (ap (variable_limits (alternative_system model set)) same ∙ row_limits model set c ∙ ap (λ r. r.limits) (number_row_is model set))
                  ∙ sym (cond-true (v == n + c) (neg_ℚ one_ℚ) zero_ℚ (eq-eqb v (n + c) same)))
            ])
      ]

  last_positive : zero_ℚ <ℚ net shares (length (bounding model set) + length model.columns)
  unfolding last_number
  last_positive =
      let n : ℕ = length (bounding model set) in
      let c : ℕ = length model.columns in
      let t : ℚ = net shares (n + c) in
      let f : ℕ → ℚ = λ v. cond (v == n + c) (neg_ℚ one_ℚ) zero_ℚ in
      let total : sum_over (λ s. signed s.side s.weight *ℚ number_or_zero (limit_on (variable_limits (alternative_system model set) s.variable) s.side)) shares ≡ neg_ℚ t =
      sum_over-ext_on (λ s. s.variable < n + suc c) (λ s. signed s.side s.weight *ℚ number_or_zero (limit_on (variable_limits (alternative_system model set) s.variable) s.side)) (λ s. signed s.side s.weight *ℚ f s.variable)
      (λ s l. ap (λ z. signed s.side s.weight *ℚ z) (limit_is s.variable s.side l)) shares known_shares
      ∙ parts f
      ∙ ap (λ z. z +ℚ (sum_below c (λ j. net shares (n + j) *ℚ f (n + j)) +ℚ t *ℚ f (n + c)))
      (sum_below-ext n (λ v. net shares v *ℚ f v) (λ v. zero_ℚ)
      (λ v h. ap (λ z. net shares v *ℚ z) (cond-false (v == n + c) (neg_ℚ one_ℚ) zero_ℚ (ne_eqb v (n + c) (λ e. omega arith))) ∙ ring_ℚ (net shares v ∷ []) (x0 :* zero_of) zero_of tt)
      ∙ sum_below-zero n)
      ∙ ap (λ z. zero_ℚ +ℚ (z +ℚ t *ℚ f (n + c)))
      (sum_below-ext c (λ j. net shares (n + j) *ℚ f (n + j)) (λ j. zero_ℚ)
      (λ j h. ap (λ z. net shares (n + j) *ℚ z) (cond-false (n + j == n + c) (neg_ℚ one_ℚ) zero_ℚ (ne_eqb (n + j) (n + c) (λ e. omega arith))) ∙ ring_ℚ (net shares (n + j) ∷ []) (x0 :* zero_of) zero_of tt)
      ∙ sum_below-zero c)
      ∙ ap (λ z. zero_ℚ +ℚ (zero_ℚ +ℚ t *ℚ z)) (cond-true (n + c == n + c) (neg_ℚ one_ℚ) zero_ℚ (eq-eqb (n + c) (n + c) refl))
      ∙ ring_ℚ (t ∷ []) (zero_of :+ (zero_of :+ x0 :* minus unit_of)) (minus x0) tt in
      lt_by (t ∷ []) zero_of x0 (zero_of :- minus x0) (positive_of_lt (subst (λ z. z <ℚ zero_ℚ) total shown.contradicts)) tt

  -- the values of the point on the columns
  IsShown : Assignment → Type 0
  IsShown x = (j : ℕ) → j < length model.columns → x j ≡ net_point model set shares j

  IsKept : Assignment → Member → Type 0
  IsKept x m = signed (side m) (value model m x) ≤ℚ member_number model m

  module _ (x : Assignment) (shows : IsShown x) where
    member_kept : (k : ℕ) → k < length (bounding model set) → IsKept x (get_or (bounding model set) k no_member)
    unfolding IsShown IsKept
    member_kept k l =
        let n : ℕ = length (bounding model set) in
        let c : ℕ = length model.columns in
        let here : Member = get_or (bounding model set) k no_member in
        let t : ℚ = net shares (n + c) in
        let r : ℚ = inv_ℚ t in
        let total : ℚ = sum_below c (λ j. net shares (n + j) *ℚ member_factor model j here) in
        let some : t ≢ zero_ℚ = λ e. lt_irrefl_ℚ {a = zero_ℚ} (subst (λ z. zero_ℚ <ℚ z) e last_positive) in
        let value_is : signed (side here) (value model here x) ≡ neg_ℚ r *ℚ total =
        member_value model here x (bounding_known model set k l formed)
        ∙ sum_below-ext c (λ j. member_factor model j here *ℚ x j) (λ j. neg_ℚ r *ℚ (net shares (n + j) *ℚ member_factor model j here))
        (λ j h.
        ap (λ z. member_factor model j here *ℚ z) (shows j h)
        ∙ ring_ℚ (member_factor model j here ∷ net shares (n + j) ∷ r ∷ []) (x0 :* (minus x1 :* x2)) (minus x2 :* (x1 :* x0)) tt)
        ∙ sum_below-scale c (neg_ℚ r) (λ j. net shares (n + j) *ℚ member_factor model j here) in
        let total_is : total ≡ neg_ℚ (net shares k) -ℚ t *ℚ member_number model here =
        ring_by_ℚ (total ∷ net shares k ∷ t ∷ member_number model here ∷ []) x0 (minus x1 :- x2 :* x3) (minus unit_of) zero_of (x1 :+ (x0 :+ x2 :* x3)) (balance k l) tt in
        let done : signed (side here) (value model here x) ≡ member_number model here +ℚ r *ℚ net shares k =
        value_is ∙ ap (λ z. neg_ℚ r *ℚ z) total_is
        ∙ ring_by_ℚ (r ∷ net shares k ∷ t ∷ member_number model here ∷ []) (minus x0 :* (minus x1 :- x2 :* x3)) (x3 :+ x0 :* x1) x3 (x2 :* x0) unit_of (mul-inv_ℚ t some) tt in
        subst (λ z. z ≤ℚ member_number model here) (sym done)
        (le_by (r ∷ net shares k ∷ member_number model here ∷ []) (x2 :+ x0 :* x1) x2 (x0 :* (zero_of :- x1)) (nonneg-mul (nonneg_is.0 (le_of_lt_ℚ (inv-pos_ℚ last_positive))) (nonneg_of_le (net_low k l))) tt)

    kept_where_there : (m : Member) → (IsSome (number model m) → IsKept x m) → KeepsSide (side m) (number model m) (value model m x)
    unfolding IsKept
    kept_where_there m = side_of_le (side m) (number model m) (value model m x)

    shown_satisfies : All (λ m. is_mark m ≡ false) set → Satisfies model set x
    shown_satisfies linear =
        let kept : All (λ m. is_some (number model m) ≡ true → IsKept x m) set =
        All-passed (λ m. is_some (number model m)) (IsKept x) set (All-from_get_or (IsKept x) (bounding model set) no_member member_kept) in
        λ k d l. holds_of model x (get_or set k d) (linear k d l) (kept_where_there (get_or set k d) (kept k d l))

  point : List ℚ
  point = tabulate (length model.columns) (net_point model set shares)

  point_found : All (λ m. is_mark m ≡ false) set → IsSatisfiable model set × Satisfies model set (net_point model set shares)
  unfolding point IsShown
  point_found linear = (
    satisfiable_at model set point (shown_satisfies (values_at point) (λ j l. tabulated (length model.columns) (net_point model set shares) j l) linear),
    shown_satisfies (net_point model set shares) (λ j l. refl) linear,
  )

pub no_weighting_law : NoWeightingLaw
no_weighting_law model set shares formed linear shown = point_found model set shares formed shown linear
