-- The objective's row of the last table of the alternative system is a price, so its support is a cheapest weighting.
use Rattle.std.proofs.Common.{◌≡◌, ◌+◌, ◌<◌, refl, sym, ◌∙◌, ap, subst, ℕ, suc, cond, List, [], ◌∷◌, length, get_or, Option, None, Some, IfSome, IsSome, is_some, true, inl, inr, eqb, eq-eqb, ne_eqb}
use Rattle.std.specs.Prelude.{All}
use Rattle.std.proofs.lemmas.Bool.{cond-true, cond-false, cases_Bool, cases_eq}
use Rattle.std.proofs.lemmas.List.Elements.{All-weaker, All-from_get_or}
use Rattle.algebra.proofs.Ring.{x0, x1, x2, x3, ◌:+◌, ◌:-◌, ◌:*◌, minus, zero_of, unit_of}
use Rattle.rational.specs.Rational.{ℚ, ◌+ℚ◌, ◌-ℚ◌, ◌*ℚ◌, neg_ℚ, zero_ℚ, one_ℚ, ◌≤ℚ◌}
use Rattle.rational.specs.Sum.{sum_below}
use Rattle.rational.specs.Linear.{Term, Assignment, form_value, factor_of}
use Rattle.rational.proofs.Field.{ring_ℚ, ring_by2_ℚ}
use Rattle.rational.proofs.Order.{le_by, le_refl_ℚ, nonneg_of_le}
use Rattle.rational.proofs.Sums.{sum_below-ext, sum_below-scale, sum_below-one}
use Rattle.lp_model.specs.declared.members.Member.{Member}
use Rattle.lp_model.specs.Program.{Program, IsWellFormed}
use Rattle.lp_model.specs.Members.{value, number, side, weight}
use Rattle.certs.specs.Combination.{number_or_zero, signed}
use Rattle.certs.specs.Alternative.{cost_of, source_cost, cost, IsPriced, IsPrice}
use Rattle.certs.specs.System.{is_basic, Place, bounding, member_factor, member_number, member_cost, terms_from, alternative_system, support, IsLastTable, IsOptimal, price_total, price_at, CheapestLaw}
use Rattle.evidence_laws.proofs.Priced.{price_law}
use Rattle.evidence_laws.proofs.Columns.{sum_with, terms_from_zero, unit, unit-same, unit-other, sum_with-unit, extended, extended_member, extended_row, extended_last, extended_objective, system_columns, system_rows, extended_keeps}
use Rattle.evidence_laws.proofs.LastTable.{no_member, share_of, support_sum, decomposed, names_nothing, bounding_known, member_value, value_is, weighting_of, there_in}
use Rattle.certs.proofs.Lists.{All-passed}

sum_with-neg : (f : Member → ℚ) (members : List Member) (u : ℕ → ℚ) → sum_with (λ m. neg_ℚ (f m)) members u ≡ neg_ℚ (sum_with f members u)
unfolding sum_with
sum_with-neg f [] u = ring_ℚ [] zero_of (minus zero_of) tt
sum_with-neg f (m ∷ members) u =
    ap (λ z. (neg_ℚ (f m) *ℚ u 0) +ℚ z) (sum_with-neg f members (λ e. u (suc e)))
    ∙ ring_ℚ (f m ∷ u 0 ∷ sum_with f members (λ e. u (suc e)) ∷ []) (minus x0 :* x1 :+ minus x2) (minus (x0 :* x1 :+ x2)) tt

pub sum_below-unit : (n k : ℕ) (f : ℕ → ℚ) → k < n → sum_below n (λ v. f v *ℚ unit k v) ≡ f k
sum_below-unit n k f l =
    sum_below-ext n (λ v. f v *ℚ unit k v) (λ v. cond (eqb k v) one_ℚ zero_ℚ *ℚ f v)
    (λ v h.
    elim (cases_eq k v) [
      | inl e ↦
          (subst (λ w. f w *ℚ unit k w ≡ cond (eqb k w) one_ℚ zero_ℚ *ℚ f w) e
          (ap (λ z. f k *ℚ z) (unit-same k) ∙ ring_ℚ (f k ∷ []) (x0 :* unit_of) (unit_of :* x0) tt ∙ ap (λ z. z *ℚ f k) (sym (cond-true (eqb k k) one_ℚ zero_ℚ (eq-eqb k k refl)))))
      | inr e ↦
          ap (λ z. f v *ℚ z) (unit-other k v e) ∙ ring_ℚ (f v ∷ []) (x0 :* zero_of) (zero_of :* x0) tt ∙ ap (λ z. z *ℚ f v) (sym (cond-false (eqb k v) one_ℚ zero_ℚ (ne_eqb k v e)))
    ])
    ∙ sum_below-one n k one_ℚ f l
    ∙ ring_ℚ (f k ∷ []) (unit_of :* x0) x0 tt

-- ---- what holds of each member that asks for a number
HasPrice : Program → ℚ → Assignment → Member → Type 0
HasPrice model t z m = signed (side m) (value model m z) -ℚ t *ℚ member_number model m ≤ℚ member_cost model m

priced_where_there : (model : Program) (t : ℚ) (z : Assignment) (m : Member) → (IsSome (number model m) → HasPrice model t z m) → IsPriced model t z m
unfolding HasPrice
priced_where_there model t z m = go (number model m)
  where
    go : (o : Option ℚ) → (IsSome o → signed (side m) (value model m z) -ℚ t *ℚ signed (side m) (number_or_zero o) ≤ℚ cost_of (weight model m))
        → IfSome o (λ b. signed (side m) (value model m z) -ℚ t *ℚ signed (side m) b ≤ℚ cost_of (weight model m))
    go None h = tt
    go (Some b) h = h refl

all_priced : (model : Program) (t : ℚ) (z : Assignment) (set : List Member) → All (HasPrice model t z) (bounding model set) → IsPrice model set t z
all_priced model t z set h =
    let passed : All (λ m. is_some (number model m) ≡ true → HasPrice model t z m) set = All-passed (λ m. is_some (number model m)) (HasPrice model t z) set h in
    All-weaker (λ m. is_some (number model m) ≡ true → HasPrice model t z m) (IsPriced model t z) (priced_where_there model t z) set passed

module _ (model : Program) (set : List Member) (basis : List Place) (table : ℕ → List Term) (y : Assignment) (formed : IsWellFormed model) (last : IsLastTable model set basis table y) where
  objective : ℕ
  objective = length (bounding model set) + suc (length model.columns)

  -- the objective's identity at each member alone
  objective_at : (k : ℕ) → k < length (bounding model set)
      → neg_ℚ (member_cost model (get_or (bounding model set) k no_member))
      ≡ factor_of (table objective) k
      +ℚ (sum_below (length model.columns) (λ j. factor_of (table objective) (length (bounding model set) + j) *ℚ member_factor model j (get_or (bounding model set) k no_member))
      +ℚ factor_of (table objective) (length (bounding model set) + length model.columns) *ℚ member_number model (get_or (bounding model set) k no_member))
  unfolding objective
  objective_at k l =
      let members : List Member = bounding model set in
      let n : ℕ = length members in
      let c : ℕ = length model.columns in
      let x : Assignment = extended model members c (unit k) in
      let here : Member = get_or members k no_member in
      let o : ℕ = n + suc c in
      let f : ℕ → ℚ = factor_of (table o) in
      sym (extended_objective model members c (unit k) ∙ sum_with-unit (λ m. neg_ℚ (member_cost model m)) members k no_member l)
      ∙ last.table_is.equals x (extended_keeps model set (unit k)) o last.objective_basic
      ∙ decomposed model set basis table y formed last o last.objective_basic x
      ∙ ap (λ z. z +ℚ (sum_below c (λ j. f (n + j) *ℚ x (n + j)) +ℚ f (n + c) *ℚ x (n + c)))
      (sum_below-ext n (λ v. f v *ℚ x v) (λ v. f v *ℚ unit k v) (λ v h. ap (λ z. f v *ℚ z) (extended_member model members c (unit k) v h)) ∙ sum_below-unit n k f l)
      ∙ ap (λ z. f k +ℚ (z +ℚ f (n + c) *ℚ x (n + c)))
      (sum_below-ext c (λ j. f (n + j) *ℚ x (n + j)) (λ j. f (n + j) *ℚ member_factor model j here)
      (λ j h. ap (λ z. f (n + j) *ℚ z) (extended_row model members c (unit k) j h ∙ sum_with-unit (member_factor model j) members k no_member l)))
      ∙ ap (λ z. f k +ℚ (sum_below c (λ j. f (n + j) *ℚ member_factor model j here) +ℚ f (n + c) *ℚ z)) (extended_last model members c (unit k) ∙ sum_with-unit (member_number model) members k no_member l)

  no_more : (optimal : IsOptimal model set basis table) (k : ℕ) → k < length (bounding model set) → factor_of (table (length (bounding model set) + suc (length model.columns))) k ≤ℚ zero_ℚ
  no_more optimal k l =
      elim (cases_Bool (is_basic basis k)) [
        | inl h ↦
            subst (λ z. z ≤ℚ zero_ℚ) (sym (names_nothing model set basis table y formed last (length (bounding model set) + suc (length model.columns)) k last.objective_basic h)) (le_refl_ℚ zero_ℚ)
        | inr h ↦ optimal.no_gain k l h
      ]

  member_priced : (optimal : IsOptimal model set basis table) (k : ℕ) → k < length (bounding model set) → HasPrice model (price_total model set table) (price_at model set table) (get_or (bounding model set) k no_member)
  unfolding HasPrice objective
  member_priced optimal k l =
      let n : ℕ = length (bounding model set) in
      let c : ℕ = length model.columns in
      let here : Member = get_or (bounding model set) k no_member in
      let f : ℕ → ℚ = factor_of (table (n + suc c)) in
      let total : ℚ = sum_below c (λ j. f (n + j) *ℚ member_factor model j here) in
      let value_at : signed (side here) (value model here (price_at model set table)) ≡ neg_ℚ one_ℚ *ℚ total =
      member_value model here (price_at model set table) (bounding_known model set k l formed)
      ∙ sum_below-ext c (λ j. member_factor model j here *ℚ neg_ℚ (f (n + j))) (λ j. neg_ℚ one_ℚ *ℚ (f (n + j) *ℚ member_factor model j here))
      (λ j h. ring_ℚ (member_factor model j here ∷ f (n + j) ∷ []) (x0 :* minus x1) (minus unit_of :* (x1 :* x0)) tt)
      ∙ sum_below-scale c (neg_ℚ one_ℚ) (λ j. f (n + j) *ℚ member_factor model j here) in
      let cost_is : member_cost model here ≡ neg_ℚ (f k +ℚ (total +ℚ f (n + c) *ℚ member_number model here)) =
      ring_ℚ (member_cost model here ∷ []) x0 (minus (minus x0)) tt ∙ ap neg_ℚ (objective_at k l) in
      subst (λ v. v -ℚ f (n + c) *ℚ member_number model here ≤ℚ member_cost model here) (sym value_at)
      (subst (λ w. neg_ℚ one_ℚ *ℚ total -ℚ f (n + c) *ℚ member_number model here ≤ℚ w) (sym cost_is)
      (le_by (f k ∷ total ∷ f (n + c) ∷ member_number model here ∷ []) (minus unit_of :* x1 :- x2 :* x3) (minus (x0 :+ (x1 :+ x2 :* x3))) (zero_of :- x0) (nonneg_of_le (no_more optimal k l)) tt))

  cost_total : cost model (support (bounding model set) y) ≡ price_total model set table
  unfolding share_of
  cost_total =
      let members : List Member = bounding model set in
      let n : ℕ = length members in
      let c : ℕ = length model.columns in
      let terms : List Term = terms_from 0 (λ m. neg_ℚ (member_cost model m)) members in
      let kept : y (length (alternative_system model set).columns + length (alternative_system model set).rows) ≡ form_value terms y = last.keeps.objective in
      let here : y (n + suc c) ≡ form_value terms y =
      subst (λ r. y (n + r) ≡ form_value terms y) (system_rows model set) (subst (λ a. y (a + length (alternative_system model set).rows) ≡ form_value terms y) (system_columns model set) kept) in
      let summed : y (n + suc c) ≡ neg_ℚ (sum_with (member_cost model) members y) =
      here ∙ terms_from_zero (λ m. neg_ℚ (member_cost model m)) members y ∙ sum_with-neg (member_cost model) members y in
      support_sum (λ s. source_cost model s.source *ℚ s.weight) (member_cost model) (λ m q. refl) members y last.nonnegative
      ∙ ring_by2_ℚ (sum_with (member_cost model) members y ∷ y (n + suc c) ∷ factor_of (table (n + suc c)) (n + c) ∷ []) x0 x2 (minus unit_of) x1 (minus x2) unit_of x1 (minus x0)
      (value_is model set basis table y formed last (n + suc c) last.objective_basic) summed tt

pub cheapest_law : CheapestLaw
cheapest_law model set basis table y formed last optimal =
    let price : IsPrice model set (price_total model set table) (price_at model set table) =
    all_priced model (price_total model set table) (price_at model set table) set
    (All-from_get_or (HasPrice model (price_total model set table) (price_at model set table)) (bounding model set) no_member (member_priced model set basis table y formed last optimal)) in
    let total : cost model (support (bounding model set) y) ≡ price_total model set table = cost_total model set basis table y formed last in (
      price,
      total,
      record {
        weighting = weighting_of model set basis table y formed last set (there_in model set basis table y formed last);
        cheapest = λ others w. subst (λ t. t ≤ℚ cost model others) (sym total) (price_law model set (price_total model set table) (price_at model set table) price others w);
      },
    )
