-- Duals come back over each step.
use Rattle.std.proofs.Common.{◌≡◌, ◌≢◌, ◌+◌, ◌<◌, refl, sym, ◌∙◌, ap, subst, ℕ, ◌==◌, List, [], ◌∷◌, length, Some, is_some, arith, eq-eqb, ne_eqb}
use Rattle.std.proofs.lemmas.Bool.{cond-true, cond-false}
use Rattle.rational.specs.Rational.{ℚ, ◌+ℚ◌, ◌*ℚ◌, ◌/ℚ◌, neg_ℚ, zero_ℚ}
use Rattle.rational.specs.Linear.{Term, factor_of}
use Rattle.rational.proofs.Field.{ring_ℚ, x0, x1, x2, x3, ◌:+◌, ◌:-◌, minus}
use Rattle.lp_model.specs.Members.{column_form}
use Rattle.lp_model.specs.declared.members.Side.{Side}
use Rattle.lp_model.specs.declared.members.Side.TheVariants.{Lo, Up}
use Rattle.certs.specs.Combination.{number_or_zero}
use Rattle.certs.specs.System.{Limits, LinearSystem, variable_limits, limit_on}
use Rattle.reductions.specs.declared.steps.Doubleton.{Doubleton as Pair}
use Rattle.reductions.specs.declared.steps.Fixed.{Fixed as Value}
use Rattle.reductions.specs.declared.steps.Step.TheVariants.{Fixed, Doubleton}
use Rattle.reductions.specs.Back.{Weights, part_on, taken_of, equation_times, lower_quotient, upper_quotient, weights_before}
use Rattle.reductions.specs.Laws.{AreWeightsOf, IsAsLarge, balance, right}
use Rattle.reductions.specs.Reduction.{without_column, pair_terms}
use Rattle.reductions.specs.Stage.{row_in, limits_in}
use Rattle.reductions.proofs.WeightChanges.{column_left}
use Rattle.reductions.proofs.WeightSystems.{WeightLaws, variables, column_form_at, column_limits_at, row_form_at, row_limits_at}
use Rattle.trace_back.specs.Back.{dual_before, dual_times, left_of_column}
use Rattle.trace_back.proofs.Forms.{factor_left}
use Rattle.trace_back.proofs.Shifted.{shifted_balance, shifted_right, shifted_weights}

-- weights whose columns add up to the terms, and what they ask for to the bound
pub record AreDualWeights (system : LinearSystem) (terms : List Term) (w : Weights) (b : ℚ) : Type 0 where
  pub are : AreWeightsOf system w
  pub matches : (k : ℕ) → k < length system.columns → balance system w k ≡ factor_of terms k
  pub bound : right system w ≡ b

-- both limits at a number
abbrev AreBoth : Limits → ℚ → Type 0
AreBoth limits q = (limits.lower ≡ Some q) × (limits.upper ≡ Some q)

both_on : (limits : Limits) (q : ℚ) → AreBoth limits q → (side : Side) → limit_on limits side ≡ Some q
both_on limits q h Lo = h.0
both_on limits q h Up = h.1

module _ (system other : LinearSystem) (large : IsAsLarge system other) (w : Weights) where
  abbrev n : ℕ
  n = length system.columns

  there : (k : ℕ) → k < length system.columns → k < length other.columns
  there k l = subst (λ z. k < z) (sym large.columns) l

  -- ---- a step that leaves the objective
  pub same_dual : (before : Weights → Weights) (terms : List Term) (b : ℚ) → WeightLaws system other before → AreDualWeights other terms w b → AreDualWeights system terms (before w) b
  same_dual before terms b laws h = record {
    are = laws.weights w h.are;
    matches = λ k l. laws.balance_is w h.are k ∙ h.matches k (there k l);
    bound = laws.right_is w h.are ∙ h.bound;
  }

  -- ---- a column with a value
  module _ (f : Value) (terms : List Term) (b : ℚ) (known : f.column < length system.columns) (limits : AreBoth (limits_in system f.column) f.value)
      (laws : WeightLaws system other (weights_before (length system.columns) (Fixed f))) (objective : f.objective ≡ factor_of terms f.column) where
    abbrev j : ℕ
    j = f.column

    abbrev q : ℚ
    q = neg_ℚ (taken_of n f.changes w)

    more : neg_ℚ (left_of_column n f w) ≡ q +ℚ f.objective
    more = ring_ℚ (taken_of n f.changes w ∷ f.objective ∷ []) (minus (x0 :- x1)) (minus x0 :+ x1) tt

    others : (side : Side) (v : ℕ) → v ≢ j → dual_before n (Fixed f) w side v ≡ weights_before n (Fixed f) w side v
    others side v o = cond-false (v == j) _ _ (ne_eqb v j o) ∙ sym (cond-false (v == j) _ _ (ne_eqb v j o))

    was : (side : Side) → weights_before n (Fixed f) w side j ≡ part_on side q
    was side = cond-true (j == j) _ _ (eq-eqb j j refl)

    is : (side : Side) → dual_before n (Fixed f) w side j ≡ part_on side (q +ℚ f.objective)
    is side = cond-true (j == j) _ _ (eq-eqb j j refl) ∙ ap (part_on side) more

    below : j < variables system
    below = let l : j < length system.columns = known in omega arith

    limit_is : (side : Side) → limit_on (variable_limits system j) side ≡ Some f.value
    limit_is side = ap (λ z. limit_on z side) (column_limits_at system n refl j known) ∙ both_on (limits_in system j) f.value limits side

    pub fixed_dual : AreDualWeights other (without_column f.column terms) w b → AreDualWeights system terms (dual_before (length system.columns) (Fixed f) w) (b +ℚ f.objective *ℚ f.value)
    fixed_dual h =
        let old = weights_before n (Fixed f) w in
        let new = dual_before n (Fixed f) w in
        let z = f.objective in
        let base = laws.weights w h.are in
        record {
          are = shifted_weights system j old new q z below others was is (λ side. ap is_some (limit_is side)) base;
          matches = λ k l.
              shifted_balance system j old new q z below others was is k (factor_of (column_form j) k) (λ side. ap (λ t. factor_of t k) (column_form_at system n refl j known))
              ∙ ap (λ y. y +ℚ z *ℚ factor_of (column_form j) k) (laws.balance_is w h.are k ∙ h.matches k (there k l))
              ∙ ap (λ y. factor_of (without_column j terms) k +ℚ y *ℚ factor_of (column_form j) k) objective
              ∙ sym (column_left j terms k);
          bound =
              shifted_right system j old new q z below others was is f.value (λ side. ap number_or_zero (limit_is side))
              ∙ ap (λ y. y +ℚ z *ℚ f.value) (laws.right_is w h.are ∙ h.bound);
        }

  -- ---- an equation of two columns
  module _ (d : Pair) (terms : List Term) (b : ℚ) (known : d.row < length system.rows) (apart : d.x ≢ d.y) (some_b : d.b ≢ zero_ℚ)
      (equation : (row_in system d.row).terms ≡ record { column = d.x; factor = d.a } ∷ record { column = d.y; factor = d.b } ∷ []) (sides : AreBoth (row_in system d.row).limits d.c)
      (laws : WeightLaws system other (weights_before (length system.columns) (Doubleton d))) (objective : d.objective ≡ factor_of terms d.y /ℚ d.b) where
    abbrev r : ℕ
    r = n + d.row

    abbrev times : ℚ
    times = equation_times n d w

    abbrev two : List Term
    two = record { column = d.x; factor = d.a } ∷ record { column = d.y; factor = d.b } ∷ []

    more_times : dual_times n d w ≡ times +ℚ d.objective
    more_times = ring_ℚ (taken_of n d.changes w ∷ d.objective ∷ lower_quotient d w ∷ upper_quotient d w ∷ []) (((minus x0 :+ x1) :- x2) :+ x3) (((minus x0 :- x2) :+ x3) :+ x1) tt

    other_variables : (side : Side) (v : ℕ) → v ≢ r → dual_before n (Doubleton d) w side v ≡ weights_before n (Doubleton d) w side v
    other_variables side v o = cond-false (v == r) _ _ (ne_eqb v r o)

    times_were : (side : Side) → weights_before n (Doubleton d) w side r ≡ part_on side times
    times_were side = cond-true (r == r) _ _ (eq-eqb r r refl)

    times_are : (side : Side) → dual_before n (Doubleton d) w side r ≡ part_on side (times +ℚ d.objective)
    times_are side = cond-true (r == r) _ _ (eq-eqb r r refl) ∙ ap (part_on side) more_times

    row_below : r < variables system
    row_below = let l : d.row < length system.rows = known in omega arith

    side_is : (side : Side) → limit_on (variable_limits system r) side ≡ Some d.c
    side_is side = ap (λ z. limit_on z side) (row_limits_at system n refl d.row) ∙ both_on (row_in system d.row).limits d.c sides side

    pub pair_dual : AreDualWeights other (pair_terms d terms) w b → AreDualWeights system terms (dual_before (length system.columns) (Doubleton d) w) (b +ℚ d.objective *ℚ d.c)
    pair_dual h =
        let old = weights_before n (Doubleton d) w in
        let new = dual_before n (Doubleton d) w in
        let z = d.objective in
        record {
          are = shifted_weights system r old new times z row_below other_variables times_were times_are (λ side. ap is_some (side_is side)) (laws.weights w h.are);
          matches = λ k l.
              shifted_balance system r old new times z row_below other_variables times_were times_are k (factor_of two k) (λ side. ap (λ t. factor_of t k) (row_form_at system n refl d.row ∙ equation))
              ∙ ap (λ y. y +ℚ z *ℚ factor_of two k) (laws.balance_is w h.are k ∙ h.matches k (there k l))
              ∙ ap (λ y. factor_of (pair_terms d terms) k +ℚ y *ℚ factor_of two k) objective
              ∙ sym (factor_left d apart some_b terms k);
          bound =
              shifted_right system r old new times z row_below other_variables times_were times_are d.c (λ side. ap number_or_zero (side_is side))
              ∙ ap (λ y. y +ℚ z *ℚ d.c) (laws.right_is w h.are ∙ h.bound);
        }
