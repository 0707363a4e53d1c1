-- What each rule finds, and that weights come back over it.
use Rattle.std.proofs.Common.{◌≡◌, ◌≢◌, ◌<◌, refl, sym, ◌∙◌, ap, subst, ℕ, Bool, true, false, true≢false, cond, ◌&&◌, List, [], ◌∷◌, length, get_or, Option, Some, None, arith, inl, inr}
use Rattle.std.specs.Option.{option_and_then}
use Rattle.std.proofs.lemmas.Bool.{cases_lt, and_parts}
use Rattle.std.proofs.lemmas.List.{get_or_past}
use Rattle.std.proofs.lemmas.List.Elements.{All-head, All-tail, All-get_or}
use Rattle.rational.specs.Rational.{ℚ, zero_ℚ, ◌*ℚ◌, eq_ℚ}
use Rattle.rational.specs.Sum.{sum_over}
use Rattle.rational.specs.Linear.{Term}
use Rattle.rational.proofs.Compare.{eq-Decides}
use Rattle.frac128.specs.Calculation.{product_steps}
use Rattle.lp_model.specs.Program.{IsForm}
use Rattle.lp_model.proofs.Sets.{pairs_head}
use Rattle.lp_model.specs.declared.members.Side.{Side}
use Rattle.lp_model.specs.declared.members.Side.TheVariants.{Lo, Up}
use Rattle.certs.specs.Plain.{crosses}
use Rattle.certs.specs.System.{Limits, LinearSystem, VariableShare, no_limits, empty_system_row}
use Rattle.certs.specs.Turns.{missed_side}
use Rattle.reductions.specs.declared.steps.Step.{Step}
use Rattle.reductions.specs.declared.steps.Step.TheVariants.{Empty, Redundant}
use Rattle.reductions.specs.Limited.{opposite, is_narrow, taken_value, is_finite, extreme}
use Rattle.reductions.specs.Stage.{Stage, row_in, limits_in, is_live}
use Rattle.reductions.specs.Rules.{Found, where_found, empty_or_missed, empty_at, single_step, single_work, singleton_at, fixed_value, fixed_step, fixed_work, fixed_with, both, side_of_row, sum_of_row, is_impossible, impossible_shares, is_kept, is_forcing, forcing_step, pair_step, pair_work, pair_with, doubleton_at}
use Rattle.reductions.specs.Rules.Found.{Goes, Decides}
use Rattle.reductions.specs.Reduction.{Rule, found_at, found_in_row, reduced_by}
use Rattle.reductions.specs.Reduction.Rule.{CrossingLimits, EmptyRow, SingletonRow, FixedColumn, ImpossibleRow, RedundantRow, ForcingRow, DoubletonRow}
use Rattle.reductions.specs.Back.{weights_before}
use Rattle.reductions.specs.Laws.{IsFormed, IsFound, IsAsLarge}
use Rattle.reductions.proofs.WeightSystems.{WeightLaws}
use Rattle.reductions.proofs.WeightRows.{removed_laws, single_laws}
use Rattle.reductions.proofs.WeightFixed.{fixed_laws}
use Rattle.reductions.proofs.WeightDoubletons.{pair_laws}
use Rattle.reductions.proofs.WeightForcing.{forcing_laws}

-- ---- what is found is a step
goes_same : (s step : Step) → ◌≡◌ {A = Option Found} (Some (Goes s)) (Some (Goes step)) → s ≡ step
goes_same s step e = cc

none_goes : (step : Step) → ◌≡◌ {A = Option Found} None (Some (Goes step)) → ⊥
none_goes step e = cc

decides_goes : (shares : List VariableShare) (step : Step) → ◌≡◌ {A = Option Found} (Some (Decides shares)) (Some (Goes step)) → ⊥
decides_goes shares step e = cc

where_goes : (b : Bool) (s step : Step) → where_found b (Goes s) ≡ Some (Goes step) → (b ≡ true) × (s ≡ step)
where_goes true s step e = (refl, goes_same s step e)
where_goes false s step e = absurd (none_goes step e)

where_decides : (b : Bool) (shares : List VariableShare) (step : Step) → where_found b (Decides shares) ≡ Some (Goes step) → ⊥
where_decides true shares step e = decides_goes shares step e
where_decides false shares step e = none_goes step e

-- ---- limits that are equal
pub fixed_is : (limits : Limits) (q : ℚ) → fixed_value limits ≡ Some q → (limits.lower ≡ Some q) × (limits.upper ≡ Some q)
fixed_is limits q e = by limits.lower limits.upper refl refl e
  where
    equal : (l u : ℚ) (b : Bool) → eq_ℚ l u ≡ b → cond b (Some l) None ≡ Some q → (l ≡ q) × (u ≡ q)
    equal l u true t k = (let same : l ≡ q = cc in (same, sym ((eq-Decides l u).0 t) ∙ same))
    equal l u false t k = absurd (let z : ◌≡◌ {A = Option ℚ} None (Some q) = k in cc)

    by : (l u : Option ℚ) → limits.lower ≡ l → limits.upper ≡ u → option_and_then (λ l. option_and_then (λ u. cond (eq_ℚ l u) (Some l) None) u) l ≡ Some q → (limits.lower ≡ Some q) × (limits.upper ≡ Some q)
    by None u a b k = absurd (let z : ◌≡◌ {A = Option ℚ} None (Some q) = k in cc)
    by (Some l) None a b k = absurd (let z : ◌≡◌ {A = Option ℚ} None (Some q) = k in cc)
    by (Some l) (Some u) a b k = (a ∙ ap (λ z. Some z) (equal l u (eq_ℚ l u) refl k).0, b ∙ ap (λ z. Some z) (equal l u (eq_ℚ l u) refl k).1)

-- a column with a limit is one of the system
pub limited_known : (system : LinearSystem) (j : ℕ) (q : ℚ) → (limits_in system j).lower ≡ Some q → j < length system.columns
limited_known system j q e =
    elim (cases_lt j (length system.columns)) [
      | inl h ↦ h
      | inr h ↦ absurd (let z : ◌≡◌ {A = Option ℚ} None (Some q) = sym (ap (λ l. l.lower) (get_or_past system.columns j no_limits h)) ∙ e in cc)
    ]

-- a row that is not removed is one of the system
pub live_known : (live : List Bool) (i : ℕ) → get_or live i false ≡ true → i < length live
live_known live i e =
    elim (cases_lt i (length live)) [
      | inl h ↦ h
      | inr h ↦ absurd (true≢false (sym e ∙ get_or_past live i false h))
    ]

-- ---- sums that meet a side
pub finite_sum : (system : LinearSystem) (side : Side) (terms : List Term) (q : ℚ) → extreme system side terms ≡ Some q → (is_finite system side terms ≡ true) × (sum_over (λ t. t.factor *ℚ taken_value system side t) terms ≡ q)
finite_sum system side terms q e = by (is_finite system side terms && is_narrow (product_steps (λ t. t.factor) (taken_value system side) zero_ℚ terms)) refl e
  where
    by : (b : Bool) → (is_finite system side terms && is_narrow (product_steps (λ t. t.factor) (taken_value system side) zero_ℚ terms)) ≡ b
        → cond b (Some (sum_over (λ t. t.factor *ℚ taken_value system side t) terms)) None ≡ Some q → (is_finite system side terms ≡ true) × (sum_over (λ t. t.factor *ℚ taken_value system side t) terms ≡ q)
    by true t k = ((and_parts (is_finite system side terms) _ t).0, let same : sum_over (λ t. t.factor *ℚ taken_value system side t) terms ≡ q = cc in same)
    by false t k = absurd (let z : ◌≡◌ {A = Option ℚ} None (Some q) = k in cc)

-- two numbers that are there and pass a test
pub record BothPass (test : ℚ → ℚ → Bool) (a b : Option ℚ) : Type 0 where
  pub first : ℚ
  pub second : ℚ
  pub first_is : a ≡ Some first
  pub second_is : b ≡ Some second
  pub passes : test first second ≡ true

pub both_pass : (test : ℚ → ℚ → Bool) (a b : Option ℚ) → both test a b ≡ true → BothPass test a b
both_pass test None b e = absurd (true≢false (sym e))
both_pass test (Some p) None e = absurd (true≢false (sym e))
both_pass test (Some p) (Some q) e = record { first = p; second = q; first_is = refl; second_is = refl; passes = e }

-- ---- weights come back over what each rule finds
abbrev IsLawful : LinearSystem → Step → Type 0
IsLawful system step = IsAsLarge system (reduced_by step system) → WeightLaws system (reduced_by step system) (weights_before (length system.columns) step)

module _ (system : LinearSystem) (formed : IsFormed system) (i : ℕ) (step : Step) where
  module _ (here : i < length system.rows) where
    form : IsForm (length system.columns) (row_in system i).terms
    form = All-get_or (λ r. IsForm (length system.columns) r.terms) system.rows i empty_system_row here formed.rows

    empty_lawful : (terms : List Term) → empty_at system i terms ≡ Some (Goes step) → IsLawful system step
    empty_lawful [] e = by (missed_side (row_in system i).limits zero_ℚ) e
      where
        by : (o : Option Side) → Some (empty_or_missed system i o) ≡ Some (Goes step) → IsLawful system step
        by None k = subst (IsLawful system) (goes_same (Empty i) step k) (removed_laws system i here)
        by (Some side) k = absurd (decides_goes _ step k)
    empty_lawful (t ∷ terms) e = absurd (none_goes step e)

    single_lawful : (terms : List Term) → (row_in system i).terms ≡ terms → singleton_at system i terms ≡ Some (Goes step) → IsLawful system step
    single_lawful [] is e = absurd (none_goes step e)
    single_lawful (t ∷ []) is e =
        let own : IsForm (length system.columns) (t ∷ []) = subst (IsForm (length system.columns)) is form in
        subst (IsLawful system) (where_goes (is_narrow (single_work (row_in system i).limits t.factor)) (single_step (limits_in system t.column) (row_in system i).limits i t) step e).1
        (single_laws system i t here is (All-head (λ t. t.column < length system.columns) t [] own.known) (All-head (λ t. t.factor ≢ zero_ℚ) t [] own.nonzero))
    single_lawful (t ∷ u ∷ terms) is e = absurd (none_goes step e)

    forcing_row_lawful : (side : Side) → is_forcing system i side ≡ true → IsLawful system (forcing_step system i side)
    forcing_row_lawful side e =
        let met : BothPass eq_ℚ (side_of_row system i side) (sum_of_row system i (opposite side)) = both_pass eq_ℚ (side_of_row system i side) (sum_of_row system i (opposite side)) e in
        let sum : (is_finite system (opposite side) (row_in system i).terms ≡ true) × (sum_over (λ t. t.factor *ℚ taken_value system (opposite side) t) (row_in system i).terms ≡ met.second) =
        finite_sum system (opposite side) (row_in system i).terms met.second met.second_is in
        forcing_laws system i side here form sum.0 (met.first_is ∙ ap (λ z. Some z) ((eq-Decides met.first met.second).0 met.passes ∙ sym sum.1))

    forcing_lawful : (a b : Bool) → is_forcing system i Up ≡ a → is_forcing system i Lo ≡ b → cond a (Some (Goes (forcing_step system i Up))) (where_found b (Goes (forcing_step system i Lo))) ≡ Some (Goes step) → IsLawful system step
    forcing_lawful true b p q e = subst (IsLawful system) (goes_same (forcing_step system i Up) step e) (forcing_row_lawful Up p)
    forcing_lawful false true p q e = subst (IsLawful system) (goes_same (forcing_step system i Lo) step e) (forcing_row_lawful Lo q)
    forcing_lawful false false p q e = absurd (none_goes step e)

    pair_lawful : (s t : Term) → (row_in system i).terms ≡ s ∷ t ∷ [] → (o : Option ℚ) → fixed_value (row_in system i).limits ≡ o → pair_with system i s t o ≡ Some (Goes step) → IsLawful system step
    pair_lawful s t is None v e = absurd (none_goes step e)
    pair_lawful s t is (Some c) v e =
        let own : IsForm (length system.columns) (s ∷ t ∷ []) = subst (IsForm (length system.columns)) is form in
        let sides = fixed_is (row_in system i).limits c v in
        let known = All-tail (λ t. t.column < length system.columns) s (t ∷ []) own.known in
        let nonzero = All-tail (λ t. t.factor ≢ zero_ℚ) s (t ∷ []) own.nonzero in
        let before : s.column < t.column = All-head (λ t. s.column < t.column) t [] (pairs_head (λ s t. s.column < t.column) s (t ∷ []) own.ascending) in
        subst (IsLawful system) (where_goes (is_narrow (pair_work system i s t c)) (pair_step system i s t c) step e).1
        (pair_laws system i s t c here is sides.0 sides.1
        (All-head (λ t. t.column < length system.columns) s (t ∷ []) own.known) (All-head (λ t. t.column < length system.columns) t [] known)
        (λ q. absurd (omega arith))
        (All-head (λ t. t.factor ≢ zero_ℚ) s (t ∷ []) own.nonzero) (All-head (λ t. t.factor ≢ zero_ℚ) t [] nonzero))

    doubleton_lawful : (terms : List Term) → (row_in system i).terms ≡ terms → doubleton_at system i terms ≡ Some (Goes step) → IsLawful system step
    doubleton_lawful [] is e = absurd (none_goes step e)
    doubleton_lawful (s ∷ []) is e = absurd (none_goes step e)
    doubleton_lawful (s ∷ t ∷ []) is e = pair_lawful s t is (fixed_value (row_in system i).limits) refl e
    doubleton_lawful (s ∷ t ∷ u ∷ terms) is e = absurd (none_goes step e)

    row_lawful : (rule : Rule) → found_in_row rule system i ≡ Some (Goes step) → IsLawful system step
    row_lawful CrossingLimits e = absurd (none_goes step e)
    row_lawful EmptyRow e = empty_lawful (row_in system i).terms e
    row_lawful SingletonRow e = single_lawful (row_in system i).terms refl e
    row_lawful FixedColumn e = absurd (none_goes step e)
    row_lawful ImpossibleRow e = absurd (by (is_impossible system i Up) e)
      where
        by : (b : Bool) → cond b (Some (Decides (impossible_shares system i Up))) (where_found (is_impossible system i Lo) (Decides (impossible_shares system i Lo))) ≡ Some (Goes step) → ⊥
        by true k = decides_goes _ step k
        by false k = where_decides (is_impossible system i Lo) _ step k
    row_lawful RedundantRow e = subst (IsLawful system) (where_goes (is_kept system i Lo && is_kept system i Up) (Redundant i) step e).1 (removed_laws system i here)
    row_lawful ForcingRow e = forcing_lawful (is_forcing system i Up) (is_forcing system i Lo) refl refl e
    row_lawful DoubletonRow e = doubleton_lawful (row_in system i).terms refl e

  fixed_lawful : (o : Option ℚ) → fixed_value (limits_in system i) ≡ o → fixed_with system i o ≡ Some (Goes step) → IsLawful system step
  fixed_lawful None v e = absurd (none_goes step e)
  fixed_lawful (Some q) v e =
      let sides = fixed_is (limits_in system i) q v in
      subst (IsLawful system) (where_goes (is_narrow (fixed_work system i q)) (fixed_step system i q) step e).1
      (fixed_laws system i q (limited_known system i q sides.0) sides.0 sides.1)

-- weights come back over each step that is found
pub weight_laws : (stage : Stage) (step : Step) → IsFormed stage.system → length stage.live ≡ length stage.system.rows → IsFound stage step
    → IsAsLarge stage.system (reduced_by step stage.system) → WeightLaws stage.system (reduced_by step stage.system) (weights_before (length stage.system.columns) step)
weight_laws stage step formed lives found = by found.rule found.found
  where
    live_row : (rule : Rule) → cond (is_live stage found.place) (found_in_row rule stage.system found.place) None ≡ Some (Goes step) → IsLawful stage.system step
    live_row rule e = on (is_live stage found.place) refl e
      where
        on : (b : Bool) → is_live stage found.place ≡ b → cond b (found_in_row rule stage.system found.place) None ≡ Some (Goes step) → IsLawful stage.system step
        on true l k = row_lawful stage.system formed found.place step (subst (λ n. found.place < n) lives (live_known stage.live found.place l)) rule k
        on false l k = absurd (none_goes step k)

    by : (rule : Rule) → found_at rule stage found.place ≡ Some (Goes step) → IsLawful stage.system step
    by CrossingLimits e = absurd (where_decides (crosses stage.system found.place) _ step e)
    by FixedColumn e = fixed_lawful stage.system formed found.place step (fixed_value (limits_in stage.system found.place)) refl e
    by EmptyRow e = live_row EmptyRow e
    by SingletonRow e = live_row SingletonRow e
    by ImpossibleRow e = live_row ImpossibleRow e
    by RedundantRow e = live_row RedundantRow e
    by ForcingRow e = live_row ForcingRow e
    by DoubletonRow e = live_row DoubletonRow e
