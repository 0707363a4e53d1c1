-- Where each step comes from: what its rule asks, at its place.
use Rattle.std.proofs.Common.{◌≡◌, refl, sym, subst, ℕ, Bool, true, false, cond, ◌&&◌, List, [], ◌∷◌, Option, Some, None, true≢false}
use Rattle.rational.specs.Rational.{ℚ, zero_ℚ}
use Rattle.rational.specs.Linear.{Term}
use Rattle.lp_model.specs.declared.members.Side.{Side}
use Rattle.lp_model.specs.declared.members.Side.TheVariants.{Lo, Up}
use Rattle.certs.specs.Turns.{missed_side}
use Rattle.reductions.specs.declared.steps.Step.{Step}
use Rattle.reductions.specs.declared.steps.Step.TheVariants.{Empty, Singleton, Fixed, Redundant, Forcing, Doubleton}
use Rattle.reductions.specs.Limited.{is_narrow}
use Rattle.reductions.specs.Laws.{IsFound}
use Rattle.reductions.specs.Reduction.{Rule, found_at, found_in_row}
use Rattle.reductions.specs.Reduction.Rule.{CrossingLimits, EmptyRow, SingletonRow, FixedColumn, ImpossibleRow, RedundantRow, ForcingRow, DoubletonRow}
use Rattle.reductions.specs.Rules.{Found, where_found, empty_or_missed, empty_at, single_step, single_work, singleton_at, fixed_value, fixed_step, fixed_work, fixed_with, fixed_at, impossible_at, is_impossible, impossible_shares, is_kept, redundant_at, is_forcing, forcing_step, forcing_at, pair_step, pair_work, pair_with, doubleton_at}
use Rattle.reductions.specs.Rules.Found.{Goes, Decides}
use Rattle.reductions.specs.Stage.{Stage, row_in, limits_in, is_live}
use Rattle.reductions.proofs.Next.{none_some, goes_same, goes_decides, crossing_goes}

-- a row without terms, whose sides 0 keeps
pub record EmptyOrigin (stage : Stage) (i : ℕ) : Type 0 where
  pub live : is_live stage i ≡ true
  pub terms : (row_in stage.system i).terms ≡ []
  pub kept : missed_side (row_in stage.system i).limits zero_ℚ ≡ None

-- a row of one term
pub record SingletonOrigin (stage : Stage) (step : Step) : Type 0 where
  pub row : ℕ
  pub term : Term
  pub live : is_live stage row ≡ true
  pub terms : (row_in stage.system row).terms ≡ term ∷ []
  pub step_is : step ≡ single_step (limits_in stage.system term.column) (row_in stage.system row).limits row term

-- a column with equal limits
pub record FixedOrigin (stage : Stage) (step : Step) : Type 0 where
  pub column : ℕ
  pub value : ℚ
  pub equal : fixed_value (limits_in stage.system column) ≡ Some value
  pub step_is : step ≡ fixed_step stage.system column value

-- a row that its columns' limits keep
pub record RedundantOrigin (stage : Stage) (i : ℕ) : Type 0 where
  pub live : is_live stage i ≡ true
  pub lower : is_kept stage.system i Lo ≡ true
  pub upper : is_kept stage.system i Up ≡ true

-- a row whose extreme sum meets a side
pub record ForcingOrigin (stage : Stage) (step : Step) : Type 0 where
  pub row : ℕ
  pub side : Side
  pub live : is_live stage row ≡ true
  pub forces : is_forcing stage.system row side ≡ true
  pub step_is : step ≡ forcing_step stage.system row side

-- an equation of two terms
pub record DoubletonOrigin (stage : Stage) (step : Step) : Type 0 where
  pub row : ℕ
  pub first : Term
  pub second : Term
  pub value : ℚ
  pub live : is_live stage row ≡ true
  pub terms : (row_in stage.system row).terms ≡ first ∷ second ∷ []
  pub equal : fixed_value (row_in stage.system row).limits ≡ Some value
  pub step_is : step ≡ pair_step stage.system row first second value

-- the origin of a step of each kind
abbrev pub Origin : Stage → Step → Type 0
Origin stage (Empty i) = EmptyOrigin stage i
Origin stage (Singleton s) = SingletonOrigin stage (Singleton s)
Origin stage (Fixed f) = FixedOrigin stage (Fixed f)
Origin stage (Redundant i) = RedundantOrigin stage i
Origin stage (Forcing f) = ForcingOrigin stage (Forcing f)
Origin stage (Doubleton d) = DoubletonOrigin stage (Doubleton d)

-- ---- by rules
-- a test that passes
there : (b : Bool) (found : Found) (step : Step) → where_found b found ≡ Some (Goes step) → (b ≡ true) × (Some found ≡ Some (Goes step))
there true found step e = (refl, e)
there false found step e = absurd (none_some e)

-- a row that is live
live_found : (b : Bool) (o : Option Found) (step : Step) → cond b o None ≡ Some (Goes step) → (b ≡ true) × (o ≡ Some (Goes step))
live_found true o step e = (refl, e)
live_found false o step e = absurd (none_some e)

empty_goes : (stage : Stage) (i : ℕ) (terms : List Term) (step : Step) → is_live stage i ≡ true → (row_in stage.system i).terms ≡ terms → empty_at stage.system i terms ≡ Some (Goes step) → Origin stage step
empty_goes stage i [] step live q e = by (missed_side (row_in stage.system i).limits zero_ℚ) refl e
  where
    by : (o : Option Side) → missed_side (row_in stage.system i).limits zero_ℚ ≡ o → Some (empty_or_missed stage.system i o) ≡ Some (Goes step) → Origin stage step
    by None m e = subst (Origin stage) (goes_same e) (record { live = live; terms = q; kept = m })
    by (Some side) m e = absurd (goes_decides e)
empty_goes stage i (t ∷ terms) step live q e = absurd (none_some e)

singleton_goes : (stage : Stage) (i : ℕ) (terms : List Term) (step : Step) → is_live stage i ≡ true → (row_in stage.system i).terms ≡ terms → singleton_at stage.system i terms ≡ Some (Goes step) → Origin stage step
singleton_goes stage i [] step live q e = absurd (none_some e)
singleton_goes stage i (t ∷ []) step live q e =
    let sides = (row_in stage.system i).limits in
    let it = there (is_narrow (single_work sides t.factor)) (Goes (single_step (limits_in stage.system t.column) sides i t)) step e in
    subst (Origin stage) (goes_same it.1) (record { row = i; term = t; live = live; terms = q; step_is = refl })
singleton_goes stage i (s ∷ t ∷ terms) step live q e = absurd (none_some e)

fixed_goes : (stage : Stage) (j : ℕ) (step : Step) → fixed_at stage.system j ≡ Some (Goes step) → Origin stage step
fixed_goes stage j step e = by (fixed_value (limits_in stage.system j)) refl e
  where
    by : (o : Option ℚ) → fixed_value (limits_in stage.system j) ≡ o → fixed_with stage.system j o ≡ Some (Goes step) → Origin stage step
    by None q e = absurd (none_some e)
    by (Some v) q e =
        let it = there (is_narrow (fixed_work stage.system j v)) (Goes (fixed_step stage.system j v)) step e in
        subst (Origin stage) (goes_same it.1) (record { column = j; value = v; equal = q; step_is = refl })

impossible_goes : (stage : Stage) (i : ℕ) (step : Step) → impossible_at stage.system i ≡ Some (Goes step) → ⊥
impossible_goes stage i step e = by (is_impossible stage.system i Up) e
  where
    by : (b : Bool) → cond b (Some (Decides (impossible_shares stage.system i Up))) (where_found (is_impossible stage.system i Lo) (Decides (impossible_shares stage.system i Lo))) ≡ Some (Goes step) → ⊥
    by true e = goes_decides e
    by false e = goes_decides (there (is_impossible stage.system i Lo) (Decides (impossible_shares stage.system i Lo)) step e).1

both_true : (a b : Bool) → a && b ≡ true → (a ≡ true) × (b ≡ true)
both_true true true e = (refl, refl)
both_true true false e = absurd (true≢false (sym e))
both_true false b e = absurd (true≢false (sym e))

redundant_goes : (stage : Stage) (i : ℕ) (step : Step) → is_live stage i ≡ true → redundant_at stage.system i ≡ Some (Goes step) → Origin stage step
redundant_goes stage i step live e =
    let it = there (is_kept stage.system i Lo && is_kept stage.system i Up) (Goes (Redundant i)) step e in
    let kept = both_true (is_kept stage.system i Lo) (is_kept stage.system i Up) it.0 in
    subst (Origin stage) (goes_same it.1) (record { live = live; lower = kept.0; upper = kept.1 })

forcing_goes : (stage : Stage) (i : ℕ) (step : Step) → is_live stage i ≡ true → forcing_at stage.system i ≡ Some (Goes step) → Origin stage step
forcing_goes stage i step live e = by (is_forcing stage.system i Up) refl e
  where
    by : (b : Bool) → is_forcing stage.system i Up ≡ b
        → cond b (Some (Goes (forcing_step stage.system i Up))) (where_found (is_forcing stage.system i Lo) (Goes (forcing_step stage.system i Lo))) ≡ Some (Goes step) → Origin stage step
    by true q e = subst (Origin stage) (goes_same e) (record { row = i; side = Up; live = live; forces = q; step_is = refl })
    by false q e =
        let it = there (is_forcing stage.system i Lo) (Goes (forcing_step stage.system i Lo)) step e in
        subst (Origin stage) (goes_same it.1) (record { row = i; side = Lo; live = live; forces = it.0; step_is = refl })

doubleton_goes : (stage : Stage) (i : ℕ) (terms : List Term) (step : Step) → is_live stage i ≡ true → (row_in stage.system i).terms ≡ terms → doubleton_at stage.system i terms ≡ Some (Goes step) → Origin stage step
doubleton_goes stage i [] step live q e = absurd (none_some e)
doubleton_goes stage i (s ∷ []) step live q e = absurd (none_some e)
doubleton_goes stage i (s ∷ t ∷ []) step live q e = by (fixed_value (row_in stage.system i).limits) refl e
  where
    by : (o : Option ℚ) → fixed_value (row_in stage.system i).limits ≡ o → pair_with stage.system i s t o ≡ Some (Goes step) → Origin stage step
    by None m e = absurd (none_some e)
    by (Some c) m e =
        let it = there (is_narrow (pair_work stage.system i s t c)) (Goes (pair_step stage.system i s t c)) step e in
        subst (Origin stage) (goes_same it.1) (record { row = i; first = s; second = t; value = c; live = live; terms = q; equal = m; step_is = refl })
doubleton_goes stage i (s ∷ t ∷ u ∷ terms) step live q e = absurd (none_some e)

-- each step that is found has its origin
pub origin : (stage : Stage) (step : Step) → IsFound stage step → Origin stage step
origin stage step found = by found.rule found.found
  where
    row : (rule : Rule) → cond (is_live stage found.place) (found_in_row rule stage.system found.place) None ≡ Some (Goes step) → (is_live stage found.place ≡ true) × (found_in_row rule stage.system found.place ≡ Some (Goes step))
    row rule e = live_found (is_live stage found.place) (found_in_row rule stage.system found.place) step e

    by : (rule : Rule) → found_at rule stage found.place ≡ Some (Goes step) → Origin stage step
    by CrossingLimits e = absurd (crossing_goes stage.system found.place step e)
    by EmptyRow e = let r = row EmptyRow e in empty_goes stage found.place (row_in stage.system found.place).terms step r.0 refl r.1
    by SingletonRow e = let r = row SingletonRow e in singleton_goes stage found.place (row_in stage.system found.place).terms step r.0 refl r.1
    by FixedColumn e = fixed_goes stage found.place step e
    by ImpossibleRow e = let r = row ImpossibleRow e in absurd (impossible_goes stage found.place step r.1)
    by RedundantRow e = let r = row RedundantRow e in redundant_goes stage found.place step r.0 r.1
    by ForcingRow e = let r = row ForcingRow e in forcing_goes stage found.place step r.0 r.1
    by DoubletonRow e = let r = row DoubletonRow e in doubleton_goes stage found.place (row_in stage.system found.place).terms step r.0 refl r.1
