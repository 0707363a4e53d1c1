-- Stages that steps lead to, and what is left of them.
use Rattle.std.proofs.Common.{◌≡◌, refl, sym, ◌∙◌, ap, subst, ℕ, ◌+◌, ◌*◌, ◌<◌, ◌≤◌, zero, suc, Bool, true, false, cond, List, [], ◌∷◌, ◌++◌, length, map, replicate, get_or, set, is_some, Option, Some, None, arith, true≢false}
use Rattle.std.specs.Prelude.{◌||◌}
use Rattle.std.specs.Option.{option_and_then}
use Rattle.std.proofs.lemmas.List.{length-set}
use Rattle.rational.specs.Rational.{ℚ, eq_ℚ}
use Rattle.certs.specs.System.{LinearSystem, no_limits}
use Rattle.reductions.specs.declared.steps.Step.{Step}
use Rattle.reductions.specs.declared.steps.Step.TheVariants.{Empty, Singleton, Fixed, Redundant, Forcing, Doubleton}
use Rattle.reductions.specs.Reduction.{next_found, after_step, left_without, removed_row, reduced_by, Reduces}
use Rattle.reductions.specs.Rules.{fixed_step, fixed_value}
use Rattle.reductions.specs.Rules.Found.{Goes}
use Rattle.reductions.specs.Stage.{Stage, start_stage, is_live, limits_in}
use Rattle.reductions.proofs.Formed.{large_after, lives_after}
use Rattle.reductions.proofs.Next.{next, none_some}
use Rattle.reductions.proofs.Origins.{Origin, origin}
use Rattle.presolve.proofs.Remaining.{passing, has_limit, remaining}

-- ---- steps
-- one step more
pub one_more : (first last : Stage) (steps : List Step) (step : Step) → Reduces first steps last → next_found last ≡ Some (Goes step) → Reduces first (steps ++ step ∷ []) (after_step step last)
one_more first last [] step e found = (ap next_found e ∙ found, ap (after_step step) e)
one_more first last (s ∷ steps) step e found = (e.0, one_more (after_step s first) last steps step e.1 found)

-- a mark for each row, to the end
pub lives_last : (first last : Stage) (steps : List Step) → Reduces first steps last → length last.live ≡ length first.live
lives_last first last [] e = ap (λ (s : Stage). length s.live) (sym e)
lives_last first last (s ∷ steps) e = lives_last (after_step s first) last steps e.1 ∙ lives_after s first

-- a mark for each item, all alike
pub all_alike : {A : Type 0} (b : Bool) (items : List A) → replicate (length items) b ≡ map (λ r. b) items
all_alike b [] = refl
all_alike b (a ∷ items) = ap (λ (bs : List Bool). b ∷ bs) (all_alike b items)

pub starts : (stage : Stage) (system : LinearSystem) → stage.system ≡ system → stage.live ≡ replicate (length system.rows) true → Reduces (start_stage system) [] stage
starts stage system s l = λ i. record { system = sym s i; live = sym (l ∙ all_alike true system.rows) i }

-- ---- how many pass
module _ {A : Type 0} (test : A → Bool) where
  pub passing_most : (items : List A) → passing test items ≤ length items
  passing_most [] = let e : 0 ≤ 0 = omega arith in e
  passing_most (a ∷ items) = by (test a) (passing_most items)
    where
      by : (b : Bool) → passing test items ≤ length items → cond b 1 0 + passing test items ≤ suc (length items)
      by true h = let e : 1 + passing test items ≤ suc (length items) = omega (arith, h) in e
      by false h = let e : 0 + passing test items ≤ suc (length items) = omega (arith, h) in e

  -- one that passes is replaced by one that does not
  pub passing_less : (items : List A) (i : ℕ) (new other : A) → test (get_or items i other) ≡ true → test other ≡ false → test new ≡ false
      → passing test items ≡ passing test (set items i new) + 1
  passing_less [] i new other p q n = absurd (true≢false (sym p ∙ q))
  passing_less (a ∷ items) zero new other p q n =
      let rest : ℕ = passing test items in
      let e : 1 + rest ≡ (0 + rest) + 1 = omega arith in
      ap (λ (b : Bool). cond b 1 0 + rest) p ∙ e ∙ ap (λ (b : Bool). (cond b 1 0 + rest) + 1) (sym n)
  passing_less (a ∷ items) (suc i) new other p q n =
      let first : ℕ = cond (test a) 1 0 in
      let rest : ℕ = passing test (set items i new) in
      let e : first + (rest + 1) ≡ (first + rest) + 1 = omega arith in
      ap (λ (z : ℕ). first + z) (passing_less items i new other p q n) ∙ e

-- ---- what is left gets less
-- a row less, with as many columns
less_rows : (rows fewer columns limited other : ℕ) → rows ≡ fewer + 1 → other ≤ columns → fewer * (columns + 1) + other < rows * (columns + 1) + limited
less_rows rows fewer columns limited other e l =
    let product : rows * (columns + 1) ≡ (fewer + 1) * (columns + 1) = ap (λ n. n * (columns + 1)) e in
    omega (arith, product, l)

module _ (stage : Stage) where
  row_goes : (step : Step) (i : ℕ) → removed_row step ≡ Some i → is_live stage i ≡ true → remaining (after_step step stage) < remaining stage
  row_goes step i e live =
      let n = length stage.system.columns in
      let columns = (reduced_by step stage.system).columns in
      let count = passing (λ (b : Bool). b) in
      let large : length columns ≡ n = (large_after step stage.system).columns in
      let most : passing has_limit columns ≤ n = subst (λ z. passing has_limit columns ≤ z) large (passing_most has_limit columns) in
      let fewer : count stage.live ≡ count (left_without (removed_row step) stage.live) + 1 =
      passing_less (λ (b : Bool). b) stage.live i false false live refl refl ∙ ap (λ o. count (left_without o stage.live) + 1) (sym e) in
      subst (λ z. count (left_without (removed_row step) stage.live) * (z + 1) + passing has_limit columns < remaining stage) (sym large)
      (less_rows (count stage.live) (count (left_without (removed_row step) stage.live)) n (passing has_limit stage.system.columns) (passing has_limit columns) fewer most)

  -- equal limits are there
  lower_there : (lower : Option ℚ) (f : ℚ → Option ℚ) (b : Bool) (v : ℚ) → option_and_then f lower ≡ Some v → is_some lower || b ≡ true
  lower_there None f b v e = absurd (none_some e)
  lower_there (Some l) f b v e = refl

  column_goes : (j : ℕ) (v : ℚ) → fixed_value (limits_in stage.system j) ≡ Some v → remaining (after_step (fixed_step stage.system j v) stage) < remaining stage
  column_goes j v e =
      let columns = stage.system.columns in
      let limits = limits_in stage.system j in
      let rows = passing (λ (b : Bool). b) stage.live in
      let fewer : passing has_limit columns ≡ passing has_limit (set columns j no_limits) + 1 =
      passing_less has_limit columns j no_limits no_limits (lower_there limits.lower (λ l. option_and_then (λ u. cond (eq_ℚ l u) (Some l) None) limits.upper) (is_some limits.upper) v e) refl refl in
      subst (λ z. rows * (z + 1) + passing has_limit (set columns j no_limits) < remaining stage) (sym (length-set columns j no_limits))
      (omega (arith, fewer))

  -- each step makes it less
  pub falls : (step : Step) → next_found stage ≡ Some (Goes step) → remaining (after_step step stage) < remaining stage
  falls step e = by step (origin stage step (next stage step e))
    where
      by : (step : Step) → Origin stage step → remaining (after_step step stage) < remaining stage
      by (Empty i) o = row_goes (Empty i) i refl o.live
      by (Singleton s) o = row_goes (Singleton s) o.row (ap removed_row o.step_is) o.live
      by (Fixed f) o = subst (λ (s : Step). remaining (after_step s stage) < remaining stage) (sym o.step_is) (column_goes o.column o.value o.equal)
      by (Redundant i) o = row_goes (Redundant i) i refl o.live
      by (Forcing f) o = row_goes (Forcing f) o.row (ap removed_row o.step_is) o.live
      by (Doubleton d) o = row_goes (Doubleton d) o.row (ap removed_row o.step_is) o.live
