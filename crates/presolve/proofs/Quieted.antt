-- Where a plan touches nothing that a rule of sums looks at, the rule finds nothing as before.
use Rattle.std.proofs.Common.{◌≡◌, refl, sym, ◌∙◌, ap, ℕ, zero, suc, Bool, true, false, true≢false, cond, ◌&&◌, List, [], ◌∷◌, map, length, get_or, set, replicate, is_some, Option, Some, None, arith, inl, inr}
use Rattle.std.specs.Prelude.{All, is_none, not, ◌||◌, ◌⊎◌}
use Rattle.std.specs.List.{list_any}
use Rattle.std.proofs.Math.ListN.{get_or-map}
use Rattle.std.proofs.lemmas.List.{length-set, length-map, length-replicate}
use Rattle.std.proofs.lemmas.Bool.{false_from_ne_true}
use Rattle.std.proofs.lemmas.List.Elements.{All-head, All-tail}
use Rattle.std.proofs.lemmas.List.Folds.{list_any_at}
use Rattle.rational.specs.Rational.{ℚ, zero_ℚ, ◌+ℚ◌, ◌*ℚ◌, eq_ℚ}
use Rattle.rational.specs.Sum.{sum_over}
use Rattle.rational.specs.Linear.{Term}
use Rattle.frac128.specs.Calculation.{Calculation, product_steps}
use Rattle.frac128.specs.Width.{operation}
use Rattle.frac128.specs.declared.Op.TheVariants.{Plus, Times}
use Rattle.lp_model.specs.declared.members.Side.{Side}
use Rattle.lp_model.specs.declared.members.Side.TheVariants.{Lo, Up}
use Rattle.certs.specs.Combination.{number_or_zero}
use Rattle.certs.specs.System.{Limits, SystemRow, LinearSystem, empty_system_row, no_limits, limit_on}
use Rattle.reductions.specs.Limited.{opposite, turned, taken, taken_value, is_finite, is_narrow, extreme}
use Rattle.reductions.specs.declared.steps.Step.TheVariants.{Redundant}
use Rattle.reductions.specs.Rules.{Found, where_found, both, is_past, side_of_row, sum_of_row, is_impossible, impossible_shares, impossible_at, is_kept, redundant_at, is_forcing, forcing_step, forcing_at}
use Rattle.reductions.specs.Rules.Found.{Goes, Decides}
use Rattle.reductions.specs.Reduction.{Rule, found_at, left_without}
use Rattle.reductions.specs.Reduction.Rule.{ImpossibleRow, RedundantRow, ForcingRow}
use Rattle.reductions.specs.Stage.{Stage, row_in, limits_in, is_live}
use Rattle.reductions.proofs.Next.{none_some}
use Rattle.presolve.specs.Plans.{At, PlanValue, planned, put_all}
use Rattle.presolve.specs.Quiet.{marked, has_marked, touched_columns, touched_rows, AreKept, IsQuiet}

-- ---- marks
set_stays : (marks : List Bool) (n j : ℕ) → get_or marks j false ≡ true → get_or (set marks n true) j false ≡ true
set_stays [] n j h = absurd (true≢false (sym h))
set_stays (b ∷ marks) zero zero h = refl
set_stays (b ∷ marks) zero (suc j) h = h
set_stays (b ∷ marks) (suc n) zero h = h
set_stays (b ∷ marks) (suc n) (suc j) h = set_stays marks n j h

marked_stays : {A : Type 0} (news : List (At A)) (marks : List Bool) (j : ℕ) → get_or marks j false ≡ true → get_or (marked news marks) j false ≡ true
marked_stays [] marks j h = h
marked_stays (new ∷ rest) marks j h = marked_stays rest (set marks new.number true) j (set_stays marks new.number j h)

-- what is not marked at the end was not before
unmarked : {A : Type 0} (news : List (At A)) (marks : List Bool) (j : ℕ) → get_or (marked news marks) j false ≡ false → get_or marks j false ≡ false
unmarked news marks j h = by (get_or marks j false) refl
  where
    by : (b : Bool) → get_or marks j false ≡ b → get_or marks j false ≡ false
    by true e = absurd (true≢false (sym (marked_stays news marks j e) ∙ h))
    by false e = e

-- an item whose number is not marked is as it was
set_apart : {A : Type 0} (items : List A) (marks : List Bool) (n : ℕ) (a : A) (j : ℕ) (d : A) → length marks ≡ length items → get_or (set marks n true) j false ≡ false
    → get_or (set items n a) j d ≡ get_or items j d
set_apart [] marks n a j d e h = refl
set_apart (x ∷ items) [] n a j d e h = absurd (omega (arith, e))
set_apart (x ∷ items) (b ∷ marks) zero a zero d e h = absurd (true≢false h)
set_apart (x ∷ items) (b ∷ marks) zero a (suc j) d e h = refl
set_apart (x ∷ items) (b ∷ marks) (suc n) a zero d e h = refl
set_apart (x ∷ items) (b ∷ marks) (suc n) a (suc j) d e h = set_apart items marks n a j d (let q : length marks ≡ length items = omega (arith, e) in q) h

put_same : {A : Type 0} (news : List (At A)) (items : List A) (marks : List Bool) (j : ℕ) (d : A) → length marks ≡ length items → get_or (marked news marks) j false ≡ false
    → get_or (put_all news items) j d ≡ get_or items j d
put_same [] items marks j d e h = refl
put_same (new ∷ rest) items marks j d e h =
    put_same rest (set items new.number new.item) (set marks new.number true) j d (length-set marks new.number true ∙ e ∙ sym (length-set items new.number new.item)) h
    ∙ set_apart items marks new.number new.item j d e (unmarked rest (set marks new.number true) j h)

put_length : {A : Type 0} (news : List (At A)) (items : List A) → length (put_all news items) ≡ length items
put_length [] items = refl
put_length (new ∷ rest) items = put_length rest (set items new.number new.item) ∙ length-set items new.number new.item

pub marked_length : {A : Type 0} (news : List (At A)) (marks : List Bool) → length (marked news marks) ≡ length marks
marked_length [] marks = refl
marked_length (new ∷ rest) marks = marked_length rest (set marks new.number true) ∙ length-set marks new.number true

-- a mark for each row
pub touched_count : (plan : PlanValue) (system : LinearSystem) → length (touched_rows plan system) ≡ length system.rows
touched_count plan system =
    marked_length plan.rows (map (has_marked (touched_columns plan system)) system.rows) ∙ length-map system.rows (has_marked (touched_columns plan system))

-- ---- sums
module _ (system other : LinearSystem) where
  -- the limits of a term's column are the same
  abbrev IsSame : Term → Type 0
  IsSame t = limits_in other t.column ≡ limits_in system t.column

  taken_same : (side : Side) (t : Term) → IsSame t → taken other side t ≡ taken system side t
  taken_same side t e = ap (λ (l : Limits). limit_on l (turned t.factor side)) e

  finite_same : (side : Side) (terms : List Term) → All IsSame terms → is_finite other side terms ≡ is_finite system side terms
  finite_same side [] h = refl
  finite_same side (t ∷ terms) h =
      ap (λ (o : Option ℚ). is_some o && is_finite other side terms) (taken_same side t (All-head IsSame t terms h))
      ∙ ap (λ b. is_some (taken system side t) && b) (finite_same side terms (All-tail IsSame t terms h))

  steps_same : (side : Side) (sum : ℚ) (terms : List Term) → All IsSame terms
      → product_steps (λ t. t.factor) (taken_value other side) sum terms ≡ product_steps (λ t. t.factor) (taken_value system side) sum terms
  unfolding product_steps
  steps_same side sum [] h = refl
  steps_same side sum (t ∷ terms) h =
      let f : ℚ = t.factor in
      let b : ℚ = taken_value system side t in
      ap (λ (o : Option ℚ). operation Times f (number_or_zero o) ∷ operation Plus sum (f *ℚ number_or_zero o)
      ∷ product_steps (λ (s : Term). s.factor) (taken_value other side) (sum +ℚ f *ℚ number_or_zero o) terms) (taken_same side t (All-head IsSame t terms h))
      ∙ ap (λ (c : Calculation). operation Times f b ∷ operation Plus sum (f *ℚ b) ∷ c) (steps_same side (sum +ℚ f *ℚ b) terms (All-tail IsSame t terms h))

  sums_same : (side : Side) (terms : List Term) → All IsSame terms → sum_over (λ t. t.factor *ℚ taken_value other side t) terms ≡ sum_over (λ t. t.factor *ℚ taken_value system side t) terms
  sums_same side [] h = refl
  sums_same side (t ∷ terms) h =
      ap (λ (o : Option ℚ). (t.factor *ℚ number_or_zero o) +ℚ sum_over (λ (s : Term). s.factor *ℚ taken_value other side s) terms) (taken_same side t (All-head IsSame t terms h))
      ∙ ap (λ z. (t.factor *ℚ taken_value system side t) +ℚ z) (sums_same side terms (All-tail IsSame t terms h))

  pub extreme_same : (side : Side) (terms : List Term) → All IsSame terms → extreme other side terms ≡ extreme system side terms
  extreme_same side terms h =
      ap (λ b. cond (b && is_narrow (product_steps (λ (t : Term). t.factor) (taken_value other side) zero_ℚ terms)) (Some (sum_over (λ (t : Term). t.factor *ℚ taken_value other side t) terms)) None) (finite_same side terms h)
      ∙ ap (λ (c : Calculation). cond (is_finite system side terms && is_narrow c) (Some (sum_over (λ (t : Term). t.factor *ℚ taken_value other side t) terms)) None) (steps_same side zero_ℚ terms h)
      ∙ ap (λ z. cond (is_finite system side terms && is_narrow (product_steps (λ (t : Term). t.factor) (taken_value system side) zero_ℚ terms)) (Some z) None) (sums_same side terms h)

-- ---- a row that a plan does not touch
-- nothing is found by tests that come out as before
none_two : (a b c d : Bool) → c ≡ a → d ≡ b → (x y u v : Found) → cond a (Some x) (where_found b y) ≡ None → cond c (Some u) (where_found d v) ≡ None
none_two true b c d p q x y u v h = absurd (none_some (sym h))
none_two false true c d p q x y u v h = absurd (none_some (sym h))
none_two false false c d p q x y u v h = ap (λ z. cond z (Some u) (where_found d v)) p ∙ ap (λ z. where_found z v) q

none_one : (a c : Bool) → c ≡ a → (x u : Found) → where_found a x ≡ None → where_found c u ≡ None
none_one true c p x u h = absurd (none_some (sym h))
none_one false c p x u h = ap (λ z. where_found z u) p

-- where no column is marked, none of the terms is of a marked one
none_marked : (marks : List Bool) (terms : List Term) → list_any (λ t. get_or marks t.column false) terms ≡ false → All (λ t. get_or marks t.column false ≡ false) terms
none_marked marks terms h = λ k d l. false_from_ne_true (get_or marks (get_or terms k d).column false) (λ e. true≢false (sym (list_any_at (λ (t : Term). get_or marks t.column false) terms k d l e) ∙ h))

module _ (plan : PlanValue) (system other : LinearSystem) (made : other ≡ planned plan system) (i : ℕ) (apart : get_or (touched_rows plan system) i false ≡ false) where
  abbrev columns : List Bool
  columns = touched_columns plan system

  abbrev row : SystemRow
  row = row_in system i

  row_same : row_in other i ≡ row
  row_same =
      ap (λ (s : LinearSystem). get_or s.rows i empty_system_row) made
      ∙ put_same plan.rows system.rows (map (has_marked columns) system.rows) i empty_system_row (length-map system.rows (has_marked columns)) apart

  none : All (λ t. get_or columns t.column false ≡ false) row.terms
  none =
      none_marked columns row.terms
      (sym (get_or-map (has_marked columns) system.rows i empty_system_row) ∙ unmarked plan.rows (map (has_marked columns) system.rows) i apart)

  limits_same : All (IsSame system other) row.terms
  limits_same = λ k d l.
      let j : ℕ = (get_or row.terms k d).column in
      ap (λ (s : LinearSystem). get_or s.columns j no_limits) made
      ∙ put_same plan.columns system.columns (map (λ (c : Limits). false) system.columns) j no_limits (length-map system.columns (λ (c : Limits). false)) (none k d l)

  side_same : (side : Side) → side_of_row other i side ≡ side_of_row system i side
  side_same side = ap (λ (r : SystemRow). limit_on r.limits side) row_same

  sum_same : (side : Side) → sum_of_row other i side ≡ sum_of_row system i side
  sum_same side = ap (λ (r : SystemRow). extreme other side r.terms) row_same ∙ extreme_same system other side row.terms limits_same

  impossible_is : (side : Side) → is_impossible other i side ≡ is_impossible system i side
  impossible_is side =
      ap (λ o. both (is_past side) o (sum_of_row other i (opposite side))) (side_same side)
      ∙ ap (λ o. both (is_past side) (side_of_row system i side) o) (sum_same (opposite side))

  forcing_is : (side : Side) → is_forcing other i side ≡ is_forcing system i side
  forcing_is side =
      ap (λ o. both eq_ℚ o (sum_of_row other i (opposite side))) (side_same side)
      ∙ ap (λ o. both eq_ℚ (side_of_row system i side) o) (sum_same (opposite side))

  kept_is : (side : Side) → is_kept other i side ≡ is_kept system i side
  kept_is side =
      ap (λ o. is_none o || both (λ number sum. not (is_past side number sum)) o (sum_of_row other i side)) (side_same side)
      ∙ ap (λ o. is_none (side_of_row system i side) || both (λ number sum. not (is_past side number sum)) (side_of_row system i side) o) (sum_same side)

  impossible_none : impossible_at system i ≡ None → impossible_at other i ≡ None
  impossible_none h =
      none_two (is_impossible system i Up) (is_impossible system i Lo) (is_impossible other i Up) (is_impossible other i Lo) (impossible_is Up) (impossible_is Lo)
      (Decides (impossible_shares system i Up)) (Decides (impossible_shares system i Lo)) (Decides (impossible_shares other i Up)) (Decides (impossible_shares other i Lo)) h

  forcing_none : forcing_at system i ≡ None → forcing_at other i ≡ None
  forcing_none h =
      none_two (is_forcing system i Up) (is_forcing system i Lo) (is_forcing other i Up) (is_forcing other i Lo) (forcing_is Up) (forcing_is Lo)
      (Goes (forcing_step system i Up)) (Goes (forcing_step system i Lo)) (Goes (forcing_step other i Up)) (Goes (forcing_step other i Lo)) h

  redundant_none : redundant_at system i ≡ None → redundant_at other i ≡ None
  redundant_none h =
      none_one (is_kept system i Lo && is_kept system i Up) (is_kept other i Lo && is_kept other i Up)
      (ap (λ b. b && is_kept other i Up) (kept_is Lo) ∙ ap (λ b. is_kept system i Lo && b) (kept_is Up)) (Goes (Redundant i)) (Goes (Redundant i)) h

-- ---- stages
live_before : (live : List Bool) (k i : ℕ) → get_or (set live k false) i false ≡ true → get_or live i false ≡ true
live_before [] k i h = h
live_before (b ∷ live) zero zero h = absurd (true≢false (sym h))
live_before (b ∷ live) zero (suc i) h = h
live_before (b ∷ live) (suc k) zero h = h
live_before (b ∷ live) (suc k) (suc i) h = live_before live k i h

left_before : (removed : Option ℕ) (live : List Bool) (i : ℕ) → get_or (left_without removed live) i false ≡ true → get_or live i false ≡ true
left_before None live i h = h
left_before (Some k) live i h = live_before live k i h

where_live : (b : Bool) (found : Option Found) → b ≡ true → cond b found None ≡ None → found ≡ None
where_live true found e h = h
where_live false found e h = absurd (true≢false (sym e))

module _ (look : LinearSystem → ℕ → Option Found) (stage after : Stage) (plan : PlanValue) (removed : Option ℕ)
    (live : after.live ≡ left_without removed stage.live) (same : (i : ℕ) → get_or (touched_rows plan stage.system) i false ≡ false → look stage.system i ≡ None → look after.system i ≡ None) where
  nothing : (old new : List Bool) → AreKept (touched_rows plan stage.system) old new → ((i : ℕ) → get_or old i false ≡ true → cond (is_live stage i) (look stage.system i) None ≡ None)
      → (i : ℕ) → get_or new i false ≡ true → cond (is_live after i) (look after.system i) None ≡ None
  nothing old new kept h i e = by (is_live after i) refl
    where
      by : (b : Bool) → is_live after i ≡ b → cond b (look after.system i) None ≡ None
      by true l =
          let before : is_live stage i ≡ true = left_before removed stage.live i (ap (λ (list : List Bool). get_or list i false) (sym live) ∙ l) in
          same i (kept.apart i e) (where_live (is_live stage i) (look stage.system i) before (h i (kept.was i e)))
      by false l = refl

module _ (stage after : Stage) (plan : PlanValue) (removed : Option ℕ) (made : after.system ≡ planned plan stage.system) (live : after.live ≡ left_without removed stage.live)
    (old new : List Bool) (kept : AreKept (touched_rows plan stage.system) old new) where
  count_after : length old ≡ length stage.system.rows → length new ≡ length after.system.rows
  count_after e = kept.count ∙ e ∙ sym (ap (λ (s : LinearSystem). length s.rows) made ∙ put_length plan.rows stage.system.rows)

  pub impossible_stays : IsQuiet ImpossibleRow stage old → IsQuiet ImpossibleRow after new
  impossible_stays q = record {
    count = count_after q.count;
    nothing = nothing impossible_at stage after plan removed live (λ i e h. impossible_none plan stage.system after.system made i e h) old new kept q.nothing;
  }

  pub redundant_stays : IsQuiet RedundantRow stage old → IsQuiet RedundantRow after new
  redundant_stays q = record {
    count = count_after q.count;
    nothing = nothing redundant_at stage after plan removed live (λ i e h. redundant_none plan stage.system after.system made i e h) old new kept q.nothing;
  }

  pub forcing_stays : IsQuiet ForcingRow stage old → IsQuiet ForcingRow after new
  forcing_stays q = record {
    count = count_after q.count;
    nothing = nothing forcing_at stage after plan removed live (λ i e h. forcing_none plan stage.system after.system made i e h) old new kept q.nothing;
  }

-- ---- a mark more
set_true : (marks : List Bool) (i j : ℕ) → get_or (set marks i true) j false ≡ true → (j ≡ i) ⊎ (get_or marks j false ≡ true)
set_true [] i j h = absurd (true≢false (sym h))
set_true (b ∷ marks) zero zero h = inl refl
set_true (b ∷ marks) zero (suc j) h = inr h
set_true (b ∷ marks) (suc i) zero h = inr h
set_true (b ∷ marks) (suc i) (suc j) h = later (set_true marks i j h)
  where
    later : (j ≡ i) ⊎ (get_or marks j false ≡ true) → (suc j ≡ suc i) ⊎ (get_or marks j false ≡ true)
    later (inl e) = inl (ap suc e)
    later (inr k) = inr k

-- at a row at which the rule finds nothing
pub quiet_more : (rule : Rule) (stage : Stage) (marks : List Bool) (i : ℕ) → IsQuiet rule stage marks → found_at rule stage i ≡ None → IsQuiet rule stage (set marks i true)
quiet_more rule stage marks i q none = record { count = length-set marks i true ∙ q.count; nothing = λ j e. by j (set_true marks i j e) }
  where
    by : (j : ℕ) → (j ≡ i) ⊎ (get_or marks j false ≡ true) → found_at rule stage j ≡ None
    by j (inl e) = ap (found_at rule stage) e ∙ none
    by j (inr k) = q.nothing j k

-- no mark is set at first
pub none_quiet : (rule : Rule) (stage : Stage) (n : ℕ) → n ≡ length stage.system.rows → IsQuiet rule stage (replicate n false)
none_quiet rule stage n e = record { count = length-replicate n false ∙ e; nothing = λ i h. absurd (true≢false (sym h ∙ unset n i)) }
  where
    unset : (n i : ℕ) → get_or (replicate n false) i false ≡ false
    unset zero i = refl
    unset (suc n) zero = refl
    unset (suc n) (suc i) = unset n i
