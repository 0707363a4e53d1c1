-- What meets a system before and after a step that is found, and the numbers of such a step.
use Rattle.std.proofs.Common.{◌≡◌, ◌≢◌, refl, sym, ◌∙◌, ap, subst, ℕ, ◌+◌, ◌<◌, suc, true, false, cond, ◌==◌, List, [], ◌∷◌, length, is_some, arith, true≢false, inl, inr}
use Rattle.std.specs.Prelude.{All}
use Rattle.std.proofs.lemmas.Bool.{cases_lt, cond_both}
use Rattle.std.proofs.lemmas.List.{get_or_past, length-set}
use Rattle.std.proofs.lemmas.List.Elements.{All-head, All-tail, All-nil, All-cons}
use Rattle.rational.specs.Rational.{ℚ, zero_ℚ, ◌-ℚ◌, ◌*ℚ◌, ◌/ℚ◌, eq_ℚ}
use Rattle.rational.specs.Linear.{Term, Assignment, form_value, factor_of}
use Rattle.lp_model.specs.Program.{IsForm}
use Rattle.lp_model.specs.declared.members.Side.TheVariants.{Lo, Up}
use Rattle.certs.specs.Ended.{IsWithin}
use Rattle.certs.specs.System.{SystemRow, LinearSystem, empty_system_row}
use Rattle.reductions.specs.declared.steps.Change.{Change}
use Rattle.reductions.specs.declared.steps.Step.{Step}
use Rattle.reductions.specs.declared.steps.Step.TheVariants.{Empty, Singleton, Fixed, Redundant, Forcing, Doubleton}
use Rattle.reductions.specs.Back.{point_before, point_back, pair_value}
use Rattle.reductions.specs.Known.{AreKnownChanges, IsKnownTerm, IsKnownStep}
use Rattle.reductions.specs.Laws.{IsFormed, IsAsLarge, IsFound, Meets}
use Rattle.reductions.specs.Reduction.{reduced_by, after_step, Reduces}
use Rattle.reductions.specs.Rules.{pair_of, changes_from}
use Rattle.reductions.specs.Stage.{Stage, row_in, limits_in, is_live, without_row}
use Rattle.reductions.proofs.Extremes.{forced_is, kept_side}
use Rattle.reductions.proofs.ForcedPoints.{forcing_point, forcing_keeps}
use Rattle.reductions.proofs.Formed.{row_form, formed_after, large_after, lives_after}
use Rattle.reductions.proofs.Looks.{missed_none, column_there}
use Rattle.reductions.proofs.Next.{next}
use Rattle.reductions.proofs.Origins.{Origin, origin}
use Rattle.reductions.proofs.PairPoints.{pair_point, pair_same, pair_keeps}
use Rattle.reductions.proofs.Points.{drop_row, add_row, fixed_point, fixed_keeps, fixed_same, equal_limits, singleton_keeps, singleton_point}

-- points before and after a step
pub record PointLaws (stage : Stage) (step : Step) : Type 0 where
  pub keeps : (x : Assignment) → Meets stage.system x → Meets (reduced_by step stage.system) x
  pub same : (x : Assignment) → Meets stage.system x → (k : ℕ) → point_before step x k ≡ x k
  pub point : (x : Assignment) → Meets (reduced_by step stage.system) x → Meets stage.system (point_before step x)

-- two terms of a form
record AreTwo (n : ℕ) (s t : Term) : Type 0 where
  first : s.column < n
  second : t.column < n
  apart : s.column < t.column
  first_some : s.factor ≢ zero_ℚ
  second_some : t.factor ≢ zero_ℚ

two_terms : (n : ℕ) (terms : List Term) (s t : Term) → terms ≡ s ∷ t ∷ [] → IsForm n terms → AreTwo n s t
two_terms n terms s t e form =
    let f : IsForm n (s ∷ t ∷ []) = subst (IsForm n) e form in
    record {
      first = All-head (λ (t : Term). t.column < n) s (t ∷ []) f.known;
      second = All-head (λ (t : Term). t.column < n) t [] (All-tail (λ (t : Term). t.column < n) s (t ∷ []) f.known);
      apart = f.ascending 0 1 s (omega arith) (omega arith);
      first_some = All-head (λ t. t.factor ≢ zero_ℚ) s (t ∷ []) f.nonzero;
      second_some = All-head (λ t. t.factor ≢ zero_ℚ) t [] (All-tail (λ t. t.factor ≢ zero_ℚ) s (t ∷ []) f.nonzero);
    }

pub points_after : (stage : Stage) (step : Step) → IsFormed stage.system → IsFound stage step → Origin stage step → PointLaws stage step
points_after stage (Empty i) formed found o = record {
  keeps = λ x m. drop_row stage.system i x m;
  same = λ x m k. refl;
  point = λ x m. add_row stage.system i x m (subst (λ terms. IsWithin (row_in stage.system i).limits (form_value terms x)) (sym o.terms) (missed_none (row_in stage.system i).limits zero_ℚ o.kept));
}
points_after stage (Singleton s) formed found o =
    let system = stage.system in
    let form : IsForm (length system.columns) (o.term ∷ []) = subst (IsForm (length system.columns)) o.terms (row_form system o.row formed) in
    let some = All-head (λ t. t.factor ≢ zero_ℚ) o.term [] form.nonzero in
    subst (PointLaws stage) (sym o.step_is) (record {
      keeps = λ x m. singleton_keeps system o.row o.term x some o.terms m;
      same = λ x m k. refl;
      point = λ x m. singleton_point system o.row o.term x some o.terms (All-head (λ (t : Term). t.column < length system.columns) o.term [] form.known) m;
    })
points_after stage (Fixed f) formed found o = subst (PointLaws stage) (sym o.step_is) (record {
  keeps = λ x m. fixed_keeps stage.system o.column o.value x o.equal m;
  same = λ x m k. fixed_same stage.system o.column o.value x o.equal m k;
  point = λ x m. fixed_point stage.system o.column o.value x o.equal m;
})
points_after stage (Redundant i) formed found o = record {
  keeps = λ x m. drop_row stage.system i x m;
  same = λ x m k. refl;
  point = λ x m. add_row stage.system i x m (record { lower = kept_side stage.system x m.columns i Lo o.lower; upper = kept_side stage.system x m.columns i Up o.upper });
}
points_after stage (Forcing f) formed found o =
    let forced = forced_is stage.system o.row o.side o.forces in
    let form = row_form stage.system o.row formed in
    subst (PointLaws stage) (sym o.step_is) (record {
      keeps = λ x m. forcing_keeps stage.system o.row o.side x form forced m;
      same = λ x m k. refl;
      point = λ x m. forcing_point stage.system o.row o.side x form found.uncrossed forced m;
    })
points_after stage (Doubleton d) formed found o =
    let system = stage.system in
    let two = two_terms (length system.columns) (row_in system o.row).terms o.first o.second o.terms (row_form system o.row formed) in
    let apart : o.first.column ≢ o.second.column = λ e. absurd (omega (arith, e, two.apart)) in
    let d = pair_of system o.row o.first o.second o.value in
    subst (PointLaws stage) (sym o.step_is) (record {
      keeps = λ x m. pair_keeps system d x apart two.first_some two.second_some o.terms o.equal m;
      same = λ x m k. pair_same system d x apart two.first_some two.second_some o.terms o.equal m k;
      point = λ x m. pair_point system d x apart two.first_some two.second_some o.terms o.equal two.first m;
    })

-- ---- the numbers of a step
-- a row that is not removed is a row
live_row : (stage : Stage) (i : ℕ) → length stage.live ≡ length stage.system.rows → is_live stage i ≡ true → i < length stage.system.rows
live_row stage i lives live =
    elim (cases_lt i (length stage.live)) [
      | inl l ↦ subst (λ n. i < n) lives l
      | inr l ↦ absurd (true≢false (sym live ∙ get_or_past stage.live i false l))
    ]

-- the changed rows are rows
changes_known : (j : ℕ) (f : ℚ → ℚ) (k : ℕ) (rows : List SystemRow) (n : ℕ) → k + length rows ≡ n → AreKnownChanges n (changes_from j f k rows)
changes_known j f k [] n e = All-nil (λ (c : Change). c.row < n)
changes_known j f k (r ∷ rows) n e =
    let rest = changes_known j f (suc k) rows n (let g : suc k + length rows ≡ n = omega (arith, e) in g) in
    cond_both (eq_ℚ (factor_of r.terms j) zero_ℚ) (changes_from j f (suc k) rows) (record { row = k; factor = f (factor_of r.terms j) } ∷ changes_from j f (suc k) rows) (AreKnownChanges n)
    (λ q. rest) (λ q. All-cons (λ (c : Change). c.row < n) (record { row = k; factor = f (factor_of r.terms j) }) (changes_from j f (suc k) rows) (let g : k < n = omega (arith, e) in g) rest)

known_terms : (n : ℕ) (terms : List Term) → IsForm n terms → All (IsKnownTerm n) terms
known_terms n terms form = λ k d l. record { known = form.known k d l; nonzero = form.nonzero k d l }

pub known_step : (stage : Stage) (step : Step) → IsFormed stage.system → length stage.live ≡ length stage.system.rows → Origin stage step → IsKnownStep (length stage.system.columns) (length stage.system.rows) step
known_step stage (Empty i) formed lives o = live_row stage i lives o.live
known_step stage (Singleton s) formed lives o =
    let n = length stage.system.columns in
    let form : IsForm n (o.term ∷ []) = subst (IsForm n) o.terms (row_form stage.system o.row formed) in
    subst (IsKnownStep n (length stage.system.rows)) (sym o.step_is)
    (live_row stage o.row lives o.live, (All-head (λ (t : Term). t.column < n) o.term [] form.known, All-head (λ t. t.factor ≢ zero_ℚ) o.term [] form.nonzero))
known_step stage (Fixed f) formed lives o =
    subst (IsKnownStep (length stage.system.columns) (length stage.system.rows)) (sym o.step_is) (
      column_there stage.system o.column Lo (ap is_some (equal_limits (limits_in stage.system o.column) o.value o.equal).0),
      changes_known o.column (λ f. f) 0 stage.system.rows (length stage.system.rows) (let g : 0 + length stage.system.rows ≡ length stage.system.rows = omega arith in g),
    )
known_step stage (Redundant i) formed lives o = live_row stage i lives o.live
known_step stage (Forcing f) formed lives o =
    subst (IsKnownStep (length stage.system.columns) (length stage.system.rows)) (sym o.step_is)
    (live_row stage o.row lives o.live, known_terms (length stage.system.columns) (row_in stage.system o.row).terms (row_form stage.system o.row formed))
known_step stage (Doubleton d) formed lives o =
    let n = length stage.system.columns in
    let two = two_terms n (row_in stage.system o.row).terms o.first o.second o.terms (row_form stage.system o.row formed) in
    subst (IsKnownStep n (length stage.system.rows)) (sym o.step_is) (
      live_row stage o.row lives o.live,
      (
        two.first,
        (
          two.second,
          (
            two.first_some,
            (
              two.second_some,
              changes_known o.second.column (λ g. g /ℚ o.second.factor) 0 (without_row o.row stage.system).rows (length stage.system.rows) (let g : 0 + length (without_row o.row stage.system).rows ≡ length stage.system.rows = omega (arith, length-set stage.system.rows o.row empty_system_row) in g),
            ),
          ),
        ),
      ),
    )

-- ---- all steps
-- what holds of points before and after all of them, and of their numbers
pub record PointTrace (system : LinearSystem) (steps : List Step) (last : Stage) : Type 0 where
  pub formed : IsFormed last.system
  pub large : IsAsLarge system last.system
  pub keeps : (x : Assignment) → Meets system x → Meets last.system x
  pub same : (x : Assignment) → Meets system x → (k : ℕ) → point_back steps x k ≡ x k
  pub point : (x : Assignment) → Meets last.system x → Meets system (point_back steps x)
  pub known : All (IsKnownStep (length system.columns) (length system.rows)) steps
  pub lives : length last.live ≡ length last.system.rows

pub point_trace : (stage last : Stage) (steps : List Step) → IsFormed stage.system → length stage.live ≡ length stage.system.rows → Reduces stage steps last → PointTrace stage.system steps last
point_trace stage last [] formed lives e =
    subst (PointTrace stage.system []) e (record {
      formed = formed;
      large = record { columns = refl; rows = refl };
      keeps = λ x m. m;
      same = λ x m k. refl;
      point = λ x m. m;
      known = All-nil (IsKnownStep (length stage.system.columns) (length stage.system.rows));
      lives = lives;
    })
point_trace stage last (step ∷ steps) formed lives r =
    let found = next stage step r.0 in
    let from = origin stage step found in
    let after = points_after stage step formed found from in
    let large = large_after step stage.system in
    let rest = point_trace (after_step step stage) last steps (formed_after stage step formed from) (lives_after step stage ∙ lives ∙ sym large.rows) r.1 in
    record {
      formed = rest.formed;
      large = record { columns = rest.large.columns ∙ large.columns; rows = rest.large.rows ∙ large.rows };
      keeps = λ x m. rest.keeps x (after.keeps x m);
      same = λ x m k. same_before step (point_back steps x) x (rest.same x (after.keeps x m)) k ∙ after.same x m k;
      point = λ x m. after.point (point_back steps x) (rest.point x m);
      known = All-cons (IsKnownStep (length stage.system.columns) (length stage.system.rows)) step steps (known_step stage step formed lives from)
          (subst (λ n. All (IsKnownStep n (length stage.system.rows)) steps) large.columns (subst (λ m. All (IsKnownStep (length (reduced_by step stage.system).columns) m) steps) large.rows rest.known));
      lives = rest.lives;
    }
  where
    -- the same values come back the same
    same_before : (step : Step) (x y : Assignment) → ((k : ℕ) → x k ≡ y k) → (k : ℕ) → point_before step x k ≡ point_before step y k
    same_before (Empty i) x y e k = e k
    same_before (Singleton s) x y e k = e k
    same_before (Fixed f) x y e k = ap (λ z. cond (k == f.column) f.value z) (e k)
    same_before (Redundant i) x y e k = e k
    same_before (Forcing f) x y e k = e k
    same_before (Doubleton d) x y e k =
        ap (λ z. cond (k == d.y) ((d.c -ℚ d.a *ℚ z) /ℚ d.b) (x k)) (e d.x) ∙ ap (λ z. cond (k == d.y) (pair_value d y) z) (e k)
