-- What is so where nothing stops the check of a ray or of a bound.
use Rattle.std.proofs.Common.{◌≡◌, ◌+◌, ◌<◌, refl, sym, ◌∙◌, ap, subst, ℕ, Bool, true, false, true≢false, ◌||◌, not, List, [], ◌∷◌, ◌++◌, length, Option, Some, None}
use Rattle.std.specs.Prelude.{All}
use Rattle.std.proofs.lemmas.List.Elements.{All-cons, All-filter, All-get_or, All-nil, All-weaker}
use Rattle.rational.specs.Rational.{ℚ, eq_ℚ, one_ℚ}
use Rattle.rational.proofs.Compare.{eq-Decides}
use Rattle.frac128.specs.Limit.{limit}
use Rattle.lp_model.specs.declared.members.Member.{Member}
use Rattle.lp_model.specs.declared.members.Member.TheVariants.{RowLo, RowUp, Lower, Upper, Whole}
use Rattle.lp_model.specs.Program.{Program, IsWellFormed, IsWellFormedRow, empty_row, row_at}
use Rattle.lp_model.specs.Members.{active_members, column_form, is_mark}
use Rattle.lp_model.specs.Satisfaction.{values_at, coordinate, Satisfies}
use Rattle.certs.specs.declared.evidence.Checked.TheVariants.{Yes}
use Rattle.certs.specs.declared.evidence.Point.{Point}
use Rattle.certs.specs.declared.evidence.Ray.{Ray}
use Rattle.certs.specs.declared.evidence.Share.{Share}
use Rattle.certs.specs.declared.evidence.Source.{Source}
use Rattle.certs.specs.declared.evidence.Source.TheVariants.{Member as Of, Below, Above}
use Rattle.certs.specs.Combination.{source_form}
use Rattle.certs.specs.Bound.{KeepsRay, IsImproving, objective_value, Unbounded, IsBoundDual, RayLaw, ValidBoundLaw}
use Rattle.certs.specs.Checks.{outcome, point_steps, ray_steps}
use Rattle.certs.specs.Trees.{has_mark}
use Rattle.certs.proofs.Passed.{bound_check_law, point_check_law, ray_check_law}
use Rattle.lp_model.proofs.Points.{common_denominator}
use Rattle.rational.specs.Linear.{Assignment, Term}
use Rattle.std.proofs.lemmas.Bool.{and_parts}
use Rattle.bound_checks.specs.Parts.{value_steps, right_steps, factor_steps}
use Rattle.bound_checks.proofs.Apart.{both_pass, value_passes}
use Rattle.report_text.specs.declared.report.Bounded.{Bounded}
use Rattle.report_text.specs.Form.{AreUses, IsNamedSource, IsUse}
use Rattle.report_text.specs.Grammar.{point_phrases, objective_phrases}
use Rattle.cert_check.specs.Trials.{said, on_line, ray_trial, may_be_left_out, unbounded_trials, value_trials, reached_trials, dual_trials, bounded_trials}
use Rattle.cert_check.specs.Stops.{first_stop}
use Rattle.cert_check.specs.Truth.{IsUnboundedAt, IsBoundedAt}
use Rattle.cert_check.proofs.Firsts.{found_yes, parts_pass}

-- ---- rays
module _ (model : Program) (ray_law : RayLaw) (valid_bound_law : ValidBoundLaw) where
  abbrev set : List Member
  set = active_members model

  -- a point and a ray leave every bound behind
  runs_away : (values ray : List ℚ) → Satisfies model set (values_at values) → IsImproving model set (values_at ray) → Unbounded model set
  runs_away values ray h y =
      let p = common_denominator values in
      let same : ◌≡◌ {A = Assignment} (coordinate p.0) (values_at values) = λ i. λ j. p.1 j i in
      ray_law model set p.0 ray (subst (Satisfies model set) (sym same) h)
      (record { keeps = All-filter (λ m. not (is_mark m)) (KeepsRay model (values_at ray)) set y.keeps; improves = y.improves })

  pub unbounded_at : (n : ℕ) (p : Point) (ray : Ray) → first_stop (unbounded_trials model n p ray) ≡ None → IsUnboundedAt model p ray
  unbounded_at n p ray e =
      let one = found_yes (n + 2) (outcome (point_steps model set (values_at p.values))) (first_stop (ray_trial model (n + (2 + length (point_phrases p))) ray ∷ [])) e in
      let two = found_yes (n + (2 + length (point_phrases p))) (outcome (ray_steps model set (values_at ray.values))) None one.1 in
      let satisfies = point_check_law limit model set (values_at p.values) one.0 in
      let improving = ray_check_law limit model set (values_at ray.values) two.0 in
      record { satisfies = satisfies; improving = improving; unbounded = runs_away p.values ray.values satisfies improving }

  -- ---- bounds
  said_so : (b : Bool) → said b ≡ Yes → b ≡ true
  said_so true e = refl
  said_so false e = absurd (cc)

  -- the value that is told, or left out
  told_value : (n : ℕ) (p : Point) (value : Option ℚ) → first_stop (value_trials model n p value) ≡ None
      → ((v : ℚ) → value ≡ Some v → objective_value model (values_at p.values) ≡ v) × (value ≡ None → may_be_left_out model p ≡ true)
  told_value n p None e = (λ v is. absurd (cc), λ is. said_so (may_be_left_out model p) (found_yes n (said (may_be_left_out model p)) None e).0)
  told_value n p (Some u) e =
      let yes_it_is = (found_yes n (outcome (value_steps model (values_at p.values) u)) None e).0 in
      let is_u : objective_value model (values_at p.values) ≡ u = (eq-Decides (objective_value model (values_at p.values)) u).0 (value_passes model (values_at p.values) u yes_it_is) in
      (λ v is. let same : u ≡ v = cc in is_u ∙ same, λ is. absurd (cc))

  -- without a mark it reaches the bound
  reached_value : (n : ℕ) (value : Option ℚ) (b : ℚ) → first_stop (reached_trials model n value b) ≡ None → (value ≡ None → has_mark set ≡ true) → has_mark set ≡ false → value ≡ Some b
  reached_value n None b e left_out none = absurd (true≢false (sym (left_out refl) ∙ none))
  reached_value n (Some v) b e left_out none =
      let test : (has_mark set || eq_ℚ v b) ≡ true = said_so (has_mark set || eq_ℚ v b) (found_yes n (said (has_mark set || eq_ℚ v b)) None e).0 in
      let same : eq_ℚ v b ≡ true = sym (ap (λ t. t || eq_ℚ v b) none) ∙ test in
      ap Some ((eq-Decides v b).0 same)

  pub bounded_at : (n : ℕ) (b : Bounded) → IsWellFormed model → first_stop (bounded_trials model n b) ≡ None → IsBoundedAt model b
  bounded_at n b formed e =
      let next = n + (2 + length (point_phrases b.point)) in
      let line = next + length (objective_phrases b.objective) in
      let shares = b.dual.combo.shares in
      let one = found_yes (n + 2) (outcome (point_steps model set (values_at b.point.values))) (first_stop (value_trials model next b.point b.objective ++ dual_trials model line b.objective b.dual)) e in
      let two = parts_pass (value_trials model next b.point b.objective) (dual_trials model line b.objective b.dual) one.1 in
      let three =
      found_yes line (outcome (right_steps model set shares b.dual.bound))
      (first_stop (reached_trials model line b.objective b.dual.bound ++ on_line (line + 1) (outcome (factor_steps model shares)) ∷ [])) two.1 in
      let four = parts_pass (reached_trials model line b.objective b.dual.bound) (on_line (line + 1) (outcome (factor_steps model shares)) ∷ []) three.1 in
      let five = found_yes (line + 1) (outcome (factor_steps model shares)) None four.1 in
      let value = told_value next b.point b.objective two.0 in
      let dual : IsBoundDual model set shares b.dual.bound = bound_check_law limit model set shares b.dual.bound formed (both_pass model set shares b.dual.bound three.0 five.0) in
      record {
        satisfies = point_check_law limit model set (values_at b.point.values) one.0;
        value = value.0;
        left_out = value.1;
        dual = dual;
        valid = valid_bound_law model set shares b.dual.bound dual;
        reached = reached_value line b.objective b.dual.bound four.0 (λ is. (and_parts (has_mark set) _ (value.1 is)).0);
      }

-- ---- what the shares of a report name
-- the columns of a source that a line names are the program's
module _ (model : Program) (formed : IsWellFormed model) where
  row_form : (i : ℕ) → i < length model.rows → All (λ t. t.column < length model.columns) (row_at model i).terms
  row_form i l = (All-get_or (IsWellFormedRow (length model.columns)) model.rows i empty_row l formed.rows).form.known

  column_term : (j : ℕ) → j < length model.columns → All (λ t. t.column < length model.columns) (column_form j)
  column_term j l = All-cons (λ (t : Term). t.column < length model.columns) (record { column = j; factor = one_ℚ }) [] l (All-nil (λ (t : Term). t.column < length model.columns))

  source_columns : (q : Source) → IsNamedSource model q → All (λ t. t.column < length model.columns) (source_form model q)
  source_columns (Of (RowLo i)) h = row_form i h.known
  source_columns (Of (RowUp i)) h = row_form i h.known
  source_columns (Of (Lower j)) h = column_term j h.known
  source_columns (Of (Upper j)) h = column_term j h.known
  source_columns (Of (Whole j)) h = column_term j h.known
  source_columns (Below j) h = column_term j h.known
  source_columns (Above j) h = column_term j h.known

  pub uses_known : (shares : List Share) → AreUses model shares → All (λ s. All (λ t. t.column < length model.columns) (source_form model s.source)) shares
  uses_known shares h = All-weaker (IsUse model) (λ s. All (λ t. t.column < length model.columns) (source_form model s.source)) (λ s u. source_columns s.source u.named) shares h.each
