-- The trials of what the objective does are not failed.
use Rattle.std.proofs.Common.{◌≡◌, ◌+◌, refl, sym, ◌∙◌, ℕ, Bool, true, false, ◌||◌, List, [], ◌∷◌, ◌++◌, length, Option, None, Some, is_some}
use Rattle.std.proofs.lemmas.Bool.{and_from, or_left, or_right}
use Rattle.std.proofs.lemmas.List.Elements.{All-cons}
use Rattle.rational.specs.Rational.{ℚ, eq_ℚ}
use Rattle.rational.proofs.Compare.{eq-Decides}
use Rattle.frac128.specs.declared.Wide.{Wide as Operation}
use Rattle.frac128.specs.Limit.{limit}
use Rattle.frac128.specs.Calculation.{first_wide}
use Rattle.lp_model.specs.declared.members.Member.{Member}
use Rattle.lp_model.specs.Evaluation.{value_operations}
use Rattle.lp_model.specs.Program.{Program}
use Rattle.lp_model.specs.Members.{active_members}
use Rattle.lp_model.specs.Satisfaction.{values_at}
use Rattle.certs.specs.declared.evidence.Point.{Point}
use Rattle.certs.specs.declared.evidence.Ray.{Ray}
use Rattle.certs.specs.Bound.{objective_value, IsBoundDual}
use Rattle.certs.specs.Checks.{outcome, ray_steps}
use Rattle.certs.specs.Trees.{has_mark}
use Rattle.certs.specs.declared.evidence.Dual.{Dual}
use Rattle.bound_checks.specs.Parts.{value_steps, right_steps, factor_steps}
use Rattle.unbounded.specs.Diagnosed.{if_narrow, IsBoundedBy, IsUnboundedBy}
use Rattle.report_text.specs.declared.report.Bounded.{Bounded}
use Rattle.report_text.specs.Grammar.{objective_phrases, point_phrases}
use Rattle.cert_check.specs.Trials.{on_line, said, may_be_left_out, point_trial, ray_trial, unbounded_trials, value_trials, reached_trials, dual_trials, bounded_trials}
use Rattle.iis_run.proofs.Unfailed.{IsUnfailed, AreUnfailed, nothing, one_more, alone, joined, said_true}
use Rattle.iis_run.proofs.Passing.{dual_of_all, factors_never, ray_never, right_never, value_never}
use Rattle.iis_run.proofs.Shown.{point_unfailed}

-- ---- rays
pub unbounded_unfailed : (model : Program) (n : ℕ) (p : Point) (ray : Ray) → IsUnboundedBy model (active_members model) p ray → AreUnfailed (unbounded_trials model n p ray)
unbounded_unfailed model n p ray h =
    let line = n + (2 + length (point_phrases p)) in
    All-cons IsUnfailed (point_trial model (active_members model) (n + 2) p) (ray_trial model line ray ∷ []) (point_unfailed model (active_members model) (n + 2) p h.point_of.satisfies)
    (alone line (outcome (ray_steps model (active_members model) (values_at ray.values))) (ray_never model (active_members model) (values_at ray.values) h.improving))

-- ---- bounds
module _ (model : Program) (point : Point) (value : Option ℚ) (dual : Dual) (h : IsBoundedBy model (active_members model) point value dual) where
  abbrev set : List Member
  set = active_members model

  abbrev at : ℚ
  at = objective_value model (values_at point.values)

  abbrev wide : Option Operation
  wide = first_wide limit (value_operations model.objective (values_at point.values))

  -- a value that is told is the objective's
  told_value : (v : ℚ) → value ≡ Some v → at ≡ v
  told_value v is = by (has_mark set) refl
    where
      of_narrow : (o : Option Operation) → Some v ≡ if_narrow o at → at ≡ v
      of_narrow None e = cc
      of_narrow (Some o) e = absurd (cc)

      by : (b : Bool) → has_mark set ≡ b → at ≡ v
      by true e = of_narrow wide (sym is ∙ h.marked e)
      by false e = let told : Some v ≡ Some dual.bound = sym is ∙ (h.reached e).0 in let same : v ≡ dual.bound = cc in (h.reached e).1 ∙ sym same

  -- one that is left out may be
  left_out : value ≡ None → may_be_left_out model point ≡ true
  left_out is = by (has_mark set) refl
    where
      of_wide : (o : Option Operation) → None ≡ if_narrow o at → is_some o ≡ true
      of_wide None e = absurd (cc)
      of_wide (Some o) e = refl

      by : (b : Bool) → has_mark set ≡ b → may_be_left_out model point ≡ true
      by true e = and_from (has_mark set) (is_some wide) e (of_wide wide (sym is ∙ h.marked e))
      by false e = absurd (let told : None ≡ Some dual.bound = sym is ∙ (h.reached e).0 in cc)

  -- without a mark it is the bound
  reaches : (v : ℚ) → value ≡ Some v → (has_mark set || eq_ℚ v dual.bound) ≡ true
  reaches v is = by (has_mark set) refl
    where
      by : (b : Bool) → has_mark set ≡ b → (has_mark set || eq_ℚ v dual.bound) ≡ true
      by true e = or_left (has_mark set) (eq_ℚ v dual.bound) e
      by false e =
          let told : Some v ≡ Some dual.bound = sym is ∙ (h.reached e).0 in
          let same : v ≡ dual.bound = cc in
          or_right (has_mark set) (eq_ℚ v dual.bound) ((eq-Decides v dual.bound).1 same)

  value_unfailed : (n : ℕ) (o : Option ℚ) → value ≡ o → AreUnfailed (value_trials model n point o)
  value_unfailed n None is = alone n (said (may_be_left_out model point)) (said_true (may_be_left_out model point) (left_out is))
  value_unfailed n (Some v) is = alone n (outcome (value_steps model (values_at point.values) v)) (value_never model (values_at point.values) v (told_value v is))

  reached_unfailed : (n : ℕ) (o : Option ℚ) → value ≡ o → AreUnfailed (reached_trials model n o dual.bound)
  reached_unfailed n None is = nothing
  reached_unfailed n (Some v) is = alone n (said (has_mark set || eq_ℚ v dual.bound)) (said_true (has_mark set || eq_ℚ v dual.bound) (reaches v is))

  dual_unfailed : (n : ℕ) → AreUnfailed (dual_trials model n value dual)
  dual_unfailed n =
      let shares = dual.combo.shares in
      let all : IsBoundDual model set shares dual.bound = dual_of_all model set shares dual.bound h.dual_of in
      let columns = outcome (factor_steps model shares) in
      one_more n (outcome (right_steps model set shares dual.bound)) (reached_trials model n value dual.bound ++ on_line (n + 1) columns ∷ []) (right_never model set shares dual.bound all)
      (joined (reached_trials model n value dual.bound) (on_line (n + 1) columns ∷ []) (reached_unfailed n value refl) (alone (n + 1) columns (factors_never model set shares dual.bound all)))

pub bounded_unfailed : (model : Program) (n : ℕ) (b : Bounded) → IsBoundedBy model (active_members model) b.point b.objective b.dual → AreUnfailed (bounded_trials model n b)
bounded_unfailed model n b h =
    let next = n + (2 + length (point_phrases b.point)) in
    let line = next + length (objective_phrases b.objective) in
    let point = point_trial model (active_members model) (n + 2) b.point in
    All-cons IsUnfailed point (value_trials model next b.point b.objective ++ dual_trials model line b.objective b.dual) (point_unfailed model (active_members model) (n + 2) b.point h.point_of.satisfies)
    (joined (value_trials model next b.point b.objective) (dual_trials model line b.objective b.dual) (value_unfailed model b.point b.objective b.dual h next b.objective refl) (dual_unfailed model b.point b.objective b.dual h line))
