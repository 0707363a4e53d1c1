-- The parts of the checks of a bound and of a least weighted violation never say no of what holds.
use Rattle.std.proofs.Common.{◌≡◌, refl, sym, ℕ, zero, suc, Bool, true, false, true≢false, cond, not, List, [], ◌∷◌, ◌++◌, length, filter, Option, None, Some}
use Rattle.std.specs.Prelude.{All, Contains}
use Rattle.std.proofs.lemmas.Bool.{and_from}
use Rattle.std.proofs.lemmas.List.Elements.{All-head, All-tail, All-nil, All-cons, All-contains, All-contains_itself, All-map, All-weaker, All-filter}
use Rattle.rational.specs.Rational.{ℚ, neg_ℚ, zero_ℚ, eq_ℚ}
use Rattle.rational.specs.Linear.{Assignment, factor_of}
use Rattle.rational.proofs.Compare.{eq-Decides, le_q-Decides}
use Rattle.frac128.specs.Limit.{limit}
use Rattle.frac128.specs.declared.Wide.{Wide as Operation}
use Rattle.frac128.specs.Calculation.{first_wide}
use Rattle.lp_model.specs.declared.members.Member.{Member}
use Rattle.lp_model.specs.declared.members.Member.TheVariants.{RowLo, RowUp, Lower, Upper, Whole}
use Rattle.lp_model.specs.declared.parts.Weight.{Weight}
use Rattle.lp_model.specs.declared.parts.Weight.TheVariants.{Soft, Rigid}
use Rattle.lp_model.specs.Program.{Program}
use Rattle.lp_model.specs.Evaluation.{value_operations}
use Rattle.lp_model.specs.Members.{is_mark, weight}
use Rattle.lp_model.specs.Satisfaction.{IsPart}
use Rattle.certs.specs.declared.evidence.Checked.{Checked}
use Rattle.certs.specs.declared.evidence.Checked.TheVariants.{No}
use Rattle.certs.specs.declared.evidence.Share.{Share}
use Rattle.certs.specs.declared.evidence.Source.{Source}
use Rattle.certs.specs.declared.evidence.Source.TheVariants.{Member as Of, Below, Above}
use Rattle.certs.specs.Bound.{directed, objective_value, without_marks, IsBoundDual, IsImproving, KeepsRay}
use Rattle.certs.specs.Checks.{Step, outcome, unless_wide, every_below, usable_test, within_test, weight_operations, usable_step, columns_step, right_step, within_steps, weighted_operations, ray_steps}
use Rattle.certs.specs.Combination.{IsFrom, IsThere, column_sum, right_side}
use Rattle.certs.specs.Violation.{weight_on, weighted_violation, is_rigid, IsWithinWeight, IsLeastDual}
use Rattle.certs.proofs.Passed.{Passes}
use Rattle.certs.proofs.Refused.{bound_no_law, least_no_law, ray_no_law}
use Rattle.bound_checks.specs.Parts.{value_steps, right_steps, factor_steps}
use Rattle.bound_checks.proofs.Shown.{unusable as unusable_bound}
use Rattle.least_checks.specs.Parts.{total_steps, weight_steps, violation_steps}
use Rattle.least_checks.proofs.Steps.{unusable as unusable_least}

-- ---- steps
step_never : (o : Option Operation) (p : Bool) (rest : Checked) → p ≡ true → (rest ≡ No → ⊥) → unless_wide o (cond p rest No) ≡ No → ⊥
step_never None true rest e h k = h k
step_never None false rest e h k = true≢false (sym e)
step_never (Some o) p rest e h k = cc

-- where each test passes, a no is not the answer
never_no : (steps : List Step) → All Passes steps → outcome steps ≡ No → ⊥
unfolding Passes
never_no [] h e = cc
never_no (s ∷ steps) h e = step_never (first_wide limit s.operations) s.passes (outcome steps) (All-head Passes s steps h) (never_no steps (All-tail Passes s steps h)) e

below_passes : (test : ℕ → Bool) (n : ℕ) → ((j : ℕ) → test j ≡ true) → every_below test n ≡ true
below_passes test zero h = refl
below_passes test (suc n) h = and_from (every_below test n) (test n) (below_passes test n h) (h n)

columns_pass : (model : Program) (shares : List Share) (sums : ℕ → ℚ) → ((j : ℕ) → column_sum model shares j ≡ sums j) → Passes (columns_step model shares sums)
unfolding Passes
columns_pass model shares sums h = below_passes (λ j. eq_ℚ (column_sum model shares j) (sums j)) (length model.columns) (λ j. (eq-Decides (column_sum model shares j) (sums j)).1 (h j))

-- ---- more members
from_more : (part whole : List Member) (source : Source) → IsPart part whole → IsFrom part source → IsFrom whole source
from_more part whole (Of m) h from = All-contains (Contains whole) part m h from
from_more part whole (Below j) h from = tt
from_more part whole (Above j) h from = tt

plain_part : (set : List Member) → IsPart (without_marks set) set
plain_part set = All-filter (λ m. not (is_mark m)) (Contains set) set (All-contains_itself set)

-- a dual of the members without marks is one of all
pub dual_of_all : (model : Program) (set : List Member) (shares : List Share) (b : ℚ) → IsBoundDual model (without_marks set) shares b → IsBoundDual model set shares b
dual_of_all model set shares b d = record {
  positive = d.positive;
  there = All-weaker (IsThere model (without_marks set) []) (IsThere model set []) (λ s t. record { from = from_more (without_marks set) set s.source (plain_part set) t.from; number = t.number }) shares d.there;
  matches = d.matches;
  bound = d.bound;
}

-- what holds of the marks and of the rest, holds of all
with_marks : (P : Member → Type 0) → ((m : Member) → is_mark m ≡ true → P m) → (set : List Member) → All P (without_marks set) → All P set
with_marks P marks [] h = All-nil P
with_marks P marks (m ∷ set) h = by (with_marks P marks set) (is_mark m) refl h
  where
    by : (All P (without_marks set) → All P set) → (b : Bool) → is_mark m ≡ b → All P (cond (not b) (m ∷ without_marks set) (without_marks set)) → All P (m ∷ set)
    by rest true e g = All-cons P m set (marks m e) (rest g)
    by rest false e g = All-cons P m set (All-head P m (without_marks set) g) (rest (All-tail P m (without_marks set) g))

-- every ray keeps a mark, which asks for no number
mark_keeps : (model : Program) (ray : Assignment) (m : Member) → is_mark m ≡ true → KeepsRay model ray m
mark_keeps model ray (RowLo i) e = absurd (true≢false (sym e))
mark_keeps model ray (RowUp i) e = absurd (true≢false (sym e))
mark_keeps model ray (Lower j) e = absurd (true≢false (sym e))
mark_keeps model ray (Upper j) e = absurd (true≢false (sym e))
mark_keeps model ray (Whole j) e = λ some. absurd (true≢false (sym some))

-- ---- rays
pub ray_never : (model : Program) (set : List Member) (ray : Assignment) → IsImproving model (without_marks set) ray → outcome (ray_steps model set ray) ≡ No → ⊥
ray_never model set ray d = ray_no_law limit model set ray (record { keeps = with_marks (KeepsRay model ray) (mark_keeps model ray) set d.keeps; improves = d.improves })

-- ---- bounds
pub value_never : (model : Program) (x : Assignment) (v : ℚ) → objective_value model x ≡ v → outcome (value_steps model x v) ≡ No → ⊥
unfolding Passes
value_never model x v e =
    never_no (value_steps model x v) (All-cons Passes (record { operations = value_operations model.objective x; passes = eq_ℚ (objective_value model x) v }) [] ((eq-Decides (objective_value model x) v).1 e) (All-nil Passes))

module _ (model : Program) (set : List Member) (shares : List Share) (b : ℚ) (d : IsBoundDual model set shares b) where
  usable_bound : usable_test model set [] shares ≡ true
  usable_bound = by (usable_test model set [] shares) refl
    where
      by : (u : Bool) → usable_test model set [] shares ≡ u → usable_test model set [] shares ≡ true
      by true e = e
      by false e = absurd (bound_no_law limit model set shares b d (sym (unusable_bound model set shares b e)))

  pub right_never : outcome (right_steps model set shares b) ≡ No → ⊥
  unfolding Passes
  right_never =
      let right : Step = right_step model [] shares (λ r. eq_ℚ r (directed model b)) in
      never_no (right_steps model set shares b)
      (All-cons Passes (usable_step model set [] shares) (right ∷ []) usable_bound (All-cons Passes right [] ((eq-Decides (right_side model [] shares) (directed model b)).1 d.bound) (All-nil Passes)))

  pub factors_never : outcome (factor_steps model shares) ≡ No → ⊥
  factors_never =
      never_no (factor_steps model shares)
      (All-cons Passes (columns_step model shares (λ j. directed model (factor_of model.objective j))) [] (columns_pass model shares (λ j. directed model (factor_of model.objective j)) d.matches) (All-nil Passes))

-- ---- least weighted violations
pub violation_never : (model : Program) (set : List Member) (x : Assignment) (t : ℚ) → weighted_violation model set x ≡ t → outcome (violation_steps model set x t) ≡ No → ⊥
unfolding Passes
violation_never model set x t e =
    never_no (violation_steps model set x t)
    (All-cons Passes (record { operations = weighted_operations model zero_ℚ set x; passes = eq_ℚ (weighted_violation model set x) t }) [] ((eq-Decides (weighted_violation model set x) t).1 e) (All-nil Passes))

within_passes : (q : ℚ) (w : Weight) → IsWithinWeight q w → within_test q w ≡ true
within_passes q (Soft w) h = (le_q-Decides q w).1 h
within_passes q Rigid h = refl

module _ (model : Program) (set : List Member) (shares : List Share) (t : ℚ) (d : IsLeastDual model set [] shares t) where
  usable_least : usable_test model set [] shares ≡ true
  usable_least = by (usable_test model set [] shares) refl
    where
      by : (u : Bool) → usable_test model set [] shares ≡ u → usable_test model set [] shares ≡ true
      by true e = e
      by false e =
          absurd
          (least_no_law limit model set [] shares t d
          (sym (unusable_least model set shares (columns_step model shares (λ j. zero_ℚ) ∷ (within_steps model set shares ++ right_step model [] shares (λ r. eq_ℚ t (neg_ℚ r)) ∷ [])) e)))

  pub total_never : outcome (total_steps model set shares t) ≡ No → ⊥
  unfolding Passes
  total_never =
      let right : Step = right_step model [] shares (λ r. eq_ℚ t (neg_ℚ r)) in
      never_no (total_steps model set shares t)
      (All-cons Passes (usable_step model set [] shares) (right ∷ []) usable_least (All-cons Passes right [] ((eq-Decides t (neg_ℚ (right_side model [] shares))).1 d.total) (All-nil Passes)))

  pub weights_never : outcome (weight_steps model set shares) ≡ No → ⊥
  unfolding Passes
  weights_never =
      let soft : List Member = filter (λ m. not (is_rigid (weight model m))) set in
      never_no (weight_steps model set shares)
      (All-cons Passes (columns_step model shares (λ j. zero_ℚ)) (within_steps model set shares) (columns_pass model shares (λ j. zero_ℚ) d.cancels)
      (All-map Passes (λ m. record { operations = weight_operations shares m; passes = within_test (weight_on shares m) (weight model m) }) soft
      (All-weaker (λ m. IsWithinWeight (weight_on shares m) (weight model m)) (λ m. within_test (weight_on shares m) (weight model m) ≡ true) (λ m h. within_passes (weight_on shares m) (weight model m) h) soft
      (All-filter (λ m. not (is_rigid (weight model m))) (λ m. IsWithinWeight (weight_on shares m) (weight model m)) set d.within))))
