-- The outcome of the check of a combination, by its three tests.
use Rattle.std.proofs.Common.{◌≡◌, ◌<◌, refl, sym, ◌∙◌, ap, ap₂, subst, ℕ, zero, suc, Bool, true, false, true≢false, eqb-true, cond, ◌==◌, List, [], ◌∷◌, length, Option, None, Some, arith, inl, inr}
use Rattle.std.specs.Prelude.{All}
use Rattle.std.proofs.lemmas.Bool.{cases_lt, and_from, and_parts}
use Rattle.std.proofs.lemmas.List.{get_or_default, get_or_past}
use Rattle.std.proofs.lemmas.List.Elements.{All-weaker}
use Rattle.algebra.proofs.Ring.{x0, ◌:+◌, ◌:*◌, zero_of}
use Rattle.rational.specs.Rational.{ℚ, ◌+ℚ◌, ◌*ℚ◌, zero_ℚ, eq_ℚ, lt_q}
use Rattle.rational.specs.Linear.{Term, Assignment, factor_of}
use Rattle.rational.proofs.Compare.{eq-Decides}
use Rattle.rational.proofs.Field.{ring_ℚ}
use Rattle.rational.proofs.Sums.{nothing_first}
use Rattle.lp_model.specs.declared.members.Member.{Member}
use Rattle.lp_model.specs.Program.{Program, IsWellFormed}
use Rattle.lp_model.specs.Satisfaction.{values_at}
use Rattle.frac128.specs.declared.Wide.{Wide as Operation}
use Rattle.frac128.specs.Limit.{limit}
use Rattle.frac128.specs.Calculation.{first_wide}
use Rattle.certs.specs.declared.evidence.Branch.{Branch}
use Rattle.certs.specs.declared.evidence.Share.{Share}
use Rattle.certs.specs.declared.evidence.Checked.{Checked}
use Rattle.certs.specs.declared.evidence.Checked.TheVariants.{Yes, No, Wide}
use Rattle.certs.specs.Combination.{IsThere, source_form, multiple, column_sum, right_side}
use Rattle.certs.specs.Checks.{outcome, unless_wide, every, every_below, usable_test, is_zero_on, column_operations, right_operations, combination_steps}
use Rattle.certs.proofs.Evaluate.{every_all, every_below_all}
use Rattle.certs.proofs.Passed.{usable_there}
use Rattle.certs.proofs.Refused.{every_passes}
use Rattle.certs.proofs.Further.{source_known}

-- whether the shares can be used, the columns' first wide operation, whether they are 0, that of the right side, and whether it is below 0
abbrev combined : Bool → Option Operation → Bool → Option Operation → Bool → Checked
combined u p z q r = cond u (unless_wide p (cond z (unless_wide q (cond r Yes No)) No)) No

module _ (model : Program) (set : List Member) (path : List Branch) (shares : List Share) where
  abbrev columns : Option Operation
  columns = first_wide limit (column_operations model (λ j. zero_ℚ) shares)

  abbrev zeros : Bool
  zeros = every_below (λ j. eq_ℚ (column_sum model shares j) zero_ℚ) (length model.columns)

  abbrev right : Option Operation
  right = first_wide limit (right_operations model path zero_ℚ shares)

  abbrev below : Bool
  below = lt_q (right_side model path shares) zero_ℚ

  is_combined : outcome (combination_steps model set path shares) ≡ combined (usable_test model set path shares) columns zeros right below
  unfolding first_wide
  is_combined = refl

  pub unusable : usable_test model set path shares ≡ false → No ≡ outcome (combination_steps model set path shares)
  unusable e = sym (is_combined ∙ ap (λ (u : Bool). combined u columns zeros right below) e)

  module _ (u : usable_test model set path shares ≡ true) where
    usable : outcome (combination_steps model set path shares) ≡ combined true columns zeros right below
    usable = is_combined ∙ ap (λ (t : Bool). combined t columns zeros right below) u

    pub wide_columns : (o : Operation) → first_wide limit (column_operations model (λ j. zero_ℚ) shares) ≡ Some o → Wide o ≡ outcome (combination_steps model set path shares)
    wide_columns o e = sym (usable ∙ ap (λ (p : Option Operation). combined true p zeros right below) e)

    module _ (p : first_wide limit (column_operations model (λ j. zero_ℚ) shares) ≡ None) where
      summed : outcome (combination_steps model set path shares) ≡ combined true None zeros right below
      summed = usable ∙ ap (λ (t : Option Operation). combined true t zeros right below) p

      pub not_zero : every_below (λ j. eq_ℚ (column_sum model shares j) zero_ℚ) (length model.columns) ≡ false → No ≡ outcome (combination_steps model set path shares)
      not_zero e = sym (summed ∙ ap (λ (t : Bool). combined true None t right below) e)

      module _ (z : every_below (λ j. eq_ℚ (column_sum model shares j) zero_ℚ) (length model.columns) ≡ true) where
        cancelled : outcome (combination_steps model set path shares) ≡ combined true None true right below
        cancelled = summed ∙ ap (λ (t : Bool). combined true None t right below) z

        pub wide_right : (o : Operation) → first_wide limit (right_operations model path zero_ℚ shares) ≡ Some o → Wide o ≡ outcome (combination_steps model set path shares)
        wide_right o e = sym (cancelled ∙ ap (λ (t : Option Operation). combined true None true t below) e)

        pub decided : first_wide limit (right_operations model path zero_ℚ shares) ≡ None → outcome (combination_steps model set path shares) ≡ cond (lt_q (right_side model path shares) zero_ℚ) Yes No
        decided e = cancelled ∙ ap (λ (t : Option Operation). combined true None true t below) e

-- the columns of the shares are known
pub shares_known : (model : Program) (set : List Member) (path : List Branch) (shares : List Share) (n : ℕ) → IsWellFormed model → All (λ b. b.column < length model.columns) path
    → usable_test model set path shares ≡ true → n ≡ length model.columns → All (λ s. All (λ t. t.column < n) (source_form model s.source)) shares
shares_known model set path shares n f h u e =
    subst (λ (m : ℕ). All (λ s. All (λ t. t.column < m) (source_form model s.source)) shares) (sym e)
    (All-weaker (IsThere model set path) (λ s. All (λ t. t.column < length model.columns) (source_form model s.source)) (λ s k. source_known model path f h s.source k.number) shares
    (usable_there model set path shares u))

-- ---- the sums, from 0
pub all_zero : (xs : List ℚ) → All (λ q. q ≡ zero_ℚ) xs → ◌≡◌ {A = Assignment} (values_at xs) (λ j. zero_ℚ)
all_zero xs h = λ i. λ j. at j i
  where
    at : (j : ℕ) → values_at xs j ≡ zero_ℚ
    at j = elim (cases_lt j (length xs)) [ inl l ↦ h j zero_ℚ l | inr l ↦ get_or_past xs j zero_ℚ l ]

below_from : (test : ℕ → Bool) (n : ℕ) → ((j : ℕ) → j < n → test j ≡ true) → every_below test n ≡ true
below_from test zero h = refl
below_from test (suc n) h = and_from (every_below test n) (test n) (below_from test n (λ j l. h j (omega arith))) (h n (omega arith))

one_truth : (a b : Bool) → (a ≡ true → b ≡ true) → (b ≡ true → a ≡ true) → a ≡ b
one_truth true true f g = refl
one_truth true false f g = sym (f refl)
one_truth false true f g = g refl
one_truth false false f g = refl

-- all sums are 0 exactly where the columns' are
pub zeros_are : (xs : List ℚ) (n : ℕ) (sum : ℕ → ℚ) → length xs ≡ n → ((j : ℕ) → values_at xs j ≡ sum j) → every (λ q. eq_ℚ q zero_ℚ) xs ≡ every_below (λ j. eq_ℚ (sum j) zero_ℚ) n
zeros_are xs n sum e h =
    one_truth (every (λ q. eq_ℚ q zero_ℚ) xs) (every_below (λ j. eq_ℚ (sum j) zero_ℚ) n)
    (λ k. below_from (λ j. eq_ℚ (sum j) zero_ℚ) n (λ j l. subst (λ (q : ℚ). eq_ℚ q zero_ℚ ≡ true) (h j) (every_all (λ q. eq_ℚ q zero_ℚ) (λ q. eq_ℚ q zero_ℚ ≡ true) (λ q s. s) xs k j zero_ℚ (omega arith))))
    (λ k. every_passes (λ q. eq_ℚ q zero_ℚ) (λ q. eq_ℚ q zero_ℚ ≡ true) (λ q s. s) xs
    (λ j d l. subst (λ (q : ℚ). eq_ℚ q zero_ℚ ≡ true) (sym (h j) ∙ get_or_default xs j zero_ℚ d l) (every_below_all (λ j. eq_ℚ (sum j) zero_ℚ) n j k (omega arith))))

-- ---- where the columns that the forms name have sums of 0, each has
-- a form that names only columns that pass leaves out one that does not
left_out : (test : ℕ → Bool) (terms : List Term) (j : ℕ) → every (λ t. test t.column) terms ≡ true → test j ≡ false → factor_of terms j ≡ zero_ℚ
left_out test [] j h f = refl
left_out test (t ∷ terms) j h f =
    let both = and_parts (test t.column) (every (λ t. test t.column) terms) h in
    ap (λ (s : Bool). cond s t.factor zero_ℚ +ℚ factor_of terms j) (apart (t.column == j) refl both.0) ∙ (nothing_first (factor_of terms j) ∙ left_out test terms j both.1 f)
  where
    apart : (s : Bool) → (t.column == j) ≡ s → test t.column ≡ true → s ≡ false
    apart true e k = absurd (true≢false (sym k ∙ (ap test (eqb-true t.column j e) ∙ f)))
    apart false e k = refl

module _ (model : Program) where
  abbrev named : (ℕ → Bool) → List Share → Bool
  named test shares = every (λ s. every (λ t. test t.column) (source_form model s.source)) shares

  sum_left_out : (test : ℕ → Bool) (shares : List Share) (j : ℕ) → named test shares ≡ true → test j ≡ false → column_sum model shares j ≡ zero_ℚ
  sum_left_out test [] j h f = refl
  sum_left_out test (s ∷ shares) j h f =
      let both = and_parts (every (λ t. test t.column) (source_form model s.source)) (named test shares) h in
      ap₂ (λ (a b : ℚ). multiple s *ℚ a +ℚ b) (left_out test (source_form model s.source) j both.0 f) (sum_left_out test shares j both.1 f)
      ∙ ring_ℚ (multiple s ∷ []) (x0 :* zero_of :+ zero_of) zero_of tt

  module _ (shares : List Share) (x : Assignment) (same : (j : ℕ) → x j ≡ column_sum model shares j) where
    abbrev zero_at : ℕ → Bool
    zero_at j = eq_ℚ (x j) zero_ℚ

    no_other : named zero_at shares ≡ true → (j : ℕ) → zero_at j ≡ true
    no_other h j = by (zero_at j) refl
      where
        by : (s : Bool) → zero_at j ≡ s → zero_at j ≡ true
        by true e = e
        by false e = (eq-Decides (x j) zero_ℚ).1 (same j ∙ sum_left_out zero_at shares j h e)

    -- all sums are 0 exactly where those that are named are
    pub named_zeros_are : (n : ℕ) → All (λ s. All (λ t. t.column < n) (source_form model s.source)) shares
        → every (λ s. is_zero_on x (source_form model s.source)) shares ≡ every_below (λ j. eq_ℚ (column_sum model shares j) zero_ℚ) n
    named_zeros_are n known =
        one_truth (named zero_at shares) (every_below (λ j. eq_ℚ (column_sum model shares j) zero_ℚ) n)
        (λ h. below_from (λ j. eq_ℚ (column_sum model shares j) zero_ℚ) n (λ j l. subst (λ (q : ℚ). eq_ℚ q zero_ℚ ≡ true) (same j) (no_other h j)))
        (λ h. every_passes (λ s. is_zero_on x (source_form model s.source)) (λ s. All (λ t. t.column < n) (source_form model s.source))
        (λ s k. every_passes (λ t. zero_at t.column) (λ t. t.column < n) (λ t l. subst (λ (q : ℚ). eq_ℚ q zero_ℚ ≡ true) (sym (same t.column)) (every_below_all (λ j. eq_ℚ (column_sum model shares j) zero_ℚ) n t.column h l)) (source_form model s.source) k)
        shares known)

    -- and then they are again as they were at first
    pub zeros_again : (xs : List ℚ) → x ≡ values_at xs → every (λ s. is_zero_on x (source_form model s.source)) shares ≡ true → All (λ q. q ≡ zero_ℚ) xs
    zeros_again xs is h j d l =
        get_or_default xs j d zero_ℚ l ∙ (ap (λ (y : Assignment). y j) (sym is) ∙ (eq-Decides (x j) zero_ℚ).0 (no_other h j))

-- what the columns' sums are, where they began at 0
pub from_zero : (xs : List ℚ) (after sum : ℕ → ℚ) → All (λ q. q ≡ zero_ℚ) xs → ((j : ℕ) → after j ≡ values_at xs j +ℚ sum j) → (j : ℕ) → after j ≡ sum j
from_zero xs after sum h k j = k j ∙ (ap (λ (x : Assignment). x j +ℚ sum j) (all_zero xs h) ∙ nothing_first (sum j))
