-- Outcomes of steps in turn.
use Rattle.std.proofs.Common.{◌≡◌, refl, sym, ◌∙◌, ap, length, Bool, true, false, cond, List, [], ◌∷◌, ◌++◌, Option, None, Some, Ok, Err}
use Rattle.rational.specs.Rational.{ℚ, zero_ℚ, neg_ℚ, eq_ℚ}
use Rattle.rational.specs.Linear.{Assignment}
use Rattle.rational.proofs.Compare.{eq-Decides}
use Rattle.lp_model.specs.declared.members.Member.{Member}
use Rattle.lp_model.specs.Program.{Program}
use Rattle.frac128.specs.declared.Wide.{Wide as Operation}
use Rattle.frac128.specs.Limit.{limit}
use Rattle.frac128.specs.Calculation.{first_wide}
use Rattle.certs.specs.declared.evidence.Share.{Share}
use Rattle.certs.specs.declared.evidence.Checked.{Checked}
use Rattle.certs.specs.declared.evidence.Checked.TheVariants.{Yes, No, Wide}
use Rattle.certs.specs.Combination.{column_sum}
use Rattle.certs.specs.Violation.{weighted_violation}
use Rattle.certs.specs.Checks.{Step, outcome, unless_wide, checked_of, every_below, usable_test, usable_step, columns_step, right_step, column_operations, weighted_operations, least_steps}
use Rattle.least_checks.specs.Parts.{total_steps, weight_steps, violation_steps}

-- what follows a yes
abbrev pub and_then : Checked → Checked → Checked
and_then Yes rest = rest
and_then No rest = No
and_then (Wide o) rest = Wide o

pub appended : (xs ys : List Step) → outcome (xs ++ ys) ≡ and_then (outcome xs) (outcome ys)
appended [] ys = refl
appended (s ∷ xs) ys = by (first_wide limit s.operations) s.passes (appended xs ys)
  where
    by : (o : Option Operation) (b : Bool) → outcome (xs ++ ys) ≡ and_then (outcome xs) (outcome ys)
        → unless_wide o (cond b (outcome (xs ++ ys)) No) ≡ and_then (unless_wide o (cond b (outcome xs) No)) (outcome ys)
    by None true e = e
    by None false e = refl
    by (Some o) b e = refl

-- a first part that is wide, or fails, is the whole; one that passes leaves it to the second
pub first_is_wide : (xs ys : List Step) (o : Operation) → checked_of (Err o) ≡ outcome xs → checked_of (Err o) ≡ outcome (xs ++ ys)
first_is_wide xs ys o e = sym (appended xs ys ∙ ap (λ c. and_then c (outcome ys)) (sym e))

pub first_fails : (xs ys : List Step) → checked_of (Ok false) ≡ outcome xs → checked_of (Ok false) ≡ outcome (xs ++ ys)
first_fails xs ys e = sym (appended xs ys ∙ ap (λ c. and_then c (outcome ys)) (sym e))

pub first_passes : (xs ys : List Step) → checked_of (Ok true) ≡ outcome xs → outcome (xs ++ ys) ≡ outcome ys
first_passes xs ys e = appended xs ys ∙ ap (λ c. and_then c (outcome ys)) (sym e)

-- ---- before any arithmetic
usable_is : (model : Program) (set : List Member) (shares : List Share) (rest : List Step) → outcome (usable_step model set [] shares ∷ rest) ≡ cond (usable_test model set [] shares) (outcome rest) No
unfolding first_wide
usable_is model set shares rest = refl

pub unusable : (model : Program) (set : List Member) (shares : List Share) (rest : List Step) → usable_test model set [] shares ≡ false → No ≡ outcome (usable_step model set [] shares ∷ rest)
unusable model set shares rest e = sym (usable_is model set shares rest ∙ ap (λ (b : Bool). cond b (outcome rest) No) e)

pub usable : (model : Program) (set : List Member) (shares : List Share) (rest : List Step) → usable_test model set [] shares ≡ true → outcome (usable_step model set [] shares ∷ rest) ≡ outcome rest
usable model set shares rest e = usable_is model set shares rest ∙ ap (λ (b : Bool). cond b (outcome rest) No) e

-- ---- columns that cancel
module _ (model : Program) (shares : List Share) where
  columns_are : outcome (columns_step model shares (λ j. zero_ℚ) ∷ []) ≡ unless_wide (first_wide limit (column_operations model (λ j. zero_ℚ) shares)) (cond (every_below (λ j. eq_ℚ (column_sum model shares j) zero_ℚ) (length model.columns)) Yes No)
  columns_are = refl

  pub wide_columns : (o : Operation) → first_wide limit (column_operations model (λ j. zero_ℚ) shares) ≡ Some o → Wide o ≡ outcome (columns_step model shares (λ j. zero_ℚ) ∷ [])
  wide_columns o e = sym (columns_are ∙ ap (λ (p : Option Operation). unless_wide p (cond (every_below (λ j. eq_ℚ (column_sum model shares j) zero_ℚ) (length model.columns)) Yes No)) e)

  pub columns_decided : first_wide limit (column_operations model (λ j. zero_ℚ) shares) ≡ None → outcome (columns_step model shares (λ j. zero_ℚ) ∷ []) ≡ cond (every_below (λ j. eq_ℚ (column_sum model shares j) zero_ℚ) (length model.columns)) Yes No
  columns_decided e = columns_are ∙ ap (λ (p : Option Operation). unless_wide p (cond (every_below (λ j. eq_ℚ (column_sum model shares j) zero_ℚ) (length model.columns)) Yes No)) e

-- ---- both parts
joined : (u : Bool) (w r : Checked) → cond u r No ≡ Yes → w ≡ Yes → cond u (and_then w r) No ≡ Yes
joined false w r e f = absurd (cc)
joined true w r e f = ap (λ c. and_then c r) f ∙ e

pub both_pass : (model : Program) (set : List Member) (shares : List Share) (t : ℚ) → outcome (total_steps model set shares t) ≡ Yes → outcome (weight_steps model set shares) ≡ Yes → outcome (least_steps model set [] shares t) ≡ Yes
both_pass model set shares t e f =
    let right = right_step model [] shares (λ r. eq_ℚ t (neg_ℚ r)) in
    usable_is model set shares (weight_steps model set shares ++ right ∷ [])
    ∙ ap (λ c. cond (usable_test model set [] shares) c No) (appended (weight_steps model set shares) (right ∷ []))
    ∙ joined (usable_test model set [] shares) (outcome (weight_steps model set shares)) (outcome (right ∷ [])) (sym (usable_is model set shares (right ∷ [])) ∙ e) f

-- ---- a violation
passed : (p : Option Operation) (t : Bool) → unless_wide p (cond t Yes No) ≡ Yes → t ≡ true
passed None true e = refl
passed None false e = absurd (cc)
passed (Some o) t e = absurd (cc)

pub violation_passes : (model : Program) (set : List Member) (x : Assignment) (t : ℚ) → outcome (violation_steps model set x t) ≡ Yes → weighted_violation model set x ≡ t
violation_passes model set x t e = (eq-Decides (weighted_violation model set x) t).0 (passed (first_wide limit (weighted_operations model zero_ℚ set x)) (eq_ℚ (weighted_violation model set x) t) e)
