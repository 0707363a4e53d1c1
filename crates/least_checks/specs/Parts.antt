-- The check of a least weighted violation in parts, as a report has a line for each: the right side, the violation at a point, and the columns with the weights.
use Rattle.std.specs.Prelude.{◌≡◌, cond, List, [], ◌∷◌, ◌++◌}
use Rattle.rational.specs.Rational.{ℚ, eq_ℚ, lt_q, neg_ℚ, zero_ℚ}
use Rattle.rational.specs.Linear.{Assignment}
use Rattle.lp_model.specs.declared.members.Member.{Member}
use Rattle.lp_model.specs.Program.{Program, IsWellFormed}
use Rattle.lp_model.specs.Members.{number, side, value}
use Rattle.lp_model.specs.Evaluation.{member_operations}
use Rattle.frac128.specs.declared.Op.TheVariants.{Minus}
use Rattle.frac128.specs.Calculation.{Calculation}
use Rattle.frac128.specs.Width.{operation}
use Rattle.certs.specs.declared.evidence.Share.{Share}
use Rattle.certs.specs.declared.evidence.Checked.TheVariants.{Yes}
use Rattle.certs.specs.Violation.{weighted_violation, IsLeastDual}
use Rattle.certs.specs.Checks.{Step, outcome, usable_step, columns_step, right_step, within_steps, missed_operations, weighted_operations}

-- the shares may be used, and the right side is -t
abbrev pub total_steps : Program → List Member → List Share → ℚ → List Step
total_steps model set shares t = usable_step model set [] shares ∷ right_step model [] shares (λ r. eq_ℚ t (neg_ℚ r)) ∷ []

-- the columns cancel, and no soft member is given more than its weight
abbrev pub weight_steps : Program → List Member → List Share → List Step
weight_steps model set shares = columns_step model shares (λ j. zero_ℚ) ∷ within_steps model set shares

-- the weighted violation is this number
abbrev pub violation_steps : Program → List Member → Assignment → ℚ → List Step
violation_steps model set x t = record { operations = weighted_operations model zero_ℚ set x; passes = eq_ℚ (weighted_violation model set x) t } ∷ []

-- what it takes to find by how much a member is missed: its sum, and the greater number minus the less
abbrev pub missing_operations : Program → Member → Assignment → Calculation
missing_operations model m x = member_operations model m x ++ missed_operations (side m) (number model m) (value model m x)

-- a number minus another, where it is above it
abbrev pub excess_operations : ℚ → ℚ → Calculation
excess_operations a b = cond (lt_q b a) (operation Minus a b ∷ []) []

-- ---- laws
-- a yes to both parts shows the total
abbrev pub PartsLaw : Type 0
PartsLaw = (model : Program) (set : List Member) (shares : List Share) (t : ℚ) → IsWellFormed model
    → outcome (total_steps model set shares t) ≡ Yes → outcome (weight_steps model set shares) ≡ Yes → IsLeastDual model set [] shares t

-- and a yes to a violation is the violation
abbrev pub ViolationLaw : Type 0
ViolationLaw = (model : Program) (set : List Member) (x : Assignment) (t : ℚ) → outcome (violation_steps model set x t) ≡ Yes → weighted_violation model set x ≡ t
