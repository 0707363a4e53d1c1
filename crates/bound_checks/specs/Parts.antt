-- The check of a bound in parts, as a report has a line for each: the value at a point, the right side, and the columns.
use Rattle.std.specs.Prelude.{◌≡◌, List, [], ◌∷◌}
use Rattle.rational.specs.Rational.{ℚ, eq_ℚ}
use Rattle.rational.specs.Linear.{Assignment, factor_of}
use Rattle.lp_model.specs.declared.members.Member.{Member}
use Rattle.lp_model.specs.Program.{Program, IsWellFormed}
use Rattle.lp_model.specs.Evaluation.{value_operations}
use Rattle.certs.specs.declared.evidence.Share.{Share}
use Rattle.certs.specs.declared.evidence.Checked.TheVariants.{Yes}
use Rattle.certs.specs.Bound.{directed, objective_value, IsBoundDual}
use Rattle.certs.specs.Checks.{Step, outcome, usable_step, columns_step, right_step}

-- the objective's value is this number
abbrev pub value_steps : Program → Assignment → ℚ → List Step
value_steps model x v = record { operations = value_operations model.objective x; passes = eq_ℚ (objective_value model x) v } ∷ []

-- the shares may be used, and the right side is the bound
abbrev pub right_steps : Program → List Member → List Share → ℚ → List Step
right_steps model set shares b = usable_step model set [] shares ∷ right_step model [] shares (λ r. eq_ℚ r (directed model b)) ∷ []

-- the columns are the objective
abbrev pub factor_steps : Program → List Share → List Step
factor_steps model shares = columns_step model shares (λ j. directed model (factor_of model.objective j)) ∷ []

-- ---- laws
-- a yes to both parts shows the bound
abbrev pub PartsLaw : Type 0
PartsLaw = (model : Program) (set : List Member) (shares : List Share) (b : ℚ) → IsWellFormed model
    → outcome (right_steps model set shares b) ≡ Yes → outcome (factor_steps model shares) ≡ Yes → IsBoundDual model set shares b

-- and a yes to a value is the value
abbrev pub ValueLaw : Type 0
ValueLaw = (model : Program) (x : Assignment) (v : ℚ) → outcome (value_steps model x v) ≡ Yes → objective_value model x ≡ v
