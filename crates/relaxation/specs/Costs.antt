-- What the elastic variables of a system cost.
use Rattle.std.specs.Prelude.{List}
use Rattle.rational.specs.Rational.{ℚ, one_ℚ}
use Rattle.rational.specs.Linear.{Term}
use Rattle.lp_model.specs.declared.members.Member.{Member}
use Rattle.lp_model.specs.Program.{Program}
use Rattle.lp_model.specs.Members.{weight}
use Rattle.certs.specs.Alternative.{cost_of}
use Rattle.certs.specs.System.{LinearSystem}
use Rattle.certs.specs.Elastic.{elastic_system, soft_members, cost_terms}
use Rattle.std.specs.Prelude.{length}
use Rattle.relaxation.specs.declared.systems.Costs.{Costs}
use Rattle.relaxation.specs.declared.systems.Costs.TheVariants.{Ones, Weights}

-- all 1, or the program's own weights
abbrev pub cost_by : Program → Costs → Member → ℚ
cost_by model Ones = λ m. one_ℚ
cost_by model Weights = λ m. cost_of (weight model m)

-- the elastic system of a set with these costs
abbrev pub system_by : Program → List Member → List Member → Costs → LinearSystem
system_by model set enforced costs = elastic_system model set enforced (cost_by model costs)

-- its objective: the weighted sum of the elastic variables, with the sign of a sum that is to be made least
abbrev pub objective_by : Program → List Member → List Member → Costs → List Term
objective_by model set enforced costs = cost_terms (cost_by model costs) (length model.columns) (soft_members set enforced)
