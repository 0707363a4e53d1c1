use Rattle.std.proofs.Common.{◌≡◌, map, take}
use Rattle.relaxation.specs.Costs.{cost_by}
use Rattle.relaxation.specs.Origins.{cost_term}
use Rattle.relaxation.proofs.systems.elastic_costs.Given as goal

-- the costs of the members passed are there
abbrev pub invariant-loop-variable : goal.invariant-loop-variable
invariant-loop-variable l = l.terms.items ≡ map (cost_term (cost_by l.model l.costs)) (take l.variable-index l.soft)
