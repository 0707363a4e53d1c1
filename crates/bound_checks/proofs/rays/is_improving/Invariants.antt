use Rattle.std.proofs.Common.{◌≡◌}
use Rattle.lp_model.specs.Satisfaction.{values_at}
use Rattle.certs.specs.Checks.{outcome, ray_steps}
use Rattle.bound_checks.proofs.rays.is_improving.Given as goal

-- the members that are still to come, and the objective, decide
abbrev pub invariant-loop-member : goal.invariant-loop-member
invariant-loop-member l = outcome (ray_steps l.model l.member-iterator (values_at l.values)) ≡ outcome (ray_steps l.model l.set.members (values_at l.values))
