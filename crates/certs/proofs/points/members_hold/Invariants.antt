use Rattle.std.proofs.Common.{◌≡◌}
use Rattle.lp_model.specs.Satisfaction.{values_at}
use Rattle.certs.specs.Checks.{outcome, point_steps}
use Rattle.certs.proofs.points.members_hold.Given as goal

-- the members that are still to come decide
abbrev pub invariant-loop-member : goal.invariant-loop-member
invariant-loop-member l = outcome (point_steps l.model l.member-iterator (values_at l.values)) ≡ outcome (point_steps l.model l.set.members (values_at l.values))
