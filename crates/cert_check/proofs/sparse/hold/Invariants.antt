use Rattle.std.proofs.Common.{All}
use Rattle.lp_model.specs.Satisfaction.{values_at}
use Rattle.cert_check.specs.Sparse.{Passes}
use Rattle.cert_check.proofs.sparse.hold.Given as goal

-- the members that are still to come decide
abbrev pub invariant-loop-member : goal.invariant-loop-member
invariant-loop-member l = All (Passes l.model (values_at l.values)) l.member-iterator → All (Passes l.model (values_at l.values)) l.set.members
