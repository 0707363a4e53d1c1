use Rattle.quick_run.proofs.Building.{IsBuilding}
use Rattle.quick_run.proofs.combinations.member_shares.Given as goal

abbrev pub invariant-loop-member : goal.invariant-loop-member
invariant-loop-member l = IsBuilding l.fn.set.members l.shares.items l.member-iterator
