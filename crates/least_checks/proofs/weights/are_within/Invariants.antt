use Rattle.std.proofs.Common.{◌≡◌, length}
use Rattle.std.specs.Prelude.{All}
use Rattle.lp_model.specs.MemberSets.{IsMemberFor}
use Rattle.certs.specs.Checks.{outcome, within_steps}
use Rattle.least_checks.proofs.weights.are_within.Given as goal

-- the members that are still to come decide
abbrev pub invariant-loop-member : goal.invariant-loop-member
invariant-loop-member l = record {
  known : All (IsMemberFor (length l.model.rows) (length l.model.columns)) l.member-iterator;
  left : outcome (within_steps l.model l.member-iterator l.shares) ≡ outcome (within_steps l.model l.set.members l.shares);
}
