use Rattle.std.proofs.Common.{All}
use Rattle.lp_model.specs.MemberSets.{IsPossibleIn}
use Rattle.certs.specs.Checks.{IsSetOf}
use Rattle.cert_check.specs.Sparse.{HasFailing}
use Rattle.cert_check.proofs.sparse.list_failing.Given as goal

-- what has gone passes
abbrev pub invariant-loop-member : goal.invariant-loop-member
invariant-loop-member l = record {
  same : IsSetOf l.model l.failing;
  possible : All (IsPossibleIn l.set) l.member-iterator;
  failing : HasFailing l.model l.set.members l.failing.members;
}
