use Rattle.std.proofs.Common.{◌≡◌, ◌∷◌, drop, length}
use Rattle.std.specs.Prelude.{All}
use Rattle.rational.specs.Rational.{zero_ℚ}
use Rattle.branch_proof.specs.Walk.{judgement, walk}
use Rattle.branch_proof.specs.Pending.{AreKnown, IsTurnable, pending}
use Rattle.branch_proof.proofs.checks.check_proof.Given as goal

-- the nodes that are left, on this path and those that it leaves to come, are judged as all are
abbrev pub invariant-loop-n : goal.invariant-loop-n
invariant-loop-n l = record {
  zeros : All (λ q. q ≡ zero_ℚ) l.sums;
  turnable : All IsTurnable l.path;
  known : AreKnown (length l.model.columns) l.path;
  left : walk l.model l.set.members l.n (l.path ∷ pending l.path) (drop l.n l.proof.nodes) ≡ judgement l.model l.set.members l.proof.nodes;
}
