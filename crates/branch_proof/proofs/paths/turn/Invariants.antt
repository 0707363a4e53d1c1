use Rattle.std.proofs.Common.{◌≡◌, ℕ, length}
use Rattle.std.specs.Prelude.{All}
use Rattle.branch_proof.specs.Pending.{AreKnown, IsTurnable, pending}
use Rattle.branch_proof.proofs.paths.turn.Given as goal

-- what is still to come stays
abbrev pub invariant-loop-branch : goal.invariant-loop-branch
invariant-loop-branch l = record { turnable : All IsTurnable l.path; known : (n : ℕ) → AreKnown n l.initial.path → AreKnown n l.path; next : pending l.path ≡ pending l.initial.path }

abbrev pub decreases-loop-branch : goal.decreases-loop-branch
decreases-loop-branch l = length l.path
