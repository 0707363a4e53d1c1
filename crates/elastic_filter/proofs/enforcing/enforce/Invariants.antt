use Rattle.std.proofs.Common.{◌≡◌, ◌≤◌, ◌+◌, ◌-◌, length}
use Rattle.certs.specs.Checks.{IsSetOf}
use Rattle.elastic_filter.proofs.Chains.{HasReached}
use Rattle.elastic_filter.proofs.enforcing.enforce.Given as goal

-- a chain has reached what is enforced, and the stretcher has told of no more rounds than were made
abbrev pub invariant-loop-stop : goal.invariant-loop-stop
invariant-loop-stop g l =
    let of = g.S.Stretcher in
    let old = l.fn.stretcher in
    record {
      same : IsSetOf (of.model old) l.enforced;
      reached : HasReached (of.model old) l.set.members l.rounds l.enforced.members;
      rounds : of.rounds l.stretcher + 1 ≤ of.rounds old + l.rounds;
      stops : of.stops l.stretcher ≡ of.stops old;
      model : of.model l.stretcher ≡ of.model old;
      budgets : of.budgets l.stretcher ≡ of.budgets old;
    }

-- members that are not enforced yet
abbrev pub decreases-loop-stop : goal.decreases-loop-stop
decreases-loop-stop g l = length l.set.members - length l.enforced.members
