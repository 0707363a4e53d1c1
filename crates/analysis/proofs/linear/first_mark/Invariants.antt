use Rattle.std.proofs.Common.{◌≡◌}
use Rattle.analysis.specs.Linear.{first_mark as first_mark_of}
use Rattle.analysis.proofs.linear.first_mark.Given as goal

-- the first mark is that of the members that are still to come
abbrev pub invariant-loop-member : goal.invariant-loop-member
invariant-loop-member l = record {
  same : first_mark_of l.member-iterator ≡ first_mark_of l.set.members;
}
