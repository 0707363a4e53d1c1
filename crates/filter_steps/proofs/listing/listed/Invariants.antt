use Rattle.std.proofs.Common.{◌≡◌, ◌++◌}
use Rattle.filter_steps.proofs.listing.listed.Given as goal

-- the members that are listed, and those that are still to come
abbrev pub invariant-loop-member : goal.invariant-loop-member
invariant-loop-member l = l.list.items ++ l.member-iterator ≡ l.set.members
