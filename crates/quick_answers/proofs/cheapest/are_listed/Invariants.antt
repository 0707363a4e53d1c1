use Rattle.std.proofs.Common.{◌≡◌}
use Rattle.certs.specs.Alternative.{members_of}
use Rattle.quick_answers.proofs.cheapest.are_listed.Given as goal

-- where the members that follow are those of the shares that are left, all are those of all shares
abbrev pub invariant-loop-member : goal.invariant-loop-member
invariant-loop-member l = l.member-iterator ≡ members_of l.rest → l.members.members ≡ members_of l.shares
