use Rattle.std.proofs.Common.{◌≡◌, ◌++◌}
use Rattle.report_text.proofs.listed.MemberList.of.Given as goal

-- the members that are still to come complete the list
abbrev pub invariant-loop-member : goal.invariant-loop-member
invariant-loop-member l = l.members.items ++ l.member-iterator ≡ l.set.members
