use Rattle.std.proofs.Common.{◌≡◌, take, filter}
use Rattle.lp_model.specs.Members.{has}
use Rattle.lp_model.specs.MemberSets.{possible_in}
use Rattle.report_text.proofs.listed.MemberList.unpacked.Given as goal

-- the set has the possible members that are among those so far
abbrev pub invariant-loop-member : goal.invariant-loop-member
invariant-loop-member l = l.set ≡ record l.self { members = filter (has (take l.member-index l.self.members)) (possible_in l.self) }
