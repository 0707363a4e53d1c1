use Rattle.std.proofs.Common.{◌≡◌, ◌++◌, List}
use Rattle.lp_model.specs.Members.{Member, possible_members}
use Rattle.lp_model.proofs.Filled.{filled_set}
use Rattle.lp_model.proofs.models.Model.members.Given as goal

-- the active ones of those gone through are in the set
abbrev pub invariant-loop-member : goal.invariant-loop-member
invariant-loop-member l = (done : List Member) × (possible_members l.self ≡ done ++ l.member-iterator) × (l.set ≡ filled_set l.self done)
