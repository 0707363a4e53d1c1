use Rattle.std.proofs.Common.{◌≡◌, subst, filter}
use Rattle.lp_model.specs.Members.{has}
use Rattle.lp_model.specs.MemberSets.{SetValue, possible_in}
use Rattle.report_text.proofs.listed.MemberList.stands_in_order.Goals as goal

pub returns : goal.returns
returns c = record { possible = subst (λ (s : SetValue). s.members ≡ filter (has s.members) (possible_in s)) c.self.view_is c.self.invariant }
