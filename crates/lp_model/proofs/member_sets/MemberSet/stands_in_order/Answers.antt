use Rattle.std.proofs.Common.{◌≡◌, subst, filter}
use Rattle.lp_model.specs.Members.{has, IsInOrder}
use Rattle.lp_model.specs.MemberSets.{SetValue, members_for, is_marked, possible_in}
use Rattle.lp_model.proofs.Marked.{is_what_it_has, in_order}
use Rattle.lp_model.proofs.member_sets.MemberSet.stands_in_order.Goals as goal

pub returns-clause-possible : goal.returns-clause-possible
returns-clause-possible c =
    let i = c.self.inside in
    subst (λ (s : SetValue). s.members ≡ filter (has s.members) (possible_in s)) c.self.view_is (is_what_it_has (is_marked i.rows i.columns i.words.items) (members_for i.rows i.columns))

pub returns-clause-in_order : goal.returns-clause-in_order
returns-clause-in_order c =
    let i = c.self.inside in
    subst (λ (s : SetValue). IsInOrder s.members) c.self.view_is (in_order i.rows i.columns i.words.items)
