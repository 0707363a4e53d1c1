use Rattle.std.proofs.Common.{◌∙◌, sym, ap, length, rules}
use Rattle.lp_model.proofs.Walk.{next_step, next_possible, none_follow}
use Rattle.lp_model.proofs.member_sets.MembersIterator.next.Goals as goal

pub returns-in_err-member-clause-steps : goal.returns-in_err-member-clause-steps
returns-in_err-member-clause-steps c =
    let i = c.self.inside in
    let none = sym c.self.view_is ∙ none_follow i.after i.set.now.members (sym c.next.ensures ∙ c.in_err-member.was) in
    rw c.from_residual.ensures (none, none)

pub invariant_of-self : goal.invariant_of-self
invariant_of-self c =
    let i = c.self.inside in
    next_possible i.set.now i.after c.in_ok-member.member c.stands_in_order.ensures.possible (sym c.next.ensures ∙ c.in_ok-member.was)

pub returns-clause-steps : goal.returns-clause-steps
returns-clause-steps c =
    let i = c.self.inside in
    sym c.self.view_is ∙ next_step i.after i.set.now.members c.in_ok-member.member c.stands_in_order.ensures.in_order (sym c.next.ensures ∙ c.in_ok-member.was)

pub returns-clause-goes : goal.returns-clause-goes
returns-clause-goes c =
    let i = c.self.inside in
    let step = sym c.self.view_is ∙ next_step i.after i.set.now.members c.in_ok-member.member c.stands_in_order.ensures.in_order (sym c.next.ensures ∙ c.in_ok-member.was) in
    let shorter = ap length step in
    search rules
