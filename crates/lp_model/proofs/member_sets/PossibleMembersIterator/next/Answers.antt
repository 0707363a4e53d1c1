use Rattle.std.proofs.Common.{◌∷◌, ◌+◌, ◌<◌, ◌≤◌, ◌∙◌, drop, length, get_or, sym, ap, arith, rules, ℕ}
use Rattle.std.proofs.lemmas.List.{drop_more, drop_all}
use Rattle.lp_model.specs.declared.members.Member.{Member}
use Rattle.lp_model.specs.MemberSets.{members_for}
use Rattle.lp_model.proofs.Marked.{length-members_for, at_place}
use Rattle.lp_model.proofs.member_sets.PossibleMembersIterator.next.Goals as goal

pub returns-then-self-count_places-clause-steps : goal.returns-then-self-count_places-clause-steps
returns-then-self-count_places-clause-steps c =
    let i = c.self.inside in
    let past : length (members_for i.rows i.columns) ≤ i.place = omega (arith, length-members_for i.rows i.columns, c.count_places.ensures, c.if-self-count_places.true) in
    let none = sym c.self.view_is ∙ drop_all i.place (members_for i.rows i.columns) past in
    (none, none)

pub returns-clause-steps : goal.returns-clause-steps
returns-clause-steps c =
    let i = c.self.inside in
    let m = c.member_at-member.result in
    let all = members_for i.rows i.columns in
    let within : i.place < length all = omega (arith, length-members_for i.rows i.columns, c.count_places.ensures, c.if-self-count_places.false) in
    let here = ap (λ (k : ℕ). get_or all k m) c.member_at-member.ensures.place ∙ at_place i.rows i.columns m m c.member_at-member.ensures.in_range in
    sym c.self.view_is ∙ drop_more all i.place m within ∙ ap (λ (n : Member). n ∷ drop (i.place + 1) all) here

pub returns-clause-goes : goal.returns-clause-goes
returns-clause-goes c =
    let i = c.self.inside in
    let m = c.member_at-member.result in
    let all = members_for i.rows i.columns in
    let within : i.place < length all = omega (arith, length-members_for i.rows i.columns, c.count_places.ensures, c.if-self-count_places.false) in
    let here = ap (λ (k : ℕ). get_or all k m) c.member_at-member.ensures.place ∙ at_place i.rows i.columns m m c.member_at-member.ensures.in_range in
    let step = sym c.self.view_is ∙ drop_more all i.place m within ∙ ap (λ (n : Member). n ∷ drop (i.place + 1) all) here in
    let shorter = ap length step in
    search rules
