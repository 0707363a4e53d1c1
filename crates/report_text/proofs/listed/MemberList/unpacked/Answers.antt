use Rattle.std.proofs.Common.{◌≡◌, ◌<◌, ℕ, List, [], length, take, get_or, sym, ap, subst, ◌∙◌, filter}
use Rattle.lp_model.specs.declared.members.Member.{Member}
use Rattle.lp_model.specs.declared.members.Member.TheVariants.{RowLo}
use Rattle.lp_model.specs.Members.{has}
use Rattle.lp_model.specs.MemberSets.{SetValue, IsMemberFor, possible_in, set_with}
use Rattle.certs.proofs.Possible.{all_possible}
use Rattle.report_text.proofs.Ordered.{listed_more, listed_none}
use Rattle.report_text.proofs.listed.MemberList.unpacked.Goals as goal

pub loop-member-init : goal.loop-member-init
loop-member-init c =
    let s = c.args.self.now in
    c.in_ok-set.ensures
    ∙ ap (λ (n : ℕ). record { rows = n; columns = length c.args.model.now.columns; members = [] }) (sym c.requires.rows)
    ∙ ap (λ (n : ℕ). record { rows = s.rows; columns = n; members = [] }) (sym c.requires.columns)
    ∙ ap (λ (l : List Member). record s { members = l }) (sym (listed_none s.rows s.columns))

pub insert-requires : goal.insert-requires
insert-requires c =
    let s = c.args.self.now in
    let i = c.loop-member.member-index in
    let possible = subst (λ (z : SetValue). z.members ≡ filter (has z.members) (possible_in z)) c.self.view_is c.self.invariant in
    let items : c.deref-member-items.result.now ≡ s.members = c.deref-member-items.ensures.value ∙ ap (λ (z : SetValue). z.members) c.self.view_is in
    let m = get_or c.deref-member-items.result.now i (RowLo 0) in
    let here : IsMemberFor s.rows s.columns m = subst (λ (l : List Member). (i < length l) → IsMemberFor s.rows s.columns (get_or l i (RowLo 0))) (sym items) (all_possible s possible i (RowLo 0)) c.loop-member-test.true in
    subst (λ (z : SetValue). IsMemberFor z.rows z.columns m) (sym c.loop-member.invariant) here

pub loop-member-preserved : goal.loop-member-preserved
loop-member-preserved c =
    let s = c.args.self.now in
    let i = c.loop-member.member-index in
    let items : c.deref-member-items.result.now ≡ s.members = c.deref-member-items.ensures.value ∙ ap (λ (z : SetValue). z.members) c.self.view_is in
    let m = get_or c.deref-member-items.result.now i (RowLo 0) in
    c.insert.ensures
    ∙ ap (λ (z : SetValue). set_with z m) c.loop-member.invariant
    ∙ ap (λ (l : List Member). set_with (record s { members = filter (has (take i s.members)) (possible_in s) }) (get_or l i (RowLo 0))) items
    ∙ ap (λ (l : List Member). record s { members = l }) (listed_more s.rows s.columns s.members i (RowLo 0) (subst (λ (l : List Member). i < length l) items c.loop-member-test.true))
