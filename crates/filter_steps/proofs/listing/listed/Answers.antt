use Rattle.std.proofs.Common.{sym, ◌∙◌, ap, List, [], ◌∷◌, ◌++◌, append_assoc, append-nil}
use Rattle.lp_model.specs.declared.members.Member.{Member}
use Rattle.filter_steps.proofs.listing.listed.Goals as goal

pub loop-member-init : goal.loop-member-init
loop-member-init c =
    ap (λ (l : List Member). l ++ c.into_iter-member-iterator.result) c.new-list.ensures.items ∙ (c.into_iter-member-iterator.ensures.into_iter_gives ∙ c.iter-member-items.ensures)

pub loop-member-preserved : goal.loop-member-preserved
loop-member-preserved c =
    let rest = c.next.new.self in
    let list = c.loop-member.list.items in
    ap (λ (l : List Member). l ++ rest) c.in_ok-push.ensures.items
    ∙ (append_assoc list (c.in-Some.member ∷ []) rest ∙ (ap (λ (l : List Member). list ++ l) (sym c.in-Some.ensures.steps) ∙ c.loop-member.invariant))

pub returns : goal.returns
returns c =
    let list = c.loop-member.list.items in
    sym (append-nil list) ∙ (ap (λ (l : List Member). list ++ l) (sym c.in-None.ensures.steps.0) ∙ c.loop-member.invariant)
