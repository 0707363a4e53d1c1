use Rattle.std.proofs.Common.{sym, subst, All, ◌∙◌}
use Rattle.std.proofs.lemmas.List.Elements.{All-nil, All-cons}
use Rattle.lp_model.specs.Satisfaction.{values_at}
use Rattle.cert_check.specs.Sparse.{Passes}
use Rattle.cert_check.proofs.sparse.hold.Goals as goal

pub loop-member-init : goal.loop-member-init
loop-member-init c h = subst (All (Passes c.args.model.now (values_at c.args.values.now))) (c.into_iter-member-iterator.ensures.into_iter_gives ∙ c.iter-member-items.ensures) h

pub loop-member-preserved : goal.loop-member-preserved
loop-member-preserved c h =
    let P = Passes c.args.model.now (values_at c.args.values.now) in
    c.loop-member.invariant (subst (All P) (sym c.in-Some.ensures.steps) (All-cons P c.in-Some.member c.next.new.self (c.holds.ensures c.if-not-holds.false) h))

pub returns : goal.returns
returns c e =
    let P = Passes c.args.model.now (values_at c.args.values.now) in
    c.loop-member.invariant (subst (All P) (sym c.in-None.ensures.steps.0) (All-nil P))
