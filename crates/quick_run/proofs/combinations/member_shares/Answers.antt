use Rattle.std.proofs.Common.{refl, sym, ◌∙◌, subst, List}
use Rattle.lp_model.specs.declared.members.Member.{Member}
use Rattle.certs.specs.declared.evidence.Share.{Share}
use Rattle.certs.specs.declared.evidence.Source.TheVariants.{Member as Of}
use Rattle.quick_run.proofs.Building.{IsBuilding, begins, skips, takes}
use Rattle.quick_run.proofs.combinations.member_shares.Goals as goal

pub loop-member-init : goal.loop-member-init
loop-member-init c =
    let set = c.args.set.now.members in
    subst (λ (l : List Member). IsBuilding set c.new-shares.result.items l) (sym (c.into_iter-member-iterator.ensures.into_iter_gives ∙ c.iter-member-items.ensures))
    (subst (λ (l : List Share). IsBuilding set l set) (sym c.new-shares.ensures.items) (begins set c.stands_in_order.ensures.in_order))

pub loop-member-preserved : goal.loop-member-preserved
loop-member-preserved c =
    let set = c.args.set.now.members in
    skips set c.loop-member.shares.items c.in-Some.member c.next.new.self
    (subst (λ (l : List Member). IsBuilding set c.loop-member.shares.items l) c.in-Some.ensures.steps c.loop-member.invariant)

pub loop-member-preserved-in-Continue-1 : goal.loop-member-preserved-in-Continue-1
loop-member-preserved-in-Continue-1 c =
    let set = c.args.set.now.members in
    let shares = c.loop-member.shares.items in
    let share : Share = record { source = Of c.in-Some.member; weight = c.in-Some-weight_of.weight } in
    subst (λ (l : List Share). IsBuilding set l c.next.new.self) (sym c.in_ok-push.ensures.items)
    (takes set shares c.in-Some.member c.next.new.self share refl c.in-Some-weight_of.ensures
    (subst (λ (l : List Member). IsBuilding set shares l) c.in-Some.ensures.steps c.loop-member.invariant))
