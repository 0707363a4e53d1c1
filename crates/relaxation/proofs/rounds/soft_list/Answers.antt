use Rattle.std.proofs.Common.{◌≡◌, ◌++◌, sym, ◌∙◌, ap, subst, List, ◌∷◌}
use Rattle.std.specs.Prelude.{All}
use Rattle.std.proofs.lemmas.List.Elements.{All-tail}
use Rattle.lp_model.specs.declared.members.Member.{Member}
use Rattle.lp_model.specs.MemberSets.{IsPossibleIn}
use Rattle.certs.specs.Elastic.{soft_members}
use Rattle.certs.proofs.Possible.{all_possible}
use Rattle.relaxation.proofs.Found.{listed_more, listed_same, possible_too}
use Rattle.relaxation.proofs.rounds.soft_list.Goals as goal

pub loop-member-init : goal.loop-member-init
loop-member-init c =
    let set = c.args.set.now in
    let enforced = c.args.enforced.now in
    let same : c.into_iter-member-iterator.result ≡ set.members = c.into_iter-member-iterator.ensures.into_iter_gives ∙ c.iter-member-items.ensures in
    record {
      listed = ap (λ (l : List Member). l ++ soft_members c.into_iter-member-iterator.result enforced.members) c.new-list.ensures.items ∙ ap (λ l. soft_members l enforced.members) same;
      known = subst (All (IsPossibleIn enforced)) (sym same) (possible_too set enforced c.requires (all_possible set c.stands_in_order.ensures.possible));
    }

pub loop-member-preserved-in-Continue-1 : goal.loop-member-preserved-in-Continue-1
loop-member-preserved-in-Continue-1 c =
    let set = c.args.set.now in
    let enforced = c.args.enforced.now in
    let rest = c.next.new.self in
    let m = c.in-Some.member in
    let list = c.loop-member.list.items in
    let steps : c.loop-member.member-iterator ≡ m ∷ rest = c.in-Some.ensures.steps in
    record {
      listed = ap (λ (l : List Member). l ++ soft_members rest enforced.members) c.in_ok-push.ensures.items
          ∙ listed_more enforced.members m list rest (soft_members set.members enforced.members) (sym c.contains.ensures ∙ c.if-not-contains.true)
          (ap (λ l. list ++ soft_members l enforced.members) (sym steps) ∙ c.loop-member.invariant.listed);
      known = All-tail (IsPossibleIn enforced) m rest (subst (All (IsPossibleIn enforced)) steps c.loop-member.invariant.known);
    }

pub loop-member-preserved : goal.loop-member-preserved
loop-member-preserved c =
    let set = c.args.set.now in
    let enforced = c.args.enforced.now in
    let rest = c.next.new.self in
    let m = c.in-Some.member in
    let list = c.loop-member.list.items in
    let steps : c.loop-member.member-iterator ≡ m ∷ rest = c.in-Some.ensures.steps in
    record {
      listed = listed_same enforced.members m list rest (soft_members set.members enforced.members) (sym c.contains.ensures ∙ c.if-not-contains.false)
          (ap (λ l. list ++ soft_members l enforced.members) (sym steps) ∙ c.loop-member.invariant.listed);
      known = All-tail (IsPossibleIn enforced) m rest (subst (All (IsPossibleIn enforced)) steps c.loop-member.invariant.known);
    }
