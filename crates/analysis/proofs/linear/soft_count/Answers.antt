use Rattle.std.proofs.Common.{◌≡◌, ◌+◌, ◌<◌, ◌≤◌, sym, ◌∙◌, ap, subst, List, [], length, arith}
use Rattle.std.specs.Prelude.{All}
use Rattle.std.proofs.lemmas.List.Elements.{All-head, All-tail}
use Rattle.lp_model.specs.declared.members.Member.{Member}
use Rattle.lp_model.specs.MemberSets.{IsPossibleIn}
use Rattle.certs.specs.Elastic.{soft_members}
use Rattle.analysis.proofs.Sizes.{counted_more, counted_same, possible_too, soft_few}
use Rattle.analysis.proofs.linear.soft_count.Goals as goal

pub loop-member-init : goal.loop-member-init
loop-member-init c =
    let set = c.args.set.now in
    let enforced = c.args.enforced.now in
    let same = c.into_iter-member-iterator.ensures.into_iter_gives ∙ c.iter-member-items.ensures in
    record {
      counted =
          let all : length (soft_members c.into_iter-member-iterator.result enforced.members) ≡ length (soft_members set.members enforced.members) = ap (λ (l : List Member). length (soft_members l enforced.members)) same in
          omega (arith, all);
      known = subst (All (IsPossibleIn enforced)) (sym same) (possible_too set enforced c.requires.same c.stands_in_order.ensures.possible);
    }

pub contains-requires : goal.contains-requires
contains-requires c =
    let enforced = c.args.enforced.now in
    All-head (IsPossibleIn enforced) c.in-Some.member c.next.new.self (subst (All (IsPossibleIn enforced)) c.in-Some.ensures.steps c.loop-member.invariant.known)

pub overflow_add-count : goal.overflow_add-count
overflow_add-count c =
    let set = c.args.set.now.members in
    let enforced = c.args.enforced.now.members in
    let rest = c.next.new.self in
    let count = c.loop-member.count in
    let more : (count + 1) + length (soft_members rest enforced) ≡ length (soft_members set enforced) =
    counted_more enforced c.in-Some.member rest count (length (soft_members set enforced)) (sym c.contains.ensures ∙ c.if-not-contains.true)
    (ap (λ (l : List Member). count + length (soft_members l enforced)) (sym c.in-Some.ensures.steps) ∙ c.loop-member.invariant.counted) in
    let few : length (soft_members set enforced) ≤ length set = soft_few set enforced in
    let most : length set < 18446744073709551616 = c.requires.few in
    omega (arith, more, few, most)

pub loop-member-preserved-then-not-contains : goal.loop-member-preserved-then-not-contains
loop-member-preserved-then-not-contains c =
    let set = c.args.set.now.members in
    let enforced = c.args.enforced.now in
    let m = c.in-Some.member in
    let rest = c.next.new.self in
    let count = c.loop-member.count in
    let steps = c.in-Some.ensures.steps in
    record {
      counted =
          counted_more enforced.members m rest count (length (soft_members set enforced.members)) (sym c.contains.ensures ∙ c.if-not-contains.true)
          (ap (λ (l : List Member). count + length (soft_members l enforced.members)) (sym steps) ∙ c.loop-member.invariant.counted);
      known = All-tail (IsPossibleIn enforced) m rest (subst (All (IsPossibleIn enforced)) steps c.loop-member.invariant.known);
    }

pub loop-member-preserved : goal.loop-member-preserved
loop-member-preserved c =
    let set = c.args.set.now.members in
    let enforced = c.args.enforced.now in
    let m = c.in-Some.member in
    let rest = c.next.new.self in
    let count = c.loop-member.count in
    let steps = c.in-Some.ensures.steps in
    record {
      counted =
          counted_same enforced.members m rest count (length (soft_members set enforced.members)) (sym c.contains.ensures ∙ c.if-not-contains.false)
          (ap (λ (l : List Member). count + length (soft_members l enforced.members)) (sym steps) ∙ c.loop-member.invariant.counted);
      known = All-tail (IsPossibleIn enforced) m rest (subst (All (IsPossibleIn enforced)) steps c.loop-member.invariant.known);
    }

pub returns : goal.returns
returns c =
    let set = c.args.set.now.members in
    let enforced = c.args.enforced.now.members in
    let count = c.loop-member.count in
    let last : count + length (soft_members [] enforced) ≡ length (soft_members set enforced) =
    ap (λ (l : List Member). count + length (soft_members l enforced)) (sym c.in-None.ensures.steps.0) ∙ c.loop-member.invariant.counted in
    omega (arith, last)
