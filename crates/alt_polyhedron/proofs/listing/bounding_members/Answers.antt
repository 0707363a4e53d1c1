use Rattle.std.proofs.Common.{◌≡◌, ◌++◌, ◌≤◌, sym, ◌∙◌, ap, subst, List, ◌∷◌, append-nil, is_some, length, arith}
use Rattle.std.specs.Prelude.{All}
use Rattle.std.proofs.lemmas.List.Elements.{All-filter, All-tail}
use Rattle.lp_model.specs.declared.members.Member.{Member}
use Rattle.lp_model.specs.Members.{number}
use Rattle.lp_model.specs.Shown.{most_columns, most_rows}
use Rattle.certs.specs.System.{bounding}
use Rattle.certs.proofs.Possible.{members_for_model}
use Rattle.relaxation.specs.Origins.{IsMemberIn}
use Rattle.relaxation.proofs.Few.{members_few}
use Rattle.relaxation.proofs.Joined.{kept_few}
use Rattle.alt_polyhedron.proofs.Lists.{passed_more, passed_same}
use Rattle.alt_polyhedron.proofs.listing.bounding_members.Goals as goal

pub loop-member-init : goal.loop-member-init
loop-member-init c =
    let model = c.args.model.now in
    let set = c.args.set.now in
    let same : c.into_iter-member-iterator.result ≡ set.members = c.into_iter-member-iterator.ensures.into_iter_gives ∙ c.iter-member-items.ensures in
    record {
      listed = ap (λ (l : List Member). l ++ bounding model c.into_iter-member-iterator.result) c.new-list.ensures.items ∙ ap (bounding model) same;
      known = subst (All (IsMemberIn model)) (sym same) (members_for_model model set c.requires c.stands_in_order.ensures.possible);
    }

pub loop-member-preserved-in-Continue-1 : goal.loop-member-preserved-in-Continue-1
loop-member-preserved-in-Continue-1 c =
    let model = c.args.model.now in
    let rest = c.next.new.self in
    let m = c.in-Some.member in
    let list = c.loop-member.list.items in
    let steps : c.loop-member.member-iterator ≡ m ∷ rest = c.in-Some.ensures.steps in
    record {
      listed = ap (λ (l : List Member). l ++ bounding model rest) c.in_ok-push.ensures.items
          ∙ passed_more (λ m. is_some (number model m)) m list rest (bounding model c.args.set.now.members) (ap is_some (sym c.member_number.ensures) ∙ sym c.is_some.ensures ∙ c.if-is_some.true)
          (ap (λ l. list ++ bounding model l) (sym steps) ∙ c.loop-member.invariant.listed);
      known = All-tail (IsMemberIn model) m rest (subst (All (IsMemberIn model)) steps c.loop-member.invariant.known);
    }

pub loop-member-preserved : goal.loop-member-preserved
loop-member-preserved c =
    let model = c.args.model.now in
    let rest = c.next.new.self in
    let m = c.in-Some.member in
    let list = c.loop-member.list.items in
    let steps : c.loop-member.member-iterator ≡ m ∷ rest = c.in-Some.ensures.steps in
    record {
      listed = passed_same (λ m. is_some (number model m)) m list rest (bounding model c.args.set.now.members) (ap is_some (sym c.member_number.ensures) ∙ sym c.is_some.ensures ∙ c.if-is_some.false)
          (ap (λ l. list ++ bounding model l) (sym steps) ∙ c.loop-member.invariant.listed);
      known = All-tail (IsMemberIn model) m rest (subst (All (IsMemberIn model)) steps c.loop-member.invariant.known);
    }

pub returns-clause-known : goal.returns-clause-known
returns-clause-known c =
    let model = c.args.model.now in
    let set = c.args.set.now in
    let list = c.loop-member.list.items in
    let all : list ≡ bounding model set.members = sym (append-nil list) ∙ ap (λ l. list ++ bounding model l) (sym c.in-None.ensures.steps.0) ∙ c.loop-member.invariant.listed in
    subst (All (IsMemberIn model)) (sym all) (All-filter (λ m. is_some (number model m)) (IsMemberIn model) set.members (members_for_model model set c.requires c.stands_in_order.ensures.possible))

pub returns-clause-few : goal.returns-clause-few
returns-clause-few c =
    let model = c.args.model.now in
    let set = c.args.set.now in
    let list = c.loop-member.list.items in
    let all : list ≡ bounding model set.members = sym (append-nil list) ∙ ap (λ l. list ++ bounding model l) (sym c.in-None.ensures.steps.0) ∙ c.loop-member.invariant.listed in
    let rows = c.row_count-rows.ensures in
    let columns = c.column_count-columns.ensures in
    let few = members_few model set c.requires c.stands_in_order.ensures.possible c.stands_in_order.ensures.in_order (subst (λ k. k ≤ most_rows) rows.count rows.few) (subst (λ k. k ≤ most_columns) columns.count columns.few) in
    let kept = kept_few (λ m. is_some (number model m)) set.members in
    let count = ap length all in
    omega (arith, few, kept, count)
