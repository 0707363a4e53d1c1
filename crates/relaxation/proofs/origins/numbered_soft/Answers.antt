use Rattle.std.proofs.Common.{◌≤◌, ◌≡◌, sym, ◌∙◌, ap, subst, not, length, arith}
use Rattle.std.specs.Prelude.{All}
use Rattle.std.proofs.lemmas.List.Elements.{All-filter, All-tail}
use Rattle.lp_model.specs.MemberSets.{IsMemberFor}
use Rattle.lp_model.specs.Members.{has}
use Rattle.lp_model.specs.Shown.{most_columns, most_rows}
use Rattle.certs.specs.Elastic.{soft_members}
use Rattle.certs.proofs.Possible.{members_for_model}
use Rattle.relaxation.proofs.Few.{members_few}
use Rattle.relaxation.proofs.Soft.{all_numbered, next_passes, next_stays, none_numbered, numbered, numbered_all, one_fits}
use Rattle.relaxation.proofs.origins.numbered_soft.Goals as goal

pub loop-member-init : goal.loop-member-init
loop-member-init c =
    let model = c.args.model.now in
    let set = c.args.set.now in
    let start = c.into_iter-member-iterator.ensures.into_iter_gives ∙ c.iter-member-items.ensures in
    record {
      numbered = none_numbered _ _ _ _ _ c.new-soft.ensures.items start;
      known = subst (All (IsMemberFor (length model.rows) (length model.columns))) (sym start) (members_for_model model set c.requires.same c.stands_in_order.ensures.possible);
    }

pub overflow_cast-len : goal.overflow_cast-len
overflow_cast-len c =
    let rows = c.row_count-rows.ensures in
    let columns = c.column_count-first.ensures in
    let few = members_few c.args.model.now c.args.set.now c.requires.same c.stands_in_order.ensures.possible c.stands_in_order.ensures.in_order (subst (λ k. k ≤ most_rows) rows.count rows.few) (subst (λ k. k ≤ most_columns) columns.count columns.few) in
    let fits = one_fits _ _ _ _ c.in-Some.member _ c.next.new.self c.in-Some.ensures.steps c.loop-member.invariant.numbered in
    omega (arith, few, fits, c.len.ensures, columns.few)

pub overflow_add-first : goal.overflow_add-first
overflow_add-first c =
    let rows = c.row_count-rows.ensures in
    let columns = c.column_count-first.ensures in
    let few = members_few c.args.model.now c.args.set.now c.requires.same c.stands_in_order.ensures.possible c.stands_in_order.ensures.in_order (subst (λ k. k ≤ most_rows) rows.count rows.few) (subst (λ k. k ≤ most_columns) columns.count columns.few) in
    let fits = one_fits _ _ _ _ c.in-Some.member _ c.next.new.self c.in-Some.ensures.steps c.loop-member.invariant.numbered in
    omega (arith, few, fits, c.len.ensures, columns.few)

pub loop-member-preserved-in-Continue-1 : goal.loop-member-preserved-in-Continue-1
loop-member-preserved-in-Continue-1 c =
    let model = c.args.model.now in
    record {
      numbered = next_passes _ _ _ _ c.in-Some.member _ c.next.new.self c.in-Some.ensures.steps c.loop-member.invariant.numbered c.len.result c.push.new.self.items
          (ap not (sym c.contains.ensures ∙ c.if-not-contains.true)) (let size : c.len.result ≡ length c.loop-member.soft.items = omega (arith, c.len.ensures) in size) c.in_ok-push.ensures.items;
      known = All-tail (IsMemberFor (length model.rows) (length model.columns)) c.in-Some.member c.next.new.self
          (subst (All (IsMemberFor (length model.rows) (length model.columns))) c.in-Some.ensures.steps c.loop-member.invariant.known);
    }

pub loop-member-preserved : goal.loop-member-preserved
loop-member-preserved c =
    let model = c.args.model.now in
    record {
      numbered = next_stays _ _ _ _ c.in-Some.member _ c.next.new.self c.in-Some.ensures.steps c.loop-member.invariant.numbered
          (ap not (sym c.contains.ensures ∙ c.if-not-contains.false));
      known = All-tail (IsMemberFor (length model.rows) (length model.columns)) c.in-Some.member c.next.new.self
          (subst (All (IsMemberFor (length model.rows) (length model.columns))) c.in-Some.ensures.steps c.loop-member.invariant.known);
    }

pub returns-clause-soft : goal.returns-clause-soft
unfolding numbered
returns-clause-soft c =
    all_numbered _ _ _ _ _ c.in-None.ensures.steps.0 c.loop-member.invariant.numbered
    ∙ ap (λ k. numbered k (soft_members c.args.set.now.members c.args.enforced.now.members)) c.column_count-first.ensures.count

pub returns-clause-known : goal.returns-clause-known
unfolding numbered
returns-clause-known c =
    let model = c.args.model.now in
    let set = c.args.set.now in
    let known = members_for_model model set c.requires.same c.stands_in_order.ensures.possible in
    subst (All (λ e. IsMemberFor (length model.rows) (length model.columns) e.1)) (sym (all_numbered _ _ _ _ _ c.in-None.ensures.steps.0 c.loop-member.invariant.numbered))
    (numbered_all (IsMemberFor (length model.rows) (length model.columns)) _ (soft_members set.members c.args.enforced.now.members)
    (All-filter (λ m. not (has c.args.enforced.now.members m)) (IsMemberFor (length model.rows) (length model.columns)) set.members known))
