use Rattle.std.proofs.Common.{◌∙◌, sym, subst, refl, get_or, length}
use Rattle.std.specs.Prelude.{All}
use Rattle.std.proofs.lemmas.List.Elements.{All-head, All-tail, Contains-get_or}
use Rattle.lp_model.specs.declared.members.Member.{Member}
use Rattle.lp_model.specs.Members.{possible_members}
use Rattle.lp_model.specs.MemberSets.{IsMemberFor}
use Rattle.lp_model.proofs.Marked.{possible_is}
use Rattle.certs.specs.Checks.{IsSetOf}
use Rattle.unit_tests.proofs.sets.members_of.Goals as goal
use Rattle.unit_tests.proofs.sets.members_of.Goals.{then-is_in, else-is_in}

pub loop-member-init : goal.loop-member-init
loop-member-init c =
    let model = c.args.model.now in
    let all = possible_members model in
    record {
      same = subst (IsSetOf model) (sym c.in_ok-set.ensures) (record { rows = refl; columns = refl });
      known = subst (All (IsMemberFor (length model.rows) (length model.columns))) (sym (c.into_iter-member-iterator.ensures.into_iter_gives ∙ c.possible_members-member-items.ensures))
          (λ k d l. possible_is (length model.rows) (length model.columns) (get_or all k d) (Contains-get_or all k d l));
    }

pub insert-requires : goal.insert-requires
insert-requires c =
    let model = c.args.model.now in
    let known = IsMemberFor (length model.rows) (length model.columns) in
    let same = c.loop-member.invariant.same in
    rw (same.rows, same.columns) (All-head known c.in-Some.member c.next.new.self (subst (All known) c.in-Some.ensures.steps c.loop-member.invariant.known))

pub loop-member-preserved : goal.loop-member-preserved
loop-member-preserved c =
    let model = c.args.model.now in
    let known = IsMemberFor (length model.rows) (length model.columns) in
    let before = c.loop-member.invariant in
    let same : IsSetOf model c.if-is_in.set =
    elim c.if-is_in.branch [
      | then-is_in w ↦ subst (IsSetOf model) (sym (w.set-is ∙ w.insert.ensures)) (record { rows = before.same.rows; columns = before.same.columns })
      | else-is_in w ↦ subst (IsSetOf model) (sym w.set-is) before.same
    ] in
    record {
      same = same;
      known = All-tail known c.in-Some.member c.next.new.self (subst (All known) c.in-Some.ensures.steps before.known);
    }
