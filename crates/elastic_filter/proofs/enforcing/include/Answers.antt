use Rattle.std.proofs.Common.{refl, sym, ◌∙◌, subst, List}
use Rattle.std.specs.Prelude.{All, Contains}
use Rattle.std.proofs.lemmas.List.Elements.{All-head, All-tail}
use Rattle.lp_model.specs.declared.members.Member.{Member}
use Rattle.lp_model.specs.MemberSets.{IsPossibleIn}
use Rattle.lp_model.proofs.Sets.{has_of_contains}
use Rattle.certs.specs.Named.{IsOfSize}
use Rattle.elastic_filter.proofs.Included.{HasGrown, grown_at_first, grown_at_last, grown_by}
use Rattle.elastic_filter.proofs.enforcing.include.Goals as goal

pub loop-member-init : goal.loop-member-init
loop-member-init c =
    let start = c.args.enforced.now in
    let further = c.args.further.now.members in
    let given = sym (c.into_iter-member-iterator.ensures.into_iter_gives ∙ c.iter-member-items.ensures) in
    record {
      same = record { rows = refl; columns = refl };
      known = subst (All (IsPossibleIn start)) given c.requires;
      grown = λ set h. (subst (All (Contains set)) given h.inside, subst (λ (l : List Member). HasGrown start set further l start) given (grown_at_first start set further h));
    }

pub insert-requires : goal.insert-requires
insert-requires c =
    let same = c.loop-member.invariant.same in
    let first = All-head (IsPossibleIn c.args.enforced.now) c.in-Some.member c.next.new.self (subst (All (IsPossibleIn c.args.enforced.now)) c.in-Some.ensures.steps c.loop-member.invariant.known) in
    rw (same.rows, same.columns) first

pub loop-member-preserved : goal.loop-member-preserved
loop-member-preserved c =
    let start = c.args.enforced.now in
    let further = c.args.further.now.members in
    let m = c.in-Some.member in
    let rest = c.next.new.self in
    let steps = c.in-Some.ensures.steps in
    record {
      same = subst (IsOfSize start) (sym c.insert.ensures) (record { rows = c.loop-member.invariant.same.rows; columns = c.loop-member.invariant.same.columns });
      known = All-tail (IsPossibleIn start) m rest (subst (All (IsPossibleIn start)) steps c.loop-member.invariant.known);
      grown = λ set h. (
          let g = c.loop-member.invariant.grown set h in
          let inside = subst (All (Contains set)) steps g.0 in (
            All-tail (Contains set) m rest inside,
            subst (HasGrown start set further rest) (sym c.insert.ensures)
                (grown_by start set further h m rest c.loop-member.enforced (has_of_contains set m (All-head (Contains set) m rest inside)) (subst (λ (l : List Member). HasGrown start set further l c.loop-member.enforced) steps g.1)),
          ));
    }

pub returns-clause-members : goal.returns-clause-members
returns-clause-members c set h =
    let start = c.args.enforced.now in
    let further = c.args.further.now.members in
    grown_at_last start set further h c.loop-member.enforced
    (subst (λ (l : List Member). HasGrown start set further l c.loop-member.enforced) c.in-None.ensures.steps.0 (c.loop-member.invariant.grown set h).1)
