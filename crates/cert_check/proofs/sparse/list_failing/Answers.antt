use Rattle.std.proofs.Common.{◌∙◌, sym, ap, subst, true≢false, All, length, List, replicate, inl, inr}
use Rattle.std.proofs.lemmas.List.Elements.{All-head, All-tail}
use Rattle.rational.specs.Rational.{ℚ, zero_ℚ}
use Rattle.lp_model.specs.Satisfaction.{values_at}
use Rattle.lp_model.specs.declared.members.Member.{Member}
use Rattle.lp_model.specs.Members.{has}
use Rattle.lp_model.specs.MemberSets.{SetValue, IsMemberFor, IsPossibleIn}
use Rattle.certs.specs.Checks.{IsSetOf}
use Rattle.certs.proofs.Possible.{all_possible}
use Rattle.cert_check.specs.Sparse.{Passes}
use Rattle.cert_check.proofs.Reached.{gone}
use Rattle.cert_check.proofs.sparse.list_failing.Goals as goal

pub loop-member-init : goal.loop-member-init
loop-member-init c =
    let set = c.args.set.now in
    record {
      same = subst (IsSetOf c.args.model.now) (sym c.in_ok-failing.ensures) c.requires.same;
      possible = subst (All (IsPossibleIn set)) (sym (c.into_iter-member-iterator.ensures.into_iter_gives ∙ c.iter-member-items.ensures)) (all_possible set c.stands_in_order.ensures.possible);
      failing = λ m h none. absurd (true≢false (sym h ∙ sym (ap (λ (s : SetValue). has s.members m) c.in_ok-failing.ensures) ∙ none));
    }

pub remove-requires : goal.remove-requires
remove-requires c =
    let set = c.args.set.now in
    let m = c.in-Some.member in
    let here = All-head (IsPossibleIn set) m c.next.new.self (subst (All (IsPossibleIn set)) c.in-Some.ensures.steps c.loop-member.invariant.possible) in
    let i = c.loop-member.invariant.same in
    subst (λ n. IsMemberFor n c.loop-member.failing.columns m) (c.requires.same.rows ∙ sym i.rows)
    (subst (λ n. IsMemberFor set.rows n m) (c.requires.same.columns ∙ sym i.columns) here)

pub loop-member-preserved-then-holds : goal.loop-member-preserved-then-holds
loop-member-preserved-then-holds c =
    let set = c.args.set.now in
    let model = c.args.model.now in
    let left = c.loop-member.failing in
    let m = c.in-Some.member in
    let i = c.loop-member.invariant in
    let P : Member → Type 0 = Passes model (values_at (replicate (length model.columns) zero_ℚ)) in
    record {
      same = subst (IsSetOf model) (sym c.remove.ensures) (record { rows = i.same.rows; columns = i.same.columns });
      possible = All-tail (IsPossibleIn set) m c.next.new.self (subst (All (IsPossibleIn set)) c.in-Some.ensures.steps i.possible);
      failing = λ n h none. elim (gone left m n (sym (ap (λ (s : SetValue). has s.members n) c.remove.ensures) ∙ none)) [
        | inl e ↦ subst P (sym e) (subst (λ (z : List ℚ). Passes model (values_at z) m) c.requires.room.zeros (c.holds.ensures c.if-holds.true))
        | inr before ↦ i.failing n h before
      ];
    }

pub loop-member-preserved : goal.loop-member-preserved
loop-member-preserved c =
    let set = c.args.set.now in
    let i = c.loop-member.invariant in
    record {
      same = i.same;
      possible = All-tail (IsPossibleIn set) c.in-Some.member c.next.new.self (subst (All (IsPossibleIn set)) c.in-Some.ensures.steps i.possible);
      failing = i.failing;
    }
