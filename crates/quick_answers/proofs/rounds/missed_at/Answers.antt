use Rattle.std.proofs.Common.{◌≡◌, refl, sym, ◌∙◌, ap, subst, not, ◌&&◌, List, ◌∷◌, length}
use Rattle.std.specs.Prelude.{All, Contains}
use Rattle.std.proofs.lemmas.List.Elements.{All-head, All-tail, All-contains_itself}
use Rattle.rational.specs.Rational.{ℚ, ◌+ℚ◌, zero_ℚ, lt_q}
use Rattle.rational.proofs.Field.{add-assoc_ℚ, add-zero_ℚ}
use Rattle.rational.proofs.Sums.{nothing_first}
use Rattle.lp_model.specs.declared.members.Member.{Member}
use Rattle.lp_model.specs.Members.{has}
use Rattle.lp_model.specs.Program.{Program}
use Rattle.rational.specs.Linear.{Assignment}
use Rattle.lp_model.specs.MemberSets.{IsMemberFor, IsPossibleIn, SetValue}
use Rattle.lp_model.specs.Satisfaction.{values_at}
use Rattle.lp_model.proofs.Sets.{has_of_contains}
use Rattle.certs.specs.Checks.{IsSetOf}
use Rattle.certs.specs.Named.{IsOfSize}
use Rattle.certs.specs.Violation.{total_violation, violation}
use Rattle.certs.proofs.Possible.{members_for_model}
use Rattle.least_checks.proofs.Passing.{HasPassing, passing_at_first, passing_with, passing_without, passing_at_last}
use Rattle.quick_answers.specs.declared.rounds.Missed.{Missed}
use Rattle.quick_answers.specs.Stretching.{IsMissedAt, is_further}
use Rattle.quick_answers.proofs.rounds.missed_at.Goals as goal

-- a member of the program's may be in a set of its size
may_be : (model : Program) (set : SetValue) (m : Member) → IsSetOf model set → IsMemberFor (length model.rows) (length model.columns) m → IsPossibleIn set m
may_be model set m same known = subst (λ n. IsMemberFor n set.columns m) (sym same.rows) (subst (λ n. IsMemberFor (length model.rows) n m) (sym same.columns) known)

-- the total with one member more
total_next : (model : Program) (x : Assignment) (total sum missed all : ℚ) (m : Member) (rest list : List Member) → list ≡ m ∷ rest → missed ≡ violation model x m → sum ≡ total +ℚ missed
    → total +ℚ total_violation model list x ≡ all → sum +ℚ total_violation model rest x ≡ all
total_next model x total sum missed all m rest list steps is sum_is h =
    ap (λ (z : ℚ). z +ℚ total_violation model rest x) (sum_is ∙ ap (λ (z : ℚ). total +ℚ z) is)
    ∙ add-assoc_ℚ total (violation model x m) (total_violation model rest x)
    ∙ sym (ap (λ (l : List Member). total +ℚ total_violation model l x) steps)
    ∙ h

pub loop-member-init : goal.loop-member-init
loop-member-init c =
    let model = c.args.model.now in
    let set = c.args.set.now in
    let x = values_at c.as_slice-values.result.now in
    let passes = is_further model c.args.enforced.now.members x in
    let given = c.into_iter-member-iterator.ensures.into_iter_gives ∙ c.iter-member-items.ensures in
    record {
      known = subst (All (IsMemberFor (length model.rows) (length model.columns))) (sym given) (members_for_model model set c.requires.same c.stands_in_order.ensures.possible);
      inside = subst (All (Contains set.members)) (sym given) (All-contains_itself set.members);
      size = subst (IsOfSize set) (sym c.in-Ok.ensures) (record { rows = refl; columns = refl });
      total = ap (λ (z : ℚ). z +ℚ total_violation model c.into_iter-member-iterator.result x) c.whole-total.ensures ∙ nothing_first _ ∙ ap (λ (l : List Member). total_violation model l x) given;
      there = subst (λ (l : List Member). HasPassing passes set l c.in-Ok.further) (sym given) (passing_at_first passes set c.in-Ok.further c.in-Ok.ensures);
    }

pub member_violation-requires-clause-member : goal.member_violation-requires-clause-member
member_violation-requires-clause-member c =
    let For = IsMemberFor (length c.args.model.now.rows) (length c.args.model.now.columns) in
    All-head For c.in-Some.member c.next.new.self (subst (All For) c.in-Some.ensures.steps c.loop-member.invariant.known)

pub is_further-requires : goal.is_further-requires
is_further-requires c =
    let model = c.args.model.now in
    let For = IsMemberFor (length model.rows) (length model.columns) in
    may_be model c.args.enforced.now c.in-Some.member c.requires.enforced (All-head For c.in-Some.member c.next.new.self (subst (All For) c.in-Some.ensures.steps c.loop-member.invariant.known))

pub insert-requires : goal.insert-requires
insert-requires c =
    let model = c.args.model.now in
    let For = IsMemberFor (length model.rows) (length model.columns) in
    let size = c.loop-member.invariant.size in
    let same : IsSetOf model c.loop-member.further = record { rows = size.rows ∙ c.requires.same.rows; columns = size.columns ∙ c.requires.same.columns } in
    may_be model c.loop-member.further c.in-Some.member same (All-head For c.in-Some.member c.next.new.self (subst (All For) c.in-Some.ensures.steps c.loop-member.invariant.known))

pub loop-member-preserved-then-is_further : goal.loop-member-preserved-then-is_further
loop-member-preserved-then-is_further c =
    let model = c.args.model.now in
    let set = c.args.set.now in
    let enforced = c.args.enforced.now.members in
    let x = values_at c.as_slice-values.result.now in
    let passes = is_further model enforced x in
    let m = c.in-Some.member in
    let rest = c.next.new.self in
    let steps = c.in-Some.ensures.steps in
    let v = c.loop-member.invariant in
    let missed = c.in-Ok-member_violation.ensures in
    let For = IsMemberFor (length model.rows) (length model.columns) in
    let inside = subst (All (Contains set.members)) steps v.inside in
    let there = subst (λ (l : List Member). HasPassing passes set l c.loop-member.further) steps v.there in
    let test = sym (c.is_further.ensures ∙ ap (λ (q : ℚ). not (has enforced m) && lt_q zero_ℚ q) missed.0) ∙ c.if-is_further.true in
    record {
      known = All-tail For m rest (subst (All For) steps v.known);
      inside = All-tail (Contains set.members) m rest inside;
      size = subst (IsOfSize set) (sym c.insert.ensures) (record { rows = v.size.rows; columns = v.size.columns });
      total = total_next model x c.loop-member.total c.in-Ok-plus.sum c.in-Ok-member_violation.missed (total_violation model set.members x) m rest c.loop-member.member-iterator steps missed.0 c.in-Ok-plus.ensures.0 v.total;
      there = subst (HasPassing passes set rest) (sym c.insert.ensures)
          (passing_with passes set m rest c.loop-member.further there (has_of_contains set.members m (All-head (Contains set.members) m rest inside)) test);
    }

pub loop-member-preserved : goal.loop-member-preserved
loop-member-preserved c =
    let model = c.args.model.now in
    let set = c.args.set.now in
    let enforced = c.args.enforced.now.members in
    let x = values_at c.as_slice-values.result.now in
    let passes = is_further model enforced x in
    let m = c.in-Some.member in
    let rest = c.next.new.self in
    let steps = c.in-Some.ensures.steps in
    let v = c.loop-member.invariant in
    let missed = c.in-Ok-member_violation.ensures in
    let For = IsMemberFor (length model.rows) (length model.columns) in
    let there = subst (λ (l : List Member). HasPassing passes set l c.loop-member.further) steps v.there in
    let test = sym (c.is_further.ensures ∙ ap (λ (q : ℚ). not (has enforced m) && lt_q zero_ℚ q) missed.0) ∙ c.if-is_further.false in
    record {
      known = All-tail For m rest (subst (All For) steps v.known);
      inside = All-tail (Contains set.members) m rest (subst (All (Contains set.members)) steps v.inside);
      size = v.size;
      total = total_next model x c.loop-member.total c.in-Ok-plus.sum c.in-Ok-member_violation.missed (total_violation model set.members x) m rest c.loop-member.member-iterator steps missed.0 c.in-Ok-plus.ensures.0 v.total;
      there = passing_without passes set m rest c.loop-member.further there test;
    }

pub returns : goal.returns
returns c =
    let model = c.args.model.now in
    let set = c.args.set.now in
    let enforced = c.args.enforced.now.members in
    let x = values_at c.as_slice-values.result.now in
    let passes = is_further model enforced x in
    let none = c.in-None.ensures.steps.0 in
    let v = c.loop-member.invariant in
    let missed : Missed = record { total = c.loop-member.total; further = c.loop-member.further } in
    let at : IsMissedAt model set enforced x missed =
    record {
      total = sym (add-zero_ℚ c.loop-member.total) ∙ ap (λ (l : List Member). c.loop-member.total +ℚ total_violation model l x) (sym none) ∙ v.total;
      further = passing_at_last passes set c.loop-member.further c.stands_in_order.ensures.possible (subst (λ (l : List Member). HasPassing passes set l c.loop-member.further) none v.there);
    } in
    subst (λ (l : List ℚ). IsMissedAt model set enforced (values_at l) missed) c.as_slice-values.ensures at
