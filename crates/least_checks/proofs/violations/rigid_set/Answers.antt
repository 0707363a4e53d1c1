use Rattle.std.proofs.Common.{◌≡◌, refl, sym, ◌∙◌, ap, subst, false, true≢false, List, length}
use Rattle.std.specs.Prelude.{All, Contains}
use Rattle.std.proofs.lemmas.List.Elements.{All-head, All-tail, All-contains_itself}
use Rattle.lp_model.specs.declared.members.Member.{Member}
use Rattle.lp_model.specs.declared.parts.Weight.{Weight}
use Rattle.lp_model.specs.declared.parts.Weight.TheVariants.{Rigid, Soft}
use Rattle.lp_model.specs.Members.{weight}
use Rattle.lp_model.specs.MemberSets.{IsMemberFor}
use Rattle.lp_model.proofs.Sets.{has_of_contains}
use Rattle.certs.specs.Named.{IsOfSize}
use Rattle.certs.specs.Violation.{is_rigid}
use Rattle.certs.proofs.Possible.{members_for_model}
use Rattle.least_checks.proofs.Passing.{HasPassing, passing_at_first, passing_with, passing_without, passing_at_last}
use Rattle.least_checks.proofs.violations.rigid_set.Goals.{in-Rigid, in_default}
use Rattle.least_checks.proofs.violations.rigid_set.Goals as goal

not_rigid : (w : Weight) → (w ≡ Rigid → ⊥) → is_rigid w ≡ false
not_rigid Rigid h = absurd (h refl)
not_rigid (Soft v) h = refl

pub loop-member-init : goal.loop-member-init
loop-member-init c =
    let model = c.args.model.now in
    let set = c.args.set.now in
    let given = c.into_iter-member-iterator.ensures.into_iter_gives ∙ c.iter-member-items.ensures in
    record {
      known = subst (All (IsMemberFor (length model.rows) (length model.columns))) (sym given) (members_for_model model set c.requires.same c.stands_in_order.ensures.possible);
      inside = subst (All (Contains set.members)) (sym given) (All-contains_itself set.members);
      size = subst (IsOfSize set) (sym c.in_ok-rigid.ensures) (record { rows = refl; columns = refl });
      there = subst (λ (l : List Member). HasPassing (λ m. is_rigid (weight model m)) set l c.in_ok-rigid.rigid) (sym given) (passing_at_first (λ m. is_rigid (weight model m)) set c.in_ok-rigid.rigid c.in_ok-rigid.ensures);
    }

pub weight_of-requires : goal.weight_of-requires
weight_of-requires c =
    let For = IsMemberFor (length c.args.model.now.rows) (length c.args.model.now.columns) in
    All-head For c.in-Some.member c.next.new.self (subst (All For) c.in-Some.ensures.steps c.loop-member.invariant.known)

pub insert-requires : goal.insert-requires
insert-requires c =
    let m = c.in-Some.member in
    let set = c.args.set.now in
    let For = IsMemberFor (length c.args.model.now.rows) (length c.args.model.now.columns) in
    let size = c.loop-member.invariant.size in
    let known = All-head For m c.next.new.self (subst (All For) c.in-Some.ensures.steps c.loop-member.invariant.known) in
    subst (λ n. IsMemberFor n c.loop-member.rigid.columns m) (sym (size.rows ∙ c.requires.same.rows))
    (subst (λ n. IsMemberFor (length c.args.model.now.rows) n m) (sym (size.columns ∙ c.requires.same.columns)) known)

pub loop-member-preserved-then-matches : goal.loop-member-preserved-then-matches
loop-member-preserved-then-matches c =
    let model = c.args.model.now in
    let set = c.args.set.now in
    let m = c.in-Some.member in
    let rest = c.next.new.self in
    let For = IsMemberFor (length model.rows) (length model.columns) in
    let inside = subst (All (Contains set.members)) c.in-Some.ensures.steps c.loop-member.invariant.inside in
    let there = subst (λ (l : List Member). HasPassing (λ m. is_rigid (weight model m)) set l c.loop-member.rigid) c.in-Some.ensures.steps c.loop-member.invariant.there in
    let size = c.loop-member.invariant.size in
    elim c.match-matches.branch [
      | in-Rigid w ↦ record {
        known = All-tail For m rest (subst (All For) c.in-Some.ensures.steps c.loop-member.invariant.known);
        inside = All-tail (Contains set.members) m rest inside;
        size = subst (IsOfSize set) (sym c.insert.ensures) (record { rows = size.rows; columns = size.columns });
        there = subst (HasPassing (λ m. is_rigid (weight model m)) set rest) (sym c.insert.ensures)
            (passing_with (λ m. is_rigid (weight model m)) set m rest c.loop-member.rigid there (has_of_contains set.members m (All-head (Contains set.members) m rest inside)) (ap is_rigid (sym c.weight_of.ensures ∙ w.in-Rigid.is)));
      }
      | in_default w ↦ absurd (true≢false (sym c.if-matches.true ∙ w.matches-is))
    ]

pub loop-member-preserved : goal.loop-member-preserved
loop-member-preserved c =
    let model = c.args.model.now in
    let set = c.args.set.now in
    let m = c.in-Some.member in
    let rest = c.next.new.self in
    let For = IsMemberFor (length model.rows) (length model.columns) in
    let inside = subst (All (Contains set.members)) c.in-Some.ensures.steps c.loop-member.invariant.inside in
    let there = subst (λ (l : List Member). HasPassing (λ m. is_rigid (weight model m)) set l c.loop-member.rigid) c.in-Some.ensures.steps c.loop-member.invariant.there in
    elim c.match-matches.branch [
      | in-Rigid w ↦ absurd (true≢false (sym w.matches-is ∙ c.if-matches.false))
      | in_default w ↦ record {
        known = All-tail For m rest (subst (All For) c.in-Some.ensures.steps c.loop-member.invariant.known);
        inside = All-tail (Contains set.members) m rest inside;
        size = c.loop-member.invariant.size;
        there = passing_without (λ m. is_rigid (weight model m)) set m rest c.loop-member.rigid there (ap is_rigid (sym c.weight_of.ensures) ∙ not_rigid c.weight_of.result w.in_default.not-Rigid);
      }
    ]

pub returns-clause-members : goal.returns-clause-members
returns-clause-members c =
    let model = c.args.model.now in
    let set = c.args.set.now in
    let there = subst (λ (l : List Member). HasPassing (λ m. is_rigid (weight model m)) set l c.loop-member.rigid) c.in-None.ensures.steps.0 c.loop-member.invariant.there in
    ap (λ s. s.members) (passing_at_last (λ m. is_rigid (weight model m)) set c.loop-member.rigid c.stands_in_order.ensures.possible there)
