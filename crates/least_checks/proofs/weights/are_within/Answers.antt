use Rattle.std.proofs.Common.{sym, ◌∙◌, ap, subst, List, [], ◌∷◌, length, Ok}
use Rattle.std.specs.Prelude.{All}
use Rattle.std.proofs.lemmas.Result.{err_from_is_err_and}
use Rattle.std.proofs.lemmas.List.Elements.{All-head, All-tail}
use Rattle.lp_model.specs.declared.members.Member.{Member}
use Rattle.lp_model.specs.MemberSets.{IsMemberFor}
use Rattle.certs.proofs.Possible.{members_for_model}
use Rattle.certs.specs.Checks.{outcome, checked_of, within_steps}
use Rattle.least_checks.proofs.Steps.{first_is_wide, first_passes}
use Rattle.least_checks.proofs.Given.{within_first}
use Rattle.least_checks.proofs.weights.are_within.Goals as goal

pub loop-member-init : goal.loop-member-init
loop-member-init c =
    let model = c.args.model.now in
    let given = c.into_iter-member-iterator.ensures.into_iter_gives ∙ c.iter-member-items.ensures in
    record {
      known = subst (All (IsMemberFor (length model.rows) (length model.columns))) (sym given) (members_for_model model c.args.set.now c.requires.same c.stands_in_order.ensures.possible);
      left = ap (λ (l : List Member). outcome (within_steps model l c.args.shares.now)) given;
    }

pub is_within-requires : goal.is_within-requires
is_within-requires c =
    let For = IsMemberFor (length c.args.model.now.rows) (length c.args.model.now.columns) in
    All-head For c.in-Some.member c.next.new.self (subst (All For) c.in-Some.ensures.steps c.loop-member.invariant.known)

pub returns-in_err-is_within : goal.returns-in_err-is_within
returns-in_err-is_within c =
    let model = c.args.model.now in
    let shares = c.args.shares.now in
    let m = c.in-Some.member in
    let rest = c.next.new.self in
    let p = err_from_is_err_and c.from_residual.result c.from_residual.ensures.1 in
    rw (p.1, p.2)
    (first_is_wide (within_steps model (m ∷ []) shares) (within_steps model rest shares) _ c.in_err-is_within.ensures
    ∙ sym (ap (λ (l : List Member). outcome (within_steps model l shares)) c.in-Some.ensures.steps ∙ ap outcome (within_first model shares m rest)) ∙ c.loop-member.invariant.left)

pub loop-member-preserved : goal.loop-member-preserved
loop-member-preserved c =
    let model = c.args.model.now in
    let shares = c.args.shares.now in
    let m = c.in-Some.member in
    let rest = c.next.new.self in
    let For = IsMemberFor (length model.rows) (length model.columns) in
    let passed = ap (λ b. checked_of (Ok b)) (sym c.if-not-branch.false) ∙ c.in_ok-is_within.ensures in
    record {
      known = All-tail For m rest (subst (All For) c.in-Some.ensures.steps c.loop-member.invariant.known);
      left = sym (first_passes (within_steps model (m ∷ []) shares) (within_steps model rest shares) passed)
          ∙ sym (ap (λ (l : List Member). outcome (within_steps model l shares)) c.in-Some.ensures.steps ∙ ap outcome (within_first model shares m rest)) ∙ c.loop-member.invariant.left;
    }
