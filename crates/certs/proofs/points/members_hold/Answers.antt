use Rattle.std.proofs.Common.{sym, ◌∙◌, ap, Ok}
use Rattle.std.proofs.lemmas.Result.{err_from_is_err_and}
use Rattle.lp_model.specs.Satisfaction.{values_at}
use Rattle.certs.specs.Checks.{outcome, point_steps, checked_of}
use Rattle.certs.specs.declared.evidence.Checked.TheVariants.{Wide}
use Rattle.certs.proofs.Walk.{go_on, member_decides}
use Rattle.certs.proofs.points.members_hold.Goals as goal

pub loop-member-init : goal.loop-member-init
loop-member-init c =
    ap (λ l. outcome (point_steps c.args.model.now l (values_at c.args.values.now))) (c.into_iter-member-iterator.ensures.into_iter_gives ∙ c.iter-member-items.ensures)

pub returns-in_err-member_holds : goal.returns-in_err-member_holds
returns-in_err-member_holds c =
    let x = values_at c.args.values.now in
    let step = member_decides c.args.model.now c.in-Some.member c.next.new.self x (Wide c.in_err-member_holds.field-0.0) c.in_err-member_holds.ensures in
    let p = err_from_is_err_and c.from_residual.result c.from_residual.ensures.1 in
    rw (p.1, p.2) (sym (ap (λ l. outcome (point_steps c.args.model.now l x)) c.in-Some.ensures.steps ∙ step) ∙ c.loop-member.invariant)

pub returns-then-not-branch : goal.returns-then-not-branch
returns-then-not-branch c =
    let x = values_at c.args.values.now in
    let step = member_decides c.args.model.now c.in-Some.member c.next.new.self x (checked_of (Ok c.in_ok-member_holds.field-0)) c.in_ok-member_holds.ensures in
    let rest = outcome (point_steps c.args.model.now c.next.new.self x) in
    sym (ap (λ l. outcome (point_steps c.args.model.now l x)) c.in-Some.ensures.steps ∙ step ∙ ap (λ b. go_on (checked_of (Ok b)) rest) c.if-not-branch.true) ∙ c.loop-member.invariant

pub loop-member-preserved : goal.loop-member-preserved
loop-member-preserved c =
    let x = values_at c.args.values.now in
    let step = member_decides c.args.model.now c.in-Some.member c.next.new.self x (checked_of (Ok c.in_ok-member_holds.field-0)) c.in_ok-member_holds.ensures in
    let rest = outcome (point_steps c.args.model.now c.next.new.self x) in
    sym (ap (λ l. outcome (point_steps c.args.model.now l x)) c.in-Some.ensures.steps ∙ step ∙ ap (λ b. go_on (checked_of (Ok b)) rest) c.if-not-branch.false) ∙ c.loop-member.invariant

pub returns : goal.returns
returns c = sym (ap (λ l. outcome (point_steps c.args.model.now l (values_at c.args.values.now))) c.in-None.ensures.steps.0) ∙ c.loop-member.invariant
