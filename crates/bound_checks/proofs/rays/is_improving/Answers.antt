use Rattle.std.proofs.Common.{Bool, List, cond, sym, ◌∙◌, ap}
use Rattle.std.proofs.lemmas.Result.{err_from_is_err_and}
use Rattle.lp_model.specs.declared.members.Member.{Member}
use Rattle.lp_model.specs.Satisfaction.{values_at}
use Rattle.certs.specs.Checks.{outcome, ray_steps}
use Rattle.certs.specs.declared.evidence.Checked.TheVariants.{No}
use Rattle.bound_checks.proofs.Kept.{member_wide, member_decides}
use Rattle.bound_checks.proofs.rays.is_improving.Goals as goal

pub loop-member-init : goal.loop-member-init
loop-member-init c =
    ap (λ (l : List Member). outcome (ray_steps c.args.model.now l (values_at c.args.values.now))) (c.into_iter-member-iterator.ensures.into_iter_gives ∙ c.iter-member-items.ensures)

pub returns-in_err-member_is_kept : goal.returns-in_err-member_is_kept
returns-in_err-member_is_kept c =
    let x = values_at c.args.values.now in
    let step = member_wide c.args.model.now c.in-Some.member c.next.new.self x c.in_err-member_is_kept.field-0.0 c.in_err-member_is_kept.ensures in
    let p = err_from_is_err_and c.from_residual.result c.from_residual.ensures.1 in
    rw (p.1, p.2) (sym (ap (λ (l : List Member). outcome (ray_steps c.args.model.now l x)) c.in-Some.ensures.steps ∙ step) ∙ c.loop-member.invariant)

pub returns-then-not-branch : goal.returns-then-not-branch
returns-then-not-branch c =
    let x = values_at c.args.values.now in
    let e = c.in_ok-member_is_kept.ensures in
    let rest = outcome (ray_steps c.args.model.now c.next.new.self x) in
    let step = member_decides c.args.model.now c.in-Some.member c.next.new.self x c.in_ok-member_is_kept.field-0 e.0 e.1 in
    sym (ap (λ (l : List Member). outcome (ray_steps c.args.model.now l x)) c.in-Some.ensures.steps ∙ step ∙ ap (λ (b : Bool). cond b rest No) c.if-not-branch.true) ∙ c.loop-member.invariant

pub loop-member-preserved : goal.loop-member-preserved
loop-member-preserved c =
    let x = values_at c.args.values.now in
    let e = c.in_ok-member_is_kept.ensures in
    let rest = outcome (ray_steps c.args.model.now c.next.new.self x) in
    let step = member_decides c.args.model.now c.in-Some.member c.next.new.self x c.in_ok-member_is_kept.field-0 e.0 e.1 in
    sym (ap (λ (l : List Member). outcome (ray_steps c.args.model.now l x)) c.in-Some.ensures.steps ∙ step ∙ ap (λ (b : Bool). cond b rest No) c.if-not-branch.false) ∙ c.loop-member.invariant
