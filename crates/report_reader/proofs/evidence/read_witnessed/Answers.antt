use Rattle.std.proofs.Common.{sym, ap, ◌∙◌, subst, [], length}
use Rattle.lp_model.specs.Members.{IsInOrder}
use Rattle.report_reader.specs.declared.lists.Listing.{Listing}
use Rattle.report_reader.specs.Kinds.{next_in}
use Rattle.report_reader.specs.Things.{found, may_list, member_of}
use Rattle.report_reader.proofs.Passing.{looked_at}
use Rattle.report_reader.proofs.Witnesses.{ReadsPairs, pairs_start, pairs_more, pairs_pushed, pairs_smaller, pairs_end}
use Rattle.report_reader.proofs.evidence.read_witnessed.Goals as goal

pub next_member-requires-clause-in_order : goal.next_member-requires-clause-in_order
next_member-requires-clause-in_order c = subst IsInOrder (sym c.as_slice.ensures.value) c.loop-member.invariant.form.in_order

pub next_member-requires-clause-said : goal.next_member-requires-clause-said
next_member-requires-clause-said c = looked_at c.args.model.now c.loop-member.cursor c.loop-member.invariant.stands

pub pass-requires : goal.pass-requires
pass-requires c = c.loop-member.invariant.stands

pub loop-member-init : goal.loop-member-init
loop-member-init c =
    let m = c.args.model.now in
    let old = c.args.cursor.now in
    subst (λ ms. ReadsPairs m old old ms c.new-witnesses.result.items) (sym c.new-members.ensures.items) (subst (λ ps. ReadsPairs m old old [] ps) (sym c.new-witnesses.ensures.items) (pairs_start m c.requires.names old c.requires))

pub loop-member-smaller : goal.loop-member-smaller
loop-member-smaller c =
    pairs_smaller c.args.model.now c.requires.names c.loop-member.cursor c.pass.new.self c.read_point-point.new.cursor c.push.new.self c.push-in-Some.new.self _ _ _ _ c.in-Some.member c.read_point-point.result c.loop-member.invariant.stands (ap (λ ms. next_in (may_list c.args.model.now Listing.Listed) ms (found (member_of Listing.Listed) c.loop-member.cursor.ahead)) (sym c.as_slice.ensures.value) ∙ sym c.next_member.ensures ∙ c.in-Some.is)
    c.pass.ensures.passes c.pass.ensures.stands c.read_point-point.ensures.read c.read_point-point.ensures.stands c.push.ensures c.push-in-Some.ensures

pub loop-member-preserved : goal.loop-member-preserved
loop-member-preserved c =
    let e = (ap (λ ms. next_in (may_list c.args.model.now Listing.Listed) ms (found (member_of Listing.Listed) c.loop-member.cursor.ahead)) (sym c.as_slice.ensures.value) ∙ sym c.next_member.ensures ∙ c.in-Some.is) in
    pairs_pushed c.args.model.now c.requires.names c.args.cursor.now c.loop-member.cursor c.read_point-point.new.cursor c.push.new.self c.push-in-Some.new.self _ _ _ _ c.in-Some.member c.read_point-point.result c.loop-member.invariant e
    (pairs_more c.args.model.now c.requires.names c.args.cursor.now c.loop-member.cursor c.pass.new.self c.read_point-point.new.cursor _ _ c.in-Some.member c.read_point-point.result c.loop-member.invariant e c.pass.ensures.passes c.pass.ensures.stands c.read_point-point.ensures.read c.read_point-point.ensures.stands)
    c.push.ensures c.push-in-Some.ensures

pub returns-clause-read : goal.returns-clause-read
returns-clause-read c = rw c.new.ensures (pairs_end c.args.model.now c.requires.names c.args.cursor.now c.loop-member.cursor _ _ c.loop-member.invariant (ap (λ ms. next_in (may_list c.args.model.now Listing.Listed) ms (found (member_of Listing.Listed) c.loop-member.cursor.ahead)) (sym c.as_slice.ensures.value) ∙ sym c.next_member.ensures ∙ c.in_default.is))

pub returns-clause-each : goal.returns-clause-each
returns-clause-each c = λ q f. ap length c.new.ensures ∙ (c.loop-member.invariant.grown q f).0

pub returns-clause-form : goal.returns-clause-form
returns-clause-form c = c.loop-member.invariant.form

pub returns-clause-stands : goal.returns-clause-stands
returns-clause-stands c = c.loop-member.invariant.stands
