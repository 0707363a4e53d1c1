use Rattle.std.proofs.Common.{sym, ap, ◌∙◌, subst}
use Rattle.std.specs.Prelude.{map}
use Rattle.lp_model.specs.declared.members.Member.{Member}
use Rattle.lp_model.specs.Members.{IsInOrder}
use Rattle.report_reader.specs.Things.{found, members, member_phrase, member_of, may_list, AreListed}
use Rattle.report_reader.proofs.Found.{member_finds}
use Rattle.report_reader.proofs.Passing.{looked_at}
use Rattle.report_reader.proofs.Sorted.{none_listed, listed_taken, are_members}
use Rattle.report_reader.specs.Kinds.{next_in}
use Rattle.report_reader.proofs.Passing.{loop_start, loop_more, loop_smaller, loop_end}
use Rattle.report_reader.proofs.lists.read_members.Goals as goal

pub loop-member-init : goal.loop-member-init
loop-member-init c = loop_start c.args.model.now c.requires.names (members c.args.model.now c.args.listing) c.args.cursor.now _ c.requires (subst (AreListed c.args.model.now c.args.listing) (sym c.new-members.ensures.items) (none_listed c.args.model.now c.args.listing)) (ap (map (member_phrase c.args.listing)) c.new-members.ensures.items)

pub next_member-requires-clause-in_order : goal.next_member-requires-clause-in_order
next_member-requires-clause-in_order c = subst IsInOrder (sym c.as_slice.ensures.value) (are_members c.args.model.now c.args.listing _ c.loop-member.invariant.form).in_order

pub next_member-requires-clause-said : goal.next_member-requires-clause-said
next_member-requires-clause-said c = looked_at c.args.model.now c.loop-member.cursor c.loop-member.invariant.stands

pub returns-clause-form : goal.returns-clause-form
returns-clause-form c = are_members c.args.model.now c.args.listing _ c.loop-member.invariant.form

pub pass-requires : goal.pass-requires
pass-requires c = c.loop-member.invariant.stands

pub loop-member-smaller : goal.loop-member-smaller
loop-member-smaller c = loop_smaller c.args.model.now c.requires.names Member (member_phrase c.args.listing) (member_of c.args.listing) (may_list c.args.model.now c.args.listing) (AreListed c.args.model.now c.args.listing) (member_finds c.args.listing) c.loop-member.cursor c.pass.new.self c.push.new.self _ _ c.in-Some.member (ap (λ xs. next_in (may_list c.args.model.now c.args.listing) xs (found (member_of c.args.listing) c.loop-member.cursor.ahead)) (sym c.as_slice.ensures.value) ∙ sym c.next_member.ensures ∙ c.in-Some.is) c.loop-member.invariant.stands c.pass.ensures.passes c.push.ensures

pub loop-member-preserved : goal.loop-member-preserved
loop-member-preserved c = loop_more c.args.model.now c.requires.names Member (member_phrase c.args.listing) (member_of c.args.listing) (may_list c.args.model.now c.args.listing) (AreListed c.args.model.now c.args.listing) (member_finds c.args.listing) c.args.cursor.now c.loop-member.cursor c.pass.new.self c.push.new.self _ _ c.in-Some.member c.loop-member.invariant (ap (λ xs. next_in (may_list c.args.model.now c.args.listing) xs (found (member_of c.args.listing) c.loop-member.cursor.ahead)) (sym c.as_slice.ensures.value) ∙ sym c.next_member.ensures ∙ c.in-Some.is) c.pass.ensures.passes c.pass.ensures.stands c.push.ensures (λ m h. listed_taken c.args.model.now c.args.listing _ c.in-Some.member c.loop-member.invariant.form m h)

pub returns-clause-read : goal.returns-clause-read
returns-clause-read c = loop_end c.args.model.now c.requires.names Member (member_phrase c.args.listing) (member_of c.args.listing) (may_list c.args.model.now c.args.listing) (AreListed c.args.model.now c.args.listing) (member_finds c.args.listing) c.args.cursor.now c.loop-member.cursor _ c.loop-member.invariant (ap (λ xs. next_in (may_list c.args.model.now c.args.listing) xs (found (member_of c.args.listing) c.loop-member.cursor.ahead)) (sym c.as_slice.ensures.value) ∙ sym c.next_member.ensures ∙ c.in_default.is)

pub returns-clause-stands : goal.returns-clause-stands
returns-clause-stands c = c.loop-member.invariant.stands
