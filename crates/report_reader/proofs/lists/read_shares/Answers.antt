use Rattle.std.proofs.Common.{sym, ap, ◌∙◌, subst}
use Rattle.std.specs.Prelude.{map}
use Rattle.certs.specs.declared.evidence.Share.{Share}
use Rattle.certs.specs.Order.{AreSharesInOrder}
use Rattle.report_text.specs.declared.phrases.Phrase.{Phrase}
use Rattle.report_text.specs.Form.{AreUses}
use Rattle.report_reader.specs.Things.{found, uses, share_of, may_use}
use Rattle.report_reader.proofs.Found.{share_finds}
use Rattle.report_reader.proofs.Sorted.{no_uses, share_taken}
use Rattle.report_reader.specs.Kinds.{IsRead, next_in}
use Rattle.report_reader.proofs.Passing.{loop_start, loop_more, loop_smaller, loop_end}
use Rattle.report_reader.proofs.lists.read_shares.Goals as goal

pub loop-share-init : goal.loop-share-init
loop-share-init c = loop_start c.args.model.now c.requires.names (uses c.args.model.now) c.args.cursor.now _ c.requires (subst (AreUses c.args.model.now) (sym c.new-shares.ensures.items) (no_uses c.args.model.now)) (ap (map (Phrase.Use)) c.new-shares.ensures.items)

pub next_share-requires : goal.next_share-requires
next_share-requires c = subst AreSharesInOrder (sym c.as_slice.ensures.value) c.loop-share.invariant.form.in_order

pub pass-requires : goal.pass-requires
pass-requires c = c.loop-share.invariant.stands

pub loop-share-smaller : goal.loop-share-smaller
loop-share-smaller c = loop_smaller c.args.model.now c.requires.names Share (Phrase.Use) (share_of) (may_use) (AreUses c.args.model.now) (share_finds) c.loop-share.cursor c.pass.new.self c.push.new.self _ _ c.in-Some.share (ap (λ xs. next_in (may_use) xs (found (share_of) c.loop-share.cursor.ahead)) (sym c.as_slice.ensures.value) ∙ sym c.next_share.ensures ∙ c.in-Some.is) c.loop-share.invariant.stands c.pass.ensures.passes c.push.ensures

pub loop-share-preserved : goal.loop-share-preserved
loop-share-preserved c = loop_more c.args.model.now c.requires.names Share (Phrase.Use) (share_of) (may_use) (AreUses c.args.model.now) (share_finds) c.args.cursor.now c.loop-share.cursor c.pass.new.self c.push.new.self _ _ c.in-Some.share c.loop-share.invariant (ap (λ xs. next_in (may_use) xs (found (share_of) c.loop-share.cursor.ahead)) (sym c.as_slice.ensures.value) ∙ sym c.next_share.ensures ∙ c.in-Some.is) c.pass.ensures.passes c.pass.ensures.stands c.push.ensures (λ m h. share_taken c.args.model.now _ c.in-Some.share c.loop-share.invariant.form h m)

pub returns-clause-read : goal.returns-clause-read
returns-clause-read c = subst (IsRead c.args.model.now (uses c.args.model.now) c.args.cursor.now c.loop-share.cursor) (sym c.new.ensures) (loop_end c.args.model.now c.requires.names Share (Phrase.Use) (share_of) (may_use) (AreUses c.args.model.now) (share_finds) c.args.cursor.now c.loop-share.cursor _ c.loop-share.invariant (ap (λ xs. next_in (may_use) xs (found (share_of) c.loop-share.cursor.ahead)) (sym c.as_slice.ensures.value) ∙ sym c.next_share.ensures ∙ c.in_default.is))

pub returns-clause-stands : goal.returns-clause-stands
returns-clause-stands c = c.loop-share.invariant.stands
