use Rattle.std.proofs.Common.{arith, sym}
use Rattle.text_fields.proofs.FieldLists.{so_far-init, so_far-more, so_far-all, field_at, nonblank_from}
use Rattle.text_fields.proofs.line_fields.fields.Goals as goal

pub loop-at-init : goal.loop-at-init
loop-at-init c = so_far-init c.args.bytes.now c.args.line.now c.args.into.now.items c.next_nonblank-at.result c.requires.in_order c.requires.within c.next_nonblank-at.ensures.place

pub next_nonblank-at-requires-in-loop-at-clause-in_order : goal.next_nonblank-at-requires-in-loop-at-clause-in_order
next_nonblank-at-requires-in-loop-at-clause-in_order c =
    (field_at c.args.bytes.now c.loop-at.at c.args.line.now.to c.first_of-end.result c.loop-at-test.true c.requires.within (c.loop-at.invariant.begins c.loop-at-test.true) c.first_of-end.ensures.place).high

pub loop-at-smaller : goal.loop-at-smaller
loop-at-smaller c =
    let f = field_at c.args.bytes.now c.loop-at.at c.args.line.now.to c.first_of-end.result c.loop-at-test.true c.requires.within (c.loop-at.invariant.begins c.loop-at-test.true) c.first_of-end.ensures.place in
    let n = nonblank_from c.args.bytes.now c.first_of-end.result c.args.line.now.to c.next_nonblank-at-in-loop-at.result f.high c.requires.within c.next_nonblank-at-in-loop-at.ensures.place in
    let a = f.some in
    let b = n.low in
    let d = c.loop-at-test.true in
    omega arith

pub loop-at-preserved : goal.loop-at-preserved
loop-at-preserved c =
    so_far-more c.args.bytes.now c.args.line.now c.args.into.now.items c.loop-at.into.items c.push.new.self.items c.loop-at.at c.first_of-end.result c.next_nonblank-at-in-loop-at.result
    c.requires.within c.loop-at.invariant c.loop-at-test.true c.first_of-end.ensures.place c.next_nonblank-at-in-loop-at.ensures.place c.in_ok-push.ensures.items

pub returns : goal.returns
returns c = so_far-all c.args.bytes.now c.args.line.now c.args.into.now.items c.loop-at.into.items c.loop-at.at c.requires.within c.loop-at.invariant c.loop-at-test.false (sym c.in_default.ensures)
