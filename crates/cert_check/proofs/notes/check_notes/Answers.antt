use Rattle.std.proofs.Common.{◌<◌, sym, ◌∙◌, length, arith}
use Rattle.lp_model.specs.declared.parts.Note.TheVariants.{LowerKept}
use Rattle.cert_check.specs.Trials.{same_note}
use Rattle.cert_check.proofs.Pairs.{ends, ends_there}
use Rattle.cert_check.proofs.notes.check_notes.Goals as goal

pub returns-then-place-known : goal.returns-then-place-known
returns-then-place-known c =
    sym c.loop-place.invariant.left ∙ ends same_note c.loop-place.line c.loop-place.place c.args.printed.now c.args.known.now (LowerKept 0) c.loop-place-test.true c.if-place-known.true

pub returns-then-printed-known : goal.returns-then-printed-known
returns-then-printed-known c =
    let within : c.loop-place.place < length c.args.known.now = omega (arith, c.loop-place.auto.place-end, c.if-printed-known.true) in
    sym c.loop-place.invariant.left ∙ ends_there same_note c.loop-place.line c.loop-place.place c.args.printed.now c.args.known.now (LowerKept 0) c.loop-place-test.false within
