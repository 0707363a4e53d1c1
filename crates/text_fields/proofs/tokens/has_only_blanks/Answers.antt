use Rattle.std.proofs.Common.{◌≡◌, ◌-◌, true, false, get_or, refl, sym, ap, ◌∙◌, arith, eq-eqb}
use Rattle.std.proofs.lemmas.Bool.{ne_eqb}
use Rattle.lane_scan.specs.Bytes.{is_blank}
use Rattle.text_fields.specs.Tokens.{only_blanks}
use Rattle.text_fields.proofs.Scans.{only_blanks-by}
use Rattle.text_fields.proofs.tokens.has_only_blanks.Goals as goal

pub returns-then-byte-eq10 : goal.returns-then-byte-eq10
returns-then-byte-eq10 c =
    let i = c.loop-place.place in
    let bytes = c.args.bytes.now in
    sym (c.loop-place.invariant.same
    ∙ only_blanks-by bytes i true (is_blank (get_or bytes (i - 1) 0)) c.loop-place-test.true (eq-eqb (get_or bytes (i - 1) 0) 10 c.if-byte-eq10.true) refl)

pub returns-then-not-is_blank_byte : goal.returns-then-not-is_blank_byte
returns-then-not-is_blank_byte c =
    let i = c.loop-place.place in
    let bytes = c.args.bytes.now in
    sym (c.loop-place.invariant.same
    ∙ only_blanks-by bytes i false false c.loop-place-test.true (ne_eqb (get_or bytes (i - 1) 0) 10 c.if-byte-eq10.false) (sym c.if-not-is_blank_byte.ensures))

pub loop-place-preserved : goal.loop-place-preserved
loop-place-preserved c =
    let i = c.loop-place.place in
    let bytes = c.args.bytes.now in
    record {
      within = (let a = c.loop-place.invariant.within in omega arith);
      same = c.loop-place.invariant.same
          ∙ only_blanks-by bytes i false true c.loop-place-test.true (ne_eqb (get_or bytes (i - 1) 0) 10 c.if-byte-eq10.false) (sym c.if-not-is_blank_byte.ensures);
    }

pub returns : goal.returns
unfolding only_blanks
returns c =
    let z : c.loop-place.place ≡ 0 = (let a = c.loop-place-test.false in omega arith) in
    sym (c.loop-place.invariant.same ∙ ap (only_blanks c.args.bytes.now) z)
