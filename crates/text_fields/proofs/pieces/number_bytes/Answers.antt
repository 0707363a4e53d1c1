use Rattle.std.proofs.Common.{◌-◌, ◌≡◌, ◌==◌, ◌&&◌, leb, false, sym, ap, ◌∙◌, arith, inl, inr, length, take, drop}
use Rattle.std.proofs.lemmas.Bool.Decides.{nat_tests}
use Rattle.std.proofs.lemmas.List.{take_rest}
use Rattle.text_fields.specs.Pieces.{point_len, exponent_len}
use Rattle.text_fields.proofs.PieceLists.{number-by, number-none}
use Rattle.text_fields.proofs.pieces.number_bytes.Goals as goal

pub returns-then-part-le1-clause-len : goal.returns-then-part-le1-clause-len
returns-then-part-le1-clause-len c =
    let xs = c.args.text.now in
    let w = c.digits-whole.result in
    let a = c.if-whole-eq0.true in
    let b = c.if-part-le1.true in
    sym (number-none xs w c.point_bytes-part.result c.digits-whole.ensures.len (c.point_bytes-part.ensures.len ∙ ap point_len (take_rest xs w)) (grind (arith, nat_tests)))

pub returns-clause-len : goal.returns-clause-len
returns-clause-len c =
    let xs = c.args.text.now in
    let w = c.digits-whole.result in
    let p = c.point_bytes-part.result in
    let found : ((w == 0) && leb p 1) ≡ false = elim c.else-whole-eq0.either [
      | inl h ↦ (let a = h.1 in grind (arith, nat_tests))
      | inr h ↦ (let a = h in grind (arith, nat_tests))
    ] in
    sym (number-by xs w p c.exponent_bytes.result false c.digits-whole.ensures.len (c.point_bytes-part.ensures.len ∙ ap point_len (take_rest xs w))
    (c.exponent_bytes.ensures.len
    ∙ ap exponent_len (take_rest (take (length xs - w) (drop w xs)) p ∙ ap (drop p) (take_rest xs w)))
    found)
