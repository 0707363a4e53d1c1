use Rattle.std.proofs.Common.{sym, true, false, ◌≡◌, arith}
use Rattle.std.proofs.lemmas.Bool.Decides.{nat_tests}
use Rattle.text_fields.specs.Pieces.{is_sign}
use Rattle.text_fields.proofs.PieceLists.{sign-none, sign-by}
use Rattle.text_fields.proofs.pieces.sign_bytes.Goals.{then-sign-eq43-via-then-sign-eq43, then-sign-eq43-via-else-sign-eq43+then-sign-eq45}
use Rattle.text_fields.proofs.pieces.sign_bytes.Goals as goal

pub returns-in_default-clause-len : goal.returns-in_default-clause-len
returns-in_default-clause-len c = sym (sign-none c.args.text.now c.in_default.ensures.cases)

pub returns-then-sign-eq43-clause-len : goal.returns-then-sign-eq43-clause-len
returns-then-sign-eq43-clause-len c =
    let is : is_sign c.in-Some.sign.now ≡ true = elim c.then-sign-eq43.branch [
      | then-sign-eq43-via-then-sign-eq43 w ↦ (let e = w.if-sign-eq43.true in grind (arith, nat_tests))
      | then-sign-eq43-via-else-sign-eq43+then-sign-eq45 w ↦ (let e = w.if-sign-eq45.true in grind (arith, nat_tests))
    ] in
    sym (sign-by _ _ _ true c.in-Some.ensures.cases.0 is)

pub returns-clause-len : goal.returns-clause-len
returns-clause-len c =
    let n = c.if-sign-eq43.false in
    let m = c.if-sign-eq45.false in
    let is : is_sign c.in-Some.sign.now ≡ false = grind (arith, nat_tests) in
    sym (sign-by _ _ _ false c.in-Some.ensures.cases.0 is)
