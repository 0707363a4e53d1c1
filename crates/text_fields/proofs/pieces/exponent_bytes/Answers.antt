use Rattle.std.proofs.Common.{sym, ap, ◌∙◌, ◌||◌, ◌==◌, cond, true, ◌≡◌, ◌+◌, arith, eq-eqb}
use Rattle.std.specs.List.{prefix_len}
use Rattle.std.proofs.lemmas.Bool.{ne_eqb}
use Rattle.std.proofs.lemmas.Bool.Decides.{nat_tests}
use Rattle.std.proofs.lemmas.List.{take_rest}
use Rattle.frac128.specs.Literal.{is_dec}
use Rattle.text_fields.specs.Pieces.{exponent_len, marked_len}
use Rattle.text_fields.proofs.PieceLists.{exponent-none, exponent-not, exponent-by}
use Rattle.text_fields.proofs.pieces.exponent_bytes.Goals.{else-mark-ne101-via-then-mark-ne101+else-mark-ne69, else-mark-ne101-via-else-mark-ne101, After-digits-digits}
use Rattle.text_fields.proofs.pieces.exponent_bytes.Goals as goal

pub returns-in_default-clause-len : goal.returns-in_default-clause-len
returns-in_default-clause-len c = sym (exponent-none c.args.text.now c.in_default.ensures.cases)

pub returns-then-mark-ne69-clause-len : goal.returns-then-mark-ne69-clause-len
returns-then-mark-ne69-clause-len c =
    let n = c.if-mark-ne101.true in
    let m = c.if-mark-ne69.true in
    sym (exponent-not _ _ _ c.in-Some.ensures.cases.0 (grind (arith, nat_tests)))

found : (c : After-digits-digits) → exponent_len c.args.text.now ≡ marked_len c.sign_bytes-sign.result c.digits-digits.result
found c =
    let is : ((c.in-Some.mark.now == 101) || (c.in-Some.mark.now == 69)) ≡ true = elim c.else-mark-ne101.branch [
      | else-mark-ne101-via-then-mark-ne101+else-mark-ne69 w ↦ (let e = w.if-mark-ne69.false in grind (arith, nat_tests))
      | else-mark-ne101-via-else-mark-ne101 w ↦ (let e = w.if-mark-ne101.false in grind (arith, nat_tests))
    ] in
    exponent-by c.args.text.now c.in-Some.mark.now c.in-Some.rest.now c.in-Some.ensures.cases.0 is c.sign_bytes-sign.result c.digits-digits.result c.sign_bytes-sign.ensures.len
    (c.digits-digits.ensures.len ∙ ap (prefix_len is_dec) (take_rest c.in-Some.rest.now c.sign_bytes-sign.result))

pub returns-then-digits-eq0-clause-len : goal.returns-then-digits-eq0-clause-len
returns-then-digits-eq0-clause-len c =
    sym (found (goal.at.returns-then-digits-eq0-clause-len c).After-digits-digits ∙ ap (λ t. cond t 0 (1 + c.sign_bytes-sign.result + c.digits-digits.result)) (eq-eqb c.digits-digits.result 0 c.if-digits-eq0.true))

pub returns-clause-len : goal.returns-clause-len
returns-clause-len c =
    sym (found (goal.at.returns-clause-len c).After-digits-digits ∙ ap (λ t. cond t 0 (1 + c.sign_bytes-sign.result + c.digits-digits.result)) (ne_eqb c.digits-digits.result 0 c.if-digits-eq0.false))
