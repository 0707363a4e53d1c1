use Rattle.std.proofs.Common.{◌+◌, sym, ap, ◌∙◌}
use Rattle.text_fields.proofs.PieceLists.{point-none, point-is, point-not}
use Rattle.text_fields.proofs.pieces.point_bytes.Goals as goal

pub returns-in_default-clause-len : goal.returns-in_default-clause-len
returns-in_default-clause-len c = sym (point-none c.args.text.now c.in_default.ensures.cases)

pub returns-then-point-eq46-clause-len : goal.returns-then-point-eq46-clause-len
returns-then-point-eq46-clause-len c = ap (λ n. 1 + n) c.digits.ensures.len ∙ sym (point-is _ _ _ c.in-Some.ensures.cases.0 c.if-point-eq46.true)

pub returns-clause-len : goal.returns-clause-len
returns-clause-len c = sym (point-not _ _ _ c.in-Some.ensures.cases.0 c.if-point-eq46.false)
