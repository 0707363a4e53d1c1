use Rattle.std.proofs.Common.{sym, length, arith}
use Rattle.std.proofs.lemmas.List.Sums.{prefix_len_is}
use Rattle.frac128.specs.Literal.{is_dec}
use Rattle.text_fields.proofs.pieces.digits.Goals as goal

pub returns-then-not-is_digit-clause-len : goal.returns-then-not-is_digit-clause-len
returns-then-not-is_digit-clause-len c = sym (prefix_len_is is_dec c.args.text.now c.loop-i.i 0 (omega arith) (λ k h. c.loop-i.invariant k h) (λ h. sym c.if-not-is_digit.ensures))

pub returns-clause-len : goal.returns-clause-len
returns-clause-len c = sym (prefix_len_is is_dec c.args.text.now (length c.args.text.now) 0 (omega arith) (λ k h. c.loop-i.invariant k (omega arith)) (λ h. absurd (omega arith)))
