use Rattle.std.proofs.Common.{◌≡◌, ℕ, ◌<◌, get_or, true}
use Rattle.frac128.specs.Literal.{is_dec}
use Rattle.text_fields.proofs.pieces.digits.Given as goal

abbrev pub invariant-loop-i : goal.invariant-loop-i
invariant-loop-i l = (k : ℕ) → k < l.i → is_dec (get_or l.text k 0) ≡ true
