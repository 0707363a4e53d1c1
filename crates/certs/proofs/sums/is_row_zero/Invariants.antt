use Rattle.std.proofs.Common.{◌≡◌, drop}
use Rattle.lp_model.specs.Program.{row_at}
use Rattle.lp_model.specs.Satisfaction.{values_at}
use Rattle.certs.specs.Checks.{is_zero_on}
use Rattle.certs.proofs.sums.is_row_zero.Given as goal

-- the terms left decide
abbrev pub invariant-loop-term : goal.invariant-loop-term
invariant-loop-term l = is_zero_on (values_at l.sums) (drop l.term-index l.term-items) ≡ is_zero_on (values_at l.sums) (row_at l.model l.index).terms
