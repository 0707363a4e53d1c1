use Rattle.std.proofs.Common.{◌≡◌, ◌≤◌, length, not}
use Rattle.std.specs.List.{filter}
use Rattle.certs.specs.Ended.{numbers_from}
use Rattle.analysis.specs.Reduced.{is_row_removed}
use Rattle.analysis.proofs.reducing.rows_left.Given as goal

-- of the rows passed so many are left
abbrev pub invariant-loop-row : goal.invariant-loop-row
invariant-loop-row l = (l.left ≡ length (filter (λ i. not (is_row_removed l.trace.steps i)) (numbers_from 0 l.row))) × (l.left ≤ l.row)
