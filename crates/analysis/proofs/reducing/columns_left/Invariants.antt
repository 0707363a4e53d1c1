use Rattle.std.proofs.Common.{◌≡◌, ◌≤◌, length, not}
use Rattle.std.specs.List.{filter}
use Rattle.certs.specs.Ended.{numbers_from}
use Rattle.analysis.specs.Reduced.{is_removed}
use Rattle.analysis.proofs.reducing.columns_left.Given as goal

-- of the columns passed so many are left
abbrev pub invariant-loop-column : goal.invariant-loop-column
invariant-loop-column l = (l.left ≡ length (filter (λ i. not (is_removed l.trace.steps i)) (numbers_from 0 l.column))) × (l.left ≤ l.column)
