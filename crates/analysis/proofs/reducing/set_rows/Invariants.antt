use Rattle.std.proofs.Common.{◌≡◌}
use Rattle.std.specs.List.{filter}
use Rattle.certs.specs.Ended.{numbers_from}
use Rattle.certs.specs.Plain.{has_row}
use Rattle.analysis.proofs.reducing.set_rows.Given as goal

-- those of the rows passed that the set has are there
abbrev pub invariant-loop-row : goal.invariant-loop-row
invariant-loop-row l = l.rows.items ≡ filter (has_row l.set.members) (numbers_from 0 l.row)
