use Rattle.std.proofs.Common.{◌≡◌, map}
use Rattle.std.specs.List.{filter}
use Rattle.certs.specs.Ended.{numbers_from}
use Rattle.certs.specs.Plain.{has_row, plain_row}
use Rattle.certs.specs.Rows.{row_of}
use Rattle.certs.proofs.plain_systems.plain_rows.Given as goal

-- those of the rows passed that the set has are there
abbrev pub invariant-loop-row : goal.invariant-loop-row
invariant-loop-row l = map row_of l.rows.items ≡ map (plain_row l.model l.set.members) (filter (has_row l.set.members) (numbers_from 0 l.row))
