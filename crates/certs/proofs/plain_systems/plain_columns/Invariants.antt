use Rattle.std.proofs.Common.{◌≡◌, map}
use Rattle.certs.specs.Ended.{numbers_from}
use Rattle.certs.specs.Plain.{column_limits}
use Rattle.certs.proofs.plain_systems.plain_columns.Given as goal

-- the limits of the columns passed are there
abbrev pub invariant-loop-column : goal.invariant-loop-column
invariant-loop-column l = l.columns.items ≡ map (column_limits l.model l.set.members l.path) (numbers_from 0 l.column)
