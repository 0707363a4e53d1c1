use Rattle.std.proofs.Common.{◌≡◌, map}
use Rattle.certs.specs.Rows.{row_of}
use Rattle.certs.specs.System.{column_rows}
use Rattle.alt_polyhedron.proofs.systems.alternative_rows.Given as goal

-- the rows of the columns passed are there
abbrev pub invariant-loop-column : goal.invariant-loop-column
invariant-loop-column l = map row_of l.rows.items ≡ column_rows l.model l.members l.column
