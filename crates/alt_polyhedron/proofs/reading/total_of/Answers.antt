use Rattle.std.proofs.Common.{arith}
use Rattle.alt_polyhedron.proofs.reading.total_of.Goals as goal

pub overflow_add-columns : goal.overflow_add-columns
overflow_add-columns c =
    let all = c.variables-variables.ensures in
    let first = c.columns.ensures in
    let fits = c.variables-variables.type_inv in
    let rows = c.requires.rows in
    omega (arith, all, first, fits, rows)
