use Rattle.std.proofs.Common.{arith}
use Rattle.alt_polyhedron.proofs.reading.price_of.Goals as goal

pub overflow_add-first : goal.overflow_add-first
overflow_add-first c =
    let all = c.variables-variables.ensures in
    let first = c.columns-first.ensures in
    let fits = c.variables-variables.type_inv in
    let rows = c.requires.rows in
    let below = c.loop-column-test.true in
    omega (arith, all, first, fits, rows, below)
