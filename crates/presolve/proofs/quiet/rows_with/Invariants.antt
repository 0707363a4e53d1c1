use Rattle.std.proofs.Common.{◌≡◌, ◌++◌, drop, map}
use Rattle.certs.specs.Rows.{row_of}
use Rattle.presolve.specs.Quiet.{has_marked}
use Rattle.presolve.proofs.quiet.rows_with.Given as goal

-- the marks of those left complete the marks
abbrev pub invariant-loop-row : goal.invariant-loop-row
invariant-loop-row l = l.marks.items ++ map (has_marked l.columns) (map row_of (drop l.row-index l.rows)) ≡ map (has_marked l.columns) (map row_of l.rows)
