use Rattle.std.proofs.Common.{map}
use Rattle.certs.specs.Rows.{row_of}
use Rattle.presolve.specs.Eliminated.{other_rows}
use Rattle.presolve.proofs.Passed.{IsFar}
use Rattle.presolve.proofs.eliminating.changed_rows.Given as goal

-- the rows passed are changed
abbrev pub invariant-loop-place : goal.invariant-loop-place
invariant-loop-place l = IsFar l.elimination (other_rows l.elimination (map row_of l.rows)) l.place l.changes.items l.changed.items
