use Rattle.std.proofs.Common.{◌≡◌, take}
use Rattle.cert_check.specs.Sparse.{HasReached}
use Rattle.cert_check.proofs.sparse.reached.Given as goal

-- the members that the columns so far reach are in the part
abbrev pub invariant-loop-column : goal.invariant-loop-column
invariant-loop-column l = record {
  rows : l.part.rows ≡ l.set.rows;
  columns : l.part.columns ≡ l.set.columns;
  reached : HasReached l.rows l.set.members (take l.column-index l.columns) l.part.members;
}
