use Rattle.std.proofs.Common.{◌≡◌, take, true}
use Rattle.lp_model.specs.declared.members.Member.{Member}
use Rattle.lp_model.specs.Members.{has}
use Rattle.cert_check.specs.Sparse.{Reaches}
use Rattle.cert_check.proofs.sparse.reach.Given as goal

-- the members that the rows so far reach, and those of the column, are in the part
abbrev pub invariant-loop-row : goal.invariant-loop-row
invariant-loop-row l = record {
  rows : l.part.rows ≡ l.set.rows;
  columns : l.part.columns ≡ l.set.columns;
  keeps : (m : Member) → has l.fn.part.members m ≡ true → has l.part.members m ≡ true;
  reached : (m : Member) → has l.set.members m ≡ true → Reaches l.column (take l.row-index l.rows) m → has l.part.members m ≡ true;
}
