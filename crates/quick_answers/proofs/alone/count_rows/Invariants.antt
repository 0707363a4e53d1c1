use Rattle.std.proofs.Common.{◌≡◌, ◌≤◌, length}
use Rattle.std.specs.List.{filter}
use Rattle.certs.specs.Ended.{numbers_from}
use Rattle.certs.specs.Plain.{has_row}
use Rattle.quick_answers.proofs.alone.count_rows.Given as goal

-- those of the rows passed are counted
abbrev pub invariant-loop-row : goal.invariant-loop-row
invariant-loop-row l = record {
  counted : l.count ≡ length (filter (has_row l.set.members) (numbers_from 0 l.row));
  few : l.count ≤ l.row;
}
