use Rattle.std.proofs.Common.{◌≡◌, ◌*◌, ◌≤◌, ◌^◌, length, take}
use Rattle.std.specs.Prelude.{flat_map}
use Rattle.dictionary.specs.Rows.{rows_of}
use Rattle.dictionary.proofs.Values.{columns}
use Rattle.dictionary.proofs.dictionaries.Dictionary.stored.Given as goal

-- so many stand in the rows passed
abbrev pub invariant-loop-row : goal.invariant-loop-row
invariant-loop-row g l =
    record {
      items : rows_of g.N.Exact.value l.row-items ≡ l.self.rows;
      count : l.count ≡ length (flat_map columns (take l.row-index l.self.rows));
      few : l.count ≤ l.row-index * 2 ^ 31;
    }
