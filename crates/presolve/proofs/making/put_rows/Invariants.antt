use Rattle.std.proofs.Common.{◌≡◌, map, length}
use Rattle.std.specs.Vec.Iter.{into_iter_items, into_iter_len}
use Rattle.certs.specs.Rows.{row_of}
use Rattle.presolve.specs.Plans.{put_all}
use Rattle.presolve.proofs.making.put_rows.Given as goal

-- what is left to put completes the rows
abbrev pub invariant-loop-new : goal.invariant-loop-new
invariant-loop-new l = record {
  left : put_all (into_iter_items l.new-iterator) (map row_of l.rows) ≡ put_all l.fn.changed.items (map row_of l.fn.rows);
  count : into_iter_len l.new-iterator ≡ length (into_iter_items l.new-iterator);
}
