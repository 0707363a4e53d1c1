use Rattle.std.proofs.Common.{◌≡◌, ◌+◌, length, drop}
use Rattle.name_map.specs.Names.{names_of}
use Rattle.lp_reader.specs.Building.{rows_listed}
use Rattle.lp_reader.proofs.building.put_rows.Given as goal

abbrev pub invariant-loop-index : goal.invariant-loop-index
invariant-loop-index l = record {
  model : l.model ≡ record l.fn.model { rows = rows_listed (names_of l.names) l.fn.rows.items l.index };
  left : l.left.rest.items ≡ drop l.index l.fn.rows.items;
  count : l.left.rest.len + l.index ≡ length l.fn.rows.items;
}
