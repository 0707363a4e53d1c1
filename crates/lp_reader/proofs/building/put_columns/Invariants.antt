use Rattle.std.proofs.Common.{◌≡◌}
use Rattle.name_map.specs.Names.{names_of}
use Rattle.lp_reader.specs.Building.{columns_listed}
use Rattle.lp_reader.proofs.building.put_columns.Given as goal

abbrev pub invariant-loop-index : goal.invariant-loop-index
invariant-loop-index l = l.model ≡ record l.fn.model { columns = columns_listed (names_of l.columns.names) l.columns.bounds.items l.index }
