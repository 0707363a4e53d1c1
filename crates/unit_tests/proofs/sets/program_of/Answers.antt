use Rattle.std.proofs.Common.{length, None, false, rules}
use Rattle.lp_model.proofs.New.{new_column_formed, as_new_row_formed}
use Rattle.unit_tests.proofs.sets.program_of.Goals as goal

pub add_column-requires : goal.add_column-requires
add_column-requires c = rw c.new-column.ensures (new_column_formed _ None None false)

pub add_row-requires : goal.add_row-requires
add_row-requires c = as_new_row_formed (length c.loop-index-2.model.columns) _ _ _ _ _ c.new-row.ensures (search rules)
