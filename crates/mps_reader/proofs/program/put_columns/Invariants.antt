use Rattle.std.proofs.Common.{◌≡◌}
use Rattle.mps_reader.specs.Built.{columns_to}
use Rattle.mps_reader.proofs.program.put_columns.Given as goal

abbrev pub invariant-loop-index : goal.invariant-loop-index
invariant-loop-index l = l.model ≡ columns_to l.reader l.index
