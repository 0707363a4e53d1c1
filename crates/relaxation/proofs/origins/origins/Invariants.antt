use Rattle.std.proofs.Common.{◌≡◌}
use Rattle.std.specs.List.{flat_map}
use Rattle.certs.specs.Ended.{numbers_from}
use Rattle.relaxation.specs.Origins.{row_origins}
use Rattle.relaxation.proofs.origins.origins.Given as goal

-- those of the rows passed are there
abbrev pub invariant-loop-row : goal.invariant-loop-row
invariant-loop-row l = l.rows.items ≡ flat_map (row_origins l.model l.enforced.members l.soft) (numbers_from 0 l.row)
