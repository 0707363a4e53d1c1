use Rattle.std.proofs.Common.{◌≡◌, map, take}
use Rattle.certs.specs.Rows.{row_of}
use Rattle.relaxation.specs.Origins.{origin_row}
use Rattle.relaxation.proofs.systems.elastic_rows.Given as goal

-- the rows passed are there
abbrev pub invariant-loop-origin : goal.invariant-loop-origin
invariant-loop-origin l = map row_of l.rows.items ≡ map (origin_row l.model l.enforced.members) (take l.origin-index l.origins)
