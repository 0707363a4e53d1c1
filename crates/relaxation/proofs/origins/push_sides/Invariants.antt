use Rattle.std.proofs.Common.{◌≡◌, ◌++◌, take}
use Rattle.std.specs.List.{filter}
use Rattle.certs.specs.Elastic.{is_side_of}
use Rattle.relaxation.specs.Origins.{soft_origins}
use Rattle.relaxation.proofs.origins.push_sides.Given as goal

-- those of the members passed are there
abbrev pub invariant-loop-variable : goal.invariant-loop-variable
invariant-loop-variable l = l.rows.items ≡ l.initial.rows.items ++ soft_origins l.model (filter (λ e. is_side_of l.row e.1) (take l.variable-index l.soft))
