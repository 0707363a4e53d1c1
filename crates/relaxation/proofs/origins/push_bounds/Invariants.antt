use Rattle.std.proofs.Common.{◌≡◌, ◌++◌, not, take}
use Rattle.std.specs.List.{filter}
use Rattle.certs.specs.Elastic.{is_row_side}
use Rattle.relaxation.specs.Origins.{soft_origins}
use Rattle.relaxation.proofs.origins.push_bounds.Given as goal

-- those of the members passed are there
abbrev pub invariant-loop-variable : goal.invariant-loop-variable
invariant-loop-variable l = l.rows.items ≡ l.initial.rows.items ++ soft_origins l.model (filter (λ e. not (is_row_side e.1)) (take l.variable-index l.soft))
