use Rattle.std.proofs.Common.{◌≡◌, ◌++◌, [], map, take}
use Rattle.certs.specs.Ended.{numbers_from}
use Rattle.certs.specs.Plain.{column_limits}
use Rattle.relaxation.specs.Origins.{from_zero}
use Rattle.relaxation.proofs.systems.elastic_columns.Given as goal

-- the limits of the columns passed are there
abbrev pub invariant-loop-column : goal.invariant-loop-column
invariant-loop-column l = l.columns.items ≡ map (column_limits l.model l.enforced.members []) (numbers_from 0 l.column)

-- and then those of the members passed
abbrev pub invariant-loop-soft : goal.invariant-loop-soft
invariant-loop-soft l = l.columns.items ≡ l.initial.columns.items ++ map (λ e. from_zero) (take l._soft-index l.soft)
