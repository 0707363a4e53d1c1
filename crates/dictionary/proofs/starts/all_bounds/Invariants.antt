use Rattle.std.proofs.Common.{◌≡◌, ◌++◌, map, take}
use Rattle.std.specs.Option.{option_map}
use Rattle.certs.specs.Rows.{row_of}
use Rattle.dictionary.proofs.starts.all_bounds.Given as goal

-- the limits of the columns passed are there
abbrev pub invariant-loop-limits : goal.invariant-loop-limits
invariant-loop-limits g l = map (λ b. record { lower = option_map g.N.Exact.value b.lower; upper = option_map g.N.Exact.value b.upper }) l.bounds.items ≡ take l.limits-index l.columns

-- and of the rows passed
abbrev pub invariant-loop-row : goal.invariant-loop-row
invariant-loop-row g l = map (λ b. record { lower = option_map g.N.Exact.value b.lower; upper = option_map g.N.Exact.value b.upper }) l.bounds.items ≡ l.columns ++ map (λ r. (row_of r).limits) (take l.row-index l.rows)
