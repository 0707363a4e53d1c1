use Rattle.std.proofs.Common.{◌≡◌, take}
use Rattle.dictionary.specs.Rows.{rows_of}
use Rattle.dictionary.proofs.widening.widened_rows.Given as goal

-- the rows passed stand there
abbrev pub invariant-loop-row : goal.invariant-loop-row
invariant-loop-row g l = rows_of (λ f. f) l.wide.items ≡ rows_of g.N.Exact.value (take l.row-index l.rows)
