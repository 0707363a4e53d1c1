use Rattle.std.proofs.Common.{◌≡◌, [], ◌++◌, map, take, replicate}
use Rattle.dictionary.specs.Rows.{rows_of}
use Rattle.dictionary.proofs.starts.start_rows.Given as goal

-- so many empty rows
abbrev pub invariant-loop : goal.invariant-loop
invariant-loop g l = rows_of g.N.Exact.value l.forms.items ≡ replicate l.counter []

-- and the forms of the rows passed
abbrev pub invariant-loop-row : goal.invariant-loop-row
invariant-loop-row g l = rows_of g.N.Exact.value l.forms.items ≡ replicate l.columns [] ++ map (λ r. r.terms) (take l.row-index l.rows)
