use Rattle.std.proofs.Common.{◌≡◌, take}
use Rattle.dictionary.specs.Rows.{terms_of}
use Rattle.dictionary.proofs.widening.widened_row.Given as goal

-- the entries passed stand there
abbrev pub invariant-loop-entry : goal.invariant-loop-entry
invariant-loop-entry g l = terms_of (λ f. f) l.wide.items ≡ terms_of g.N.Exact.value (take l.entry-index l.row)
