use Rattle.std.proofs.Common.{◌≡◌, take}
use Rattle.dictionary.specs.Rows.{terms_of}
use Rattle.dictionary.proofs.starts.narrowed_row.Given as goal

-- the terms passed stand there
abbrev pub invariant-loop-term : goal.invariant-loop-term
invariant-loop-term g l = terms_of g.N.Exact.value l.row.items ≡ take l.term-index l.terms
