use Rattle.std.proofs.Common.{◌≡◌, false, drop, get_or}
use Rattle.std.specs.List.{list_any}
use Rattle.presolve.proofs.quiet.has_marked.Given as goal

-- those left tell
abbrev pub invariant-loop-term : goal.invariant-loop-term
invariant-loop-term l = list_any (λ t. get_or l.columns t.column false) (drop l.term-index l.terms) ≡ list_any (λ t. get_or l.columns t.column false) l.terms
