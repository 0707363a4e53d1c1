use Rattle.std.proofs.Common.{◌≡◌, ◌++◌, drop, nat_lt}
use Rattle.std.specs.Prelude.{filter}
use Rattle.presolve.proofs.eliminating.push_below.Given as goal

-- those left that pass complete what is pushed
abbrev pub invariant-loop-term : goal.invariant-loop-term
invariant-loop-term l = l.changed.items ++ filter (λ t. nat_lt t.column l.column) (drop l.term-index l.terms) ≡ l.fn.changed.items ++ filter (λ t. nat_lt t.column l.column) l.terms
