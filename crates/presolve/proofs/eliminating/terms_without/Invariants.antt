use Rattle.std.proofs.Common.{◌≡◌, ◌++◌, drop}
use Rattle.reductions.specs.Reduction.{without_column}
use Rattle.presolve.proofs.eliminating.terms_without.Given as goal

-- those left of other columns complete what is pushed
abbrev pub invariant-loop-term : goal.invariant-loop-term
invariant-loop-term l = l.others.items ++ without_column l.column (drop l.term-index l.terms) ≡ without_column l.column l.terms
