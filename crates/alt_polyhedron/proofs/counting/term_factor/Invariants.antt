use Rattle.std.proofs.Common.{◌≡◌, drop}
use Rattle.rational.specs.Linear.{factor_of}
use Rattle.alt_polyhedron.proofs.counting.term_factor.Given as goal

-- the terms passed are of other columns
abbrev pub invariant-loop-term : goal.invariant-loop-term
invariant-loop-term l = factor_of (drop l.term-index l.terms) l.column ≡ factor_of l.terms l.column
