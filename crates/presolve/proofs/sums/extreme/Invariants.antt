use Rattle.std.proofs.Common.{◌≡◌, drop}
use Rattle.reductions.specs.Limited.{extreme}
use Rattle.presolve.proofs.Extremal.{extreme_after}
use Rattle.presolve.proofs.sums.extreme.Given as goal

-- the sum of the terms left, after the sum so far, is the whole sum
abbrev pub invariant-loop-term : goal.invariant-loop-term
invariant-loop-term l = extreme_after l.system l.side l.sum (drop l.term-index l.terms) ≡ extreme l.system l.side l.terms
