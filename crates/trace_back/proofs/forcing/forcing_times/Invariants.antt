use Rattle.rational.specs.Rational.{zero_ℚ}
use Rattle.trace_back.specs.Held.{weights_in}
use Rattle.trace_back.specs.Taking.{time_work, times_with as more}
use Rattle.trace_back.proofs.Folding.{HasMade}
use Rattle.trace_back.proofs.forcing.forcing_times.Given as goal

-- the terms passed are added
abbrev pub invariant-loop-term : goal.invariant-loop-term
invariant-loop-term l = HasMade (time_work l.forcing (weights_in l.weights)) (more l.forcing (weights_in l.weights)) zero_ℚ l.terms l.term-index l.times
