use Rattle.std.proofs.Common.{[]}
use Rattle.trace_back.specs.Held.{weights_in}
use Rattle.trace_back.proofs.Folding.{HasMade}
use Rattle.trace_back.proofs.Sums.{limit_work, limit_more}
use Rattle.trace_back.proofs.forcing.forced_limits.Given as goal

-- the limits of the terms passed are there
abbrev pub invariant-loop-term : goal.invariant-loop-term
invariant-loop-term l = HasMade (limit_work l.forcing (weights_in l.weights) l.times) (limit_more l.forcing (weights_in l.weights) l.times) [] l.terms l.term-index l.limits.items
