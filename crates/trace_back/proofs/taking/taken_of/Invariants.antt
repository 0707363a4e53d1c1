use Rattle.rational.specs.Rational.{zero_ℚ}
use Rattle.trace_back.specs.Held.{weights_in}
use Rattle.trace_back.specs.Taking.{take_work, taken_with as taken_more}
use Rattle.trace_back.proofs.Folding.{HasMade}
use Rattle.trace_back.proofs.taking.taken_of.Given as goal

-- the changes passed are taken
abbrev pub invariant-loop-change : goal.invariant-loop-change
invariant-loop-change l = HasMade (take_work l.weights.columns (weights_in l.weights)) (taken_more l.weights.columns (weights_in l.weights)) zero_ℚ l.changes l.change-index l.taken
