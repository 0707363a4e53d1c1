use Rattle.rational.specs.Rational.{zero_ℚ}
use Rattle.trace_back.specs.Held.{weights_in}
use Rattle.trace_back.specs.Taking.{give_work, given_with as given_more}
use Rattle.trace_back.proofs.Folding.{HasMade}
use Rattle.trace_back.proofs.taking.given_of.Given as goal

-- the changes passed are given
abbrev pub invariant-loop-change : goal.invariant-loop-change
invariant-loop-change l = HasMade (give_work l.weights.columns (weights_in l.weights)) (given_more l.weights.columns (weights_in l.weights)) zero_ℚ l.changes l.change-index l.given
