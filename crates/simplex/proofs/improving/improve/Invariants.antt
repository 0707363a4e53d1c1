use Rattle.certs.specs.Improves.{Improves}
use Rattle.simplex.proofs.Reached.{IsReached}
use Rattle.simplex.proofs.improving.improve.Given as goal

abbrev pub invariant-loop-choice : goal.invariant-loop-choice
invariant-loop-choice g l = IsReached (Improves g.N.Exact.most) l.fn.dictionary l.dictionary l.fn.pivots l.pivots l.fn.turn l.turn

abbrev pub decreases-loop-choice : goal.decreases-loop-choice
decreases-loop-choice g l = l.pivots
