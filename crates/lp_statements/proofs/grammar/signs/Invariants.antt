use Rattle.std.proofs.Common.{◌≡◌, length, false}
use Rattle.lp_statements.specs.Grammar.{signs}
use Rattle.lp_statements.proofs.grammar.signs.Given as goal

abbrev pub invariant-loop-minus : goal.invariant-loop-minus
invariant-loop-minus l = signs false l.fn.cursor ≡ signs l.negative l.cursor

abbrev pub decreases-loop-minus : goal.decreases-loop-minus
decreases-loop-minus l = length l.cursor
