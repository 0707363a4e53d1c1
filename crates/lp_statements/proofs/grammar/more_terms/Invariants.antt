use Rattle.std.proofs.Common.{length}
use Rattle.lp_statements.specs.Grammar.{term, only}
use Rattle.lp_statements.proofs.Repeats.{Repeating}
use Rattle.lp_statements.proofs.grammar.more_terms.Given as goal

abbrev pub invariant-loop-cursor : goal.invariant-loop-cursor
invariant-loop-cursor l = Repeating term only l.fn.cursor l.cursor l.most l.fn.terms.items l.terms.items

abbrev pub decreases-loop-cursor : goal.decreases-loop-cursor
decreases-loop-cursor l = length l.cursor
