use Rattle.std.proofs.Common.{length}
use Rattle.lp_statements.specs.Grammar.{part, terms_in}
use Rattle.lp_statements.proofs.Repeats.{Repeating}
use Rattle.lp_statements.proofs.grammar.more_parts.Given as goal

abbrev pub invariant-loop-cursor : goal.invariant-loop-cursor
invariant-loop-cursor l = Repeating part terms_in l.fn.cursor l.cursor l.most l.fn.terms.items l.terms.items

abbrev pub decreases-loop-cursor : goal.decreases-loop-cursor
decreases-loop-cursor l = length l.cursor
